-- What a call answers, by whether it was refused.
use Rattle.std.specs.Prelude.{◌≡◌, refl, true, false, Result, Ok, Err}
use Rattle.std.specs.Result.{is_ok}
use Rattle.common.specs.Answers as answer
use Rattle.answers.specs.declared.Refusal.{Refusal}
use Rattle.answers.specs.Numbers.{answer_of}
use Rattle.answers.specs.Results.{number-not-0}

pub answer_done : {A : Type 0} (r : Result A Refusal) → is_ok r ≡ true → answer_of r ≡ answer.done
answer_done (Ok x) h = refl
answer_done (Err e) h = absurd (cc)

pub answer_refused : {A : Type 0} (r : Result A Refusal) → is_ok r ≡ false → (answer_of r ≡ answer.done → ⊥)
answer_refused (Ok x) h = absurd (cc)
answer_refused (Err e) h = number-not-0 e
