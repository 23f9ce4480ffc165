-- Values, or the refusal that there is in place of one: the operations with refusals for faults, and what they mean.
use Rattle.std.specs.Prelude.{◌≡◌, refl, ℕ, ◌≤◌, ℤ, neg_ℤ, ◌+ℤ◌, ◌-ℤ◌, ◌*ℤ◌, Result}
use Rattle.answers.specs.Numbers as refusal
use Rattle.answers.specs.declared.Refusal.{Refusal}
use Rattle.sources.specs.Values.{Valued, bounded, both, after}
use Rattle.sources.specs.Values as source
use Rattle.sources.specs.Words.{in_field}
use Rattle.values.specs.Values as values
use Rattle.values.specs.Meaning as meaning
use Rattle.values.specs.Fields as fields
use Rattle.values.specs.declared.Value.{Value}

-- a value, or why there is none
abbrev pub Checked : Type 0
Checked = Result Value Refusal

-- a refusal is its own fault
abbrev pub fault : Refusal → Refusal
fault refused = refused

abbrev pub number : ℕ → Checked
number = values.number fault

abbrev pub unknown : Checked
unknown = values.unknown fault

abbrev pub plus : Checked → Checked → Checked
plus = values.plus refusal.number fault

abbrev pub minus : Checked → Checked → Checked
minus = values.minus refusal.number fault

abbrev pub times : Checked → Checked → Checked
times = values.times refusal.number fault

abbrev pub negated : Checked → Checked
negated = values.negated fault

abbrev pub fit : Checked → ℕ → ℕ → ℕ → Result ℕ Refusal
fit = values.fit refusal.number fault

abbrev pub meant : Checked → Valued ℤ
meant = meaning.meant refusal.number

abbrev pub fitted_of : Valued ℕ → Result ℕ Refusal
fitted_of = fields.fitted_of fault

pub number_means : (n : ℕ) → meant (number n) ≡ source.number n
number_means = meaning.number_means refusal.number fault (λ _. refl)

pub unknown_means : meant unknown ≡ source.unknown
unknown_means = meaning.unknown_means refusal.number fault (λ _. refl)

pub plus_means : (v w : Checked) → meant (plus v w) ≡ both (λ a b. bounded (a +ℤ b)) (meant v) (meant w)
plus_means = meaning.plus_means refusal.number fault (λ _. refl)

pub minus_means : (v w : Checked) → meant (minus v w) ≡ both (λ a b. bounded (a -ℤ b)) (meant v) (meant w)
minus_means = meaning.minus_means refusal.number fault (λ _. refl)

pub times_means : (v w : Checked) → meant (times v w) ≡ both (λ a b. bounded (a *ℤ b)) (meant v) (meant w)
times_means = meaning.times_means refusal.number fault (λ _. refl)

pub negated_means : (v : Checked) → meant (negated v) ≡ after (λ a. bounded (neg_ℤ a)) (meant v)
negated_means = meaning.negated_means refusal.number fault (λ _. refl)

pub fit_means : (below above size : ℕ) → size ≤ 4294967296 → (v : Checked) → fit v below above size ≡ fitted_of (after (in_field below above size) (meant v))
fit_means below above size small = fields.fit_means fault below above size small refusal.number
