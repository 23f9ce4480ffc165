-- The first pair at which the closure answers true.
use Rattle.std.proofs.Common.{◌≡◌, ℕ, ◌+◌, ◌≤◌, ◌<◌, subst, MatchOption, Bool, true, false, ◌∙◌, rules}
use borrow.Author.Tests.{tests}
use Rattle.std.proofs.lemmas.Iterator.{first_from_Range}
use Rattle.address_sets.specs.SetLaws.{pair_at, is_ordered, every_ordered}
use Rattle.why.specs.WalkLaws.{found_pair}
use Rattle.why.proofs.sets.first_disordered.Goals as goal

pub returns : goal.returns
returns c =
    let w = c.args.set.now in
    let test : ℕ → Bool = λ j. is_ordered (pair_at w.words.now (w.at + 1) j) in
    c.unwrap_or.ensures
    ∙ found_pair every_ordered (λ p i. i) w.words.now w.at c.requires c.find-disordered.result
    (subst (λ n. MatchOption c.find-disordered.result ((k : ℕ) → 0 ≤ k → k < n → test k ≡ true) (λ i. (0 ≤ i) × (i < n) × (test i ≡ false) × ((k : ℕ) → 0 ≤ k → k < i → test k ≡ true))) c.count.ensures
    (first_from_Range _ _ _ c.find-disordered.result (λ j. test j ≡ false) (λ j. test j ≡ true) c.find-disordered.ensures.ran (λ x q k. search (rules, tests)) (λ x q k. search (rules, tests))))
