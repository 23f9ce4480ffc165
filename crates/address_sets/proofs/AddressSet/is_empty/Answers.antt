-- A set of no pairs is the empty one.
use Rattle.std.proofs.Common.{ap, sym, ◌∙◌, ℕ, nat_eq}
use Rattle.address_sets.specs.SetLaws.{empty_count}
use Rattle.address_sets.proofs.AddressSet.is_empty.Goals as goal

pub returns : goal.returns
returns c = ap (λ (k : ℕ). nat_eq k 0) c.count.ensures ∙ sym (empty_count _ _)
