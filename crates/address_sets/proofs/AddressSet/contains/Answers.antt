-- Some pair has x.
use Rattle.std.proofs.Common.{rules, arith, ◌≡◌, ◌-◌, get_or}
use borrow.Author.Tests.{tests}
use mathlib.Core.Path.{refl}
use Rattle.std.proofs.lemmas.Iterator.{YieldsList-from_range}
use Rattle.std.proofs.lemmas.Iterator.Search.{any_from_yields_List}
use Rattle.common.specs.AddressSets.{in_pair}
use Rattle.address_sets.specs.SetLaws.{passes_at, in_of_any}
use Rattle.address_sets.proofs.AddressSet.contains.Goals as goal

pub returns : goal.returns
returns c =
    let set = c.args.self.now in
    in_of_any _ _ _ _
    (any_from_yields_List (passes_at (λ p. in_pair p c.args.x) set.words.now set.at) _ _ c.any.result c.any.ensures.ran
    (YieldsList-from_range 0 c.count.result _ refl (let e : c.count.result - 0 ≡ get_or set.words.now set.at 0 = omega arith in e)) (λ x b q k. search (rules, tests)))
