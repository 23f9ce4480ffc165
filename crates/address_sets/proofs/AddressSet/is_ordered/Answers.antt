-- Each pair has first < past.
use Rattle.std.proofs.Common.{rules, arith, ◌≡◌, ◌-◌, get_or}
use borrow.Author.Tests.{tests}
use mathlib.Core.Path.{refl}
use Rattle.std.proofs.lemmas.Iterator.{YieldsList-from_range}
use Rattle.std.proofs.lemmas.Iterator.Search.{all_from_yields_List}
use Rattle.address_sets.specs.SetLaws.{passes_at, is_ordered, every_ordered, every_of_all}
use Rattle.address_sets.proofs.AddressSet.is_ordered.Goals as goal

pub returns : goal.returns
returns c =
    let set = c.args.self.now in
    every_of_all _ _ _ every_ordered _
    (all_from_yields_List (passes_at is_ordered set.words.now set.at) _ _ c.all.result c.all.ensures.ran
    (YieldsList-from_range 0 c.count.result _ refl (let e : c.count.result - 0 ≡ get_or set.words.now set.at 0 = omega arith in e)) (λ x b q k. search (rules, tests)))
