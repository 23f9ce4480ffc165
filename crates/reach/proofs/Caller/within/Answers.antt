-- The caller reaches all of each pair.
use Rattle.std.proofs.Common.{rules, arith, ◌≡◌, ◌-◌, get_or}
use borrow.Author.Tests.{tests}
use mathlib.Core.Path.{refl}
use Rattle.std.proofs.lemmas.Iterator.{YieldsList-from_range}
use Rattle.std.proofs.lemmas.Iterator.Search.{all_from_yields_List}
use Rattle.address_sets.specs.SetLaws.{passes_at, every_of_all}
use Rattle.reach.specs.Called.{asked_by, reaches}
use Rattle.reach.specs.WalkLaws.{passes, every_within}
use Rattle.reach.proofs.Caller.within.Goals as goal

pub returns : goal.returns
returns c =
    let set = c.args.set.now in
    let test = reaches (asked_by c.args.self c.args.tags.now) c.args.self.number in
    every_of_all _ _ _ (every_within test) _
    (all_from_yields_List (passes_at (passes test) set.words.now set.at) _ _ c.all.result c.all.ensures.ran
    (YieldsList-from_range 0 c.count.result _ refl (let e : c.count.result - 0 ≡ get_or set.words.now set.at 0 = omega arith in e)) (λ x b q k. search (rules, tests)))
