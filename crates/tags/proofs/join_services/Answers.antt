-- Four services, each by its own test.
use Rattle.tags.specs.TagLaws.{four_services}
use Rattle.rules.specs.Step.{joined_services}
use Rattle.common.specs.AddressSets.{in_set}
use Rattle.address_sets.specs.SetLaws.{set_of}
use native.Mathlib.Omega.{arith}
use Rattle.tags.proofs.join_services.Goals as goal

pub returns : goal.returns
unfolding joined_services
returns c =
    let g = c.args in
    simp (c.join_if-isolate.ensures, c.join_if-add_jump.ensures, c.join_if-add_store.ensures, c.join_if-add_read.ensures, c.contains.ensures, c.contains-2.ensures, c.contains-3.ensures, c.contains-4.ensures)
    (four_services (in_set (set_of g.set.now)) g.number g.services (omega arith))
