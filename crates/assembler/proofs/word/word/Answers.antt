-- Each return is the side of the definition that the first token picks.
use Rattle.std.proofs.Common.{ap}
use Rattle.tokens.specs.Kinds.{seen, kind_number, other_kind}
use Rattle.assembler.specs.HoldingLaws.{word_plain, word_constant, word_branch, word_one, word_two, word_three, word_datum}
use Rattle.assembler.proofs.word.word.Goals as goal

pub returns-in-Plain : goal.returns-in-Plain
returns-in-Plain c = word_plain _ _ _ _ (seen c.token-t.result) c.token-t.ensures _ (ap kind_number c.in-Plain.is) c.coded.ensures

pub returns-in-Const : goal.returns-in-Const
returns-in-Const c = word_constant _ _ _ _ (seen c.token-t.result) c.token-t.ensures _ (ap kind_number c.in-Const.is) c.constant.ensures

pub returns-in-Bnz : goal.returns-in-Bnz
returns-in-Bnz c = word_branch _ _ _ _ (seen c.token-t.result) c.token-t.ensures _ (ap kind_number c.in-Bnz.is) c.branch-line.ensures

pub returns-in-One : goal.returns-in-One
returns-in-One c = word_one _ _ _ _ (seen c.token-t.result) c.token-t.ensures _ (ap kind_number c.in-One.is) c.one.ensures

pub returns-in-Two : goal.returns-in-Two
returns-in-Two c = word_two _ _ _ _ (seen c.token-t.result) c.token-t.ensures _ (ap kind_number c.in-Two.is) c.two.ensures

pub returns-in-Three : goal.returns-in-Three
returns-in-Three c = word_three _ _ _ _ (seen c.token-t.result) c.token-t.ensures _ (ap kind_number c.in-Three.is) c.three.ensures

pub returns-in_default : goal.returns-in_default
returns-in_default c = let n = c.in_default in
    word_datum _ _ _ _ (seen c.token-t.result) c.token-t.ensures _ (other_kind _ _ n.not-Plain) (other_kind _ _ n.not-Const) (other_kind _ _ n.not-Bnz) (other_kind _ _ n.not-One) (other_kind _ _ n.not-Two) (other_kind _ _ n.not-Three) c.datum.ensures
