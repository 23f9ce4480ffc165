-- `other`, arm by arm, by the laws of moves, with what an arm knows of the word: its fields, and the test whether the row fits.
use Rattle.std.proofs.Common.{lit<, refl}
use Rattle.moves.specs.MoveLaws as law
use Rattle.moves.proofs.other.Goals as goal

pub reg-requires : goal.reg-requires
reg-requires c = law.a_small c.args.word c.fields-i.result c.fields-i.ensures

pub reg-requires-then-fits-4 : goal.reg-requires-then-fits-4
reg-requires-then-fits-4 c = law.a_small c.args.word c.fields-i.result c.fields-i.ensures

pub reg-requires-then-fits-5 : goal.reg-requires-then-fits-5
reg-requires-then-fits-5 c = law.a_small c.args.word c.fields-i.result c.fields-i.ensures

pub reg-requires-then-fits-5-2 : goal.reg-requires-then-fits-5-2
reg-requires-then-fits-5-2 c = law.b_small c.args.word c.fields-i.result c.fields-i.ensures

pub reg-requires-then-fits-6 : goal.reg-requires-then-fits-6
reg-requires-then-fits-6 c = law.a_small c.args.word c.fields-i.result c.fields-i.ensures

pub reg-requires-then-fits-7 : goal.reg-requires-then-fits-7
reg-requires-then-fits-7 c = law.a_small c.args.word c.fields-i.result c.fields-i.ensures

pub reg-requires-then-fits-8 : goal.reg-requires-then-fits-8
reg-requires-then-fits-8 c = law.a_small c.args.word c.fields-i.result c.fields-i.ensures

pub bnz_move-requires : goal.bnz_move-requires
bnz_move-requires c = law.low_small c.args.word c.fields-i.result c.fields-i.ensures

pub returns-then-fits : goal.returns-then-fits
returns-then-fits c = law.fits c.args.word c.fields-i.result c.fields-i.ensures 0 c.in-0.is (lit< tt) _ c.fits.ensures _ _ _ _ _ _ _ _ _ _ c.if-fits.true
    (law.nop _ _ _ _ _ _ _ _ _ _ _ c.in-0.is _ refl c.goes.ensures)

pub returns-else-fits : goal.returns-else-fits
returns-else-fits c = law.stray c.args.word c.fields-i.result c.fields-i.ensures 0 c.in-0.is (lit< tt) _ c.fits.ensures _ _ _ _ _ _ _ _ _ _ c.if-fits.false c.stray.ensures

pub returns-then-fits-2 : goal.returns-then-fits-2
returns-then-fits-2 c = law.fits c.args.word c.fields-i.result c.fields-i.ensures 1 c.in-1.is (lit< tt) _ c.fits-in-1.ensures _ _ _ _ _ _ _ _ _ _ c.if-fits-2.true
    (law.const _ _ _ _ _ _ _ _ _ _ _ c.in-1.is _ refl c.puts.ensures)

pub returns-else-fits-2 : goal.returns-else-fits-2
returns-else-fits-2 c = law.stray c.args.word c.fields-i.result c.fields-i.ensures 1 c.in-1.is (lit< tt) _ c.fits-in-1.ensures _ _ _ _ _ _ _ _ _ _ c.if-fits-2.false c.stray-else-fits-2.ensures

pub returns-then-fits-3 : goal.returns-then-fits-3
returns-then-fits-3 c = law.fits c.args.word c.fields-i.result c.fields-i.ensures 2 c.in-2.is (lit< tt) _ c.fits-in-2.ensures _ _ _ _ _ _ _ _ _ _ c.if-fits-3.true
    (law.mov _ _ _ _ _ _ _ _ _ _ _ c.in-2.is _ refl _ c.reg.ensures c.puts-then-fits-3.ensures)

pub returns-else-fits-3 : goal.returns-else-fits-3
returns-else-fits-3 c = law.stray c.args.word c.fields-i.result c.fields-i.ensures 2 c.in-2.is (lit< tt) _ c.fits-in-2.ensures _ _ _ _ _ _ _ _ _ _ c.if-fits-3.false c.stray-else-fits-3.ensures

pub returns-then-fits-4 : goal.returns-then-fits-4
returns-then-fits-4 c = law.fits c.args.word c.fields-i.result c.fields-i.ensures 8 c.in-8.is (lit< tt) _ c.fits-in-8.ensures _ _ _ _ _ _ _ _ _ _ c.if-fits-4.true
    (law.load _ _ _ _ _ _ _ _ _ _ _ c.in-8.is _ refl _ c.reg-then-fits-4.ensures c.load_move.ensures)

pub returns-else-fits-4 : goal.returns-else-fits-4
returns-else-fits-4 c = law.stray c.args.word c.fields-i.result c.fields-i.ensures 8 c.in-8.is (lit< tt) _ c.fits-in-8.ensures _ _ _ _ _ _ _ _ _ _ c.if-fits-4.false c.stray-else-fits-4.ensures

pub returns-then-fits-5 : goal.returns-then-fits-5
returns-then-fits-5 c = law.fits c.args.word c.fields-i.result c.fields-i.ensures 9 c.in-9.is (lit< tt) _ c.fits-in-9.ensures _ _ _ _ _ _ _ _ _ _ c.if-fits-5.true
    (law.store _ _ _ _ _ _ _ _ _ _ _ c.in-9.is _ refl _ c.reg-then-fits-5.ensures _ c.reg-then-fits-5-2.ensures c.store_move.ensures)

pub returns-else-fits-5 : goal.returns-else-fits-5
returns-else-fits-5 c = law.stray c.args.word c.fields-i.result c.fields-i.ensures 9 c.in-9.is (lit< tt) _ c.fits-in-9.ensures _ _ _ _ _ _ _ _ _ _ c.if-fits-5.false c.stray-else-fits-5.ensures

pub returns-then-fits-6 : goal.returns-then-fits-6
returns-then-fits-6 c = law.fits c.args.word c.fields-i.result c.fields-i.ensures 10 c.in-10.is (lit< tt) _ c.fits-in-10.ensures _ _ _ _ _ _ _ _ _ _ c.if-fits-6.true
    (law.jump _ _ _ _ _ _ _ _ _ _ _ c.in-10.is _ c.reg-then-fits-6.ensures c.leaps.ensures)

pub returns-else-fits-6 : goal.returns-else-fits-6
returns-else-fits-6 c = law.stray c.args.word c.fields-i.result c.fields-i.ensures 10 c.in-10.is (lit< tt) _ c.fits-in-10.ensures _ _ _ _ _ _ _ _ _ _ c.if-fits-6.false c.stray-else-fits-6.ensures

pub returns-then-fits-7 : goal.returns-then-fits-7
returns-then-fits-7 c = law.fits c.args.word c.fields-i.result c.fields-i.ensures 11 c.in-11.is (lit< tt) _ c.fits-in-11.ensures _ _ _ _ _ _ _ _ _ _ c.if-fits-7.true
    (law.jal _ _ _ _ _ _ _ _ _ _ _ c.in-11.is _ c.reg-then-fits-7.ensures _ refl c.leaps-then-fits-7.ensures)

pub returns-else-fits-7 : goal.returns-else-fits-7
returns-else-fits-7 c = law.stray c.args.word c.fields-i.result c.fields-i.ensures 11 c.in-11.is (lit< tt) _ c.fits-in-11.ensures _ _ _ _ _ _ _ _ _ _ c.if-fits-7.false c.stray-else-fits-7.ensures

pub returns-then-fits-8 : goal.returns-then-fits-8
returns-then-fits-8 c = law.fits c.args.word c.fields-i.result c.fields-i.ensures 12 c.in-12.is (lit< tt) _ c.fits-in-12.ensures _ _ _ _ _ _ _ _ _ _ c.if-fits-8.true
    (law.bnz _ _ _ _ _ _ _ _ _ _ _ c.in-12.is _ c.reg-then-fits-8.ensures c.bnz_move.ensures)

pub returns-else-fits-8 : goal.returns-else-fits-8
returns-else-fits-8 c = law.stray c.args.word c.fields-i.result c.fields-i.ensures 12 c.in-12.is (lit< tt) _ c.fits-in-12.ensures _ _ _ _ _ _ _ _ _ _ c.if-fits-8.false c.stray-else-fits-8.ensures

pub returns-then-fits-9 : goal.returns-then-fits-9
returns-then-fits-9 c = law.fits c.args.word c.fields-i.result c.fields-i.ensures 13 c.in-13.is (lit< tt) _ c.fits-in-13.ensures _ _ _ _ _ _ _ _ _ _ c.if-fits-9.true
    (law.halt _ _ _ _ _ _ _ _ _ _ _ c.in-13.is c.stop.ensures)

pub returns-else-fits-9 : goal.returns-else-fits-9
returns-else-fits-9 c = law.stray c.args.word c.fields-i.result c.fields-i.ensures 13 c.in-13.is (lit< tt) _ c.fits-in-13.ensures _ _ _ _ _ _ _ _ _ _ c.if-fits-9.false c.stray-else-fits-9.ensures

pub returns-in_default : goal.returns-in_default
returns-in_default c = law.high c.args.word c.fields-i.result c.fields-i.ensures
    c.requires c.in_default.in_default-own.rest.0.0.0.0.0.0 c.in_default.in_default-own.rest.0.0.0.0.0.1
    c.in_default.in_default-own.rest.0.0.0.0.1 c.in_default.in_default-own.rest.0.0.0.1 c.in_default.in_default-own.rest.0.0.1 c.in_default.in_default-own.rest.0.1
    c.in_default.in_default-own.rest.1 _ _ _ _ _ _ _ _ _ _ c.stop-in_default.ensures
