-- What four products are asked, and what a turn comes to.
use Rattle.std.proofs.Common.{◌^◌, arith}
use Rattle.slices.proofs.FourLaws.{listed-within}
use Rattle.lifts.proofs.FourLaws.{turns-none, turns-size, turns-all, products-next}
use Rattle.lifts.proofs.lifts.fourth.Invariants.{place}
use Rattle.lifts.proofs.lifts.fourth.Goals as goal

pub loop-i-init : goal.loop-i-init
loop-i-init c = turns-none _ _

pub move_by_products-requires-clause-by_index : goal.move_by_products-requires-clause-by_index
move_by_products-requires-clause-by_index c = λ j. turns-size c.loop-i.invariant c.requires.within_3 _ (omega arith)

pub move_by_products-requires-clause-within : goal.move_by_products-requires-clause-within
move_by_products-requires-clause-within c = listed-within _ _ (2 ^ 28) c.four_at.ensures (λ j l. c.requires.within.size _)

pub move_by_products-requires-clause-within_2 : goal.move_by_products-requires-clause-within_2
move_by_products-requires-clause-within_2 c = listed-within _ _ (2 ^ 34) c.four_at-in-loop-i.ensures (λ j l. c.requires.within_2.size _)

pub loop-i-preserved : goal.loop-i-preserved
loop-i-preserved c = products-next c.args.undo place c.args.c.now c.args.x.now c.loop-i.invariant c.requires.y_len c.loop-i-test.true c.four_at.ensures c.four_at-in-loop-i.ensures c.move_by_products.ensures

pub returns : goal.returns
returns c = turns-all c.loop-i.invariant (omega arith)

pub returns-2 : goal.returns-2
returns-2 c = turns-all (products-next c.args.undo place c.args.c.now c.args.x.now c.loop-i.invariant c.requires.y_len c.loop-i-test.true c.four_at.ensures c.four_at-in-loop-i.ensures c.move_by_products.ensures) (omega arith)
