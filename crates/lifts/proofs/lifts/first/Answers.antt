-- What the four calls of a turn gave, and what it comes to.
use Rattle.std.proofs.Common.{arith}
use Rattle.lifts.proofs.FourLaws.{turns-none, turns-size, turns-moved, turns-all, called-within, gave}
use Rattle.lifts.proofs.lifts.first.Goals as goal

pub loop-i-init : goal.loop-i-init
loop-i-init c = turns-none _ _

pub move_four-requires-clause-by_index : goal.move_four-requires-clause-by_index
move_four-requires-clause-by_index c = λ j. turns-size c.loop-i.invariant c.requires.within_2 _ (omega arith)

pub move_four-requires-clause-within : goal.move_four-requires-clause-within
move_four-requires-clause-within c =
    called-within
    (gave c.first_at.type_inv c.first_at.ensures) (gave c.first_at-in-loop-i.type_inv c.first_at-in-loop-i.ensures)
    (gave c.first_at-in-loop-i-2.type_inv c.first_at-in-loop-i-2.ensures) (gave c.first_at-in-loop-i-3.type_inv c.first_at-in-loop-i-3.ensures)

pub loop-i-preserved : goal.loop-i-preserved
loop-i-preserved c =
    turns-moved _ _ c.loop-i.invariant c.requires.bottom_len c.loop-i-test.true
    (gave c.first_at.type_inv c.first_at.ensures) (gave c.first_at-in-loop-i.type_inv c.first_at-in-loop-i.ensures)
    (gave c.first_at-in-loop-i-2.type_inv c.first_at-in-loop-i-2.ensures) (gave c.first_at-in-loop-i-3.type_inv c.first_at-in-loop-i-3.ensures)
    c.move_four.ensures

pub returns : goal.returns
returns c = turns-all c.loop-i.invariant (omega arith)

pub returns-2 : goal.returns-2
returns-2 c =
    turns-all
    (turns-moved _ _ c.loop-i.invariant c.requires.bottom_len c.loop-i-test.true
    (gave c.first_at.type_inv c.first_at.ensures) (gave c.first_at-in-loop-i.type_inv c.first_at-in-loop-i.ensures)
    (gave c.first_at-in-loop-i-2.type_inv c.first_at-in-loop-i-2.ensures) (gave c.first_at-in-loop-i-3.type_inv c.first_at-in-loop-i-3.ensures)
    c.move_four.ensures)
    (omega arith)
