-- What stands at the four places of a turn is small, and what the turn comes to.
use Rattle.std.proofs.Common.{arith}
use Rattle.lifts.proofs.FourLaws.{turns-none, turns-size, turns_next, turns-all}
use Rattle.lifts.proofs.lifts.second.Goals as goal

pub loop-i-init : goal.loop-i-init
loop-i-init c = turns-none _ _

pub second_at-requires-clause-i_bound : goal.second_at-requires-clause-i_bound
second_at-requires-clause-i_bound c = turns-size c.loop-i.invariant c.requires.within _ (omega arith)

pub second_at-requires-in-loop-i-clause-i_bound : goal.second_at-requires-in-loop-i-clause-i_bound
second_at-requires-in-loop-i-clause-i_bound c = turns-size c.loop-i.invariant c.requires.within _ (omega arith)

pub second_at-requires-in-loop-i-2-clause-i_bound : goal.second_at-requires-in-loop-i-2-clause-i_bound
second_at-requires-in-loop-i-2-clause-i_bound c = turns-size c.loop-i.invariant c.requires.within _ (omega arith)

pub second_at-requires-in-loop-i-3-clause-i_bound : goal.second_at-requires-in-loop-i-3-clause-i_bound
second_at-requires-in-loop-i-3-clause-i_bound c = turns-size c.loop-i.invariant c.requires.within _ (omega arith)

pub loop-i-preserved : goal.loop-i-preserved
loop-i-preserved c =
    turns_next c.loop-i.invariant c.requires.top_len c.loop-i-test.true
    c.second_at.type_inv c.second_at.ensures c.second_at-in-loop-i.type_inv c.second_at-in-loop-i.ensures
    c.second_at-in-loop-i-2.type_inv c.second_at-in-loop-i-2.ensures c.second_at-in-loop-i-3.type_inv c.second_at-in-loop-i-3.ensures
    c.put.ensures

pub returns : goal.returns
returns c = turns-all c.loop-i.invariant (omega arith)

pub returns-2 : goal.returns-2
returns-2 c =
    turns-all
    (turns_next c.loop-i.invariant c.requires.top_len c.loop-i-test.true
    c.second_at.type_inv c.second_at.ensures c.second_at-in-loop-i.type_inv c.second_at-in-loop-i.ensures
    c.second_at-in-loop-i-2.type_inv c.second_at-in-loop-i-2.ensures c.second_at-in-loop-i-3.type_inv c.second_at-in-loop-i-3.ensures
    c.put.ensures)
    (omega arith)
