-- A level has room, and its products are small.
use Rattle.std.proofs.Common.{arith}
use Rattle.slices.specs.Own.Moves.{moved}
use Rattle.products.proofs.RoomLaws.{spread-laid}
use Rattle.products.proofs.WholeLaws.{ascended-leaves, double-le, ascend-fours, third-some, ascend-room, ascend-small, positive, ascended-next, ascended-end}
use Rattle.products.proofs.whole.ascend.Goals as goal

pub loop-n-init : goal.loop-n-init
loop-n-init c = ascended-leaves c.requires

pub spread_lists-requires-clause-h_value : goal.spread_lists-requires-clause-h_value
spread_lists-requires-clause-h_value c =
    let d = c.loop-n.invariant in
    let more = c.loop-n-test.true in
    (ascend-fours d more, third-some d more, ascend-room d more c.requires)

pub spread_lists-requires-clause-small : goal.spread_lists-requires-clause-small
spread_lists-requires-clause-small c = ascend-small c.loop-n.invariant c.loop-n-test.true c.requires

pub overflow_add-n : goal.overflow_add-n
overflow_add-n c = omega (arith, double-le c.loop-n.invariant c.loop-n-test.true)

pub loop-n-smaller : goal.loop-n-smaller
loop-n-smaller c = omega (arith, double-le c.loop-n.invariant c.loop-n-test.true, positive c.loop-n.invariant)

pub loop-n-preserved : goal.loop-n-preserved
unfolding moved
loop-n-preserved c =
    let d = c.loop-n.invariant in
    let more = c.loop-n-test.true in
    let w = c.spread_lists.ensures in
    ascended-next d more c.spread_lists.new.room w.long (spread-laid _ _ _ _ w (ascend-room d more c.requires))

pub returns : goal.returns
returns c = ascended-end c.loop-n.invariant c.loop-n-test.false
