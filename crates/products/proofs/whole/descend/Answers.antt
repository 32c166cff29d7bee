-- A level has room, and its numbers are small.
use Rattle.products.proofs.LevelRooms.{half-fours, count-some}
use Rattle.products.proofs.WholeLaws.{descended-top, descend-room, descend-small, descended-next, descended-end}
use Rattle.products.proofs.whole.descend.Goals as goal

pub loop-n-init : goal.loop-n-init
loop-n-init c = descended-top c.args.m c.args.room.now c.requires

pub append-requires-clause-h_value : goal.append-requires-clause-h_value
append-requires-clause-h_value c =
    let d = c.loop-n.invariant in
    let more = c.loop-n-test.true in
    (half-fours d.here more, count-some d.here more, descend-room d more c.requires)

pub append-requires-clause-small : goal.append-requires-clause-small
append-requires-clause-small c = descend-small c.loop-n.invariant c.loop-n-test.true c.requires.sizes

pub loop-n-preserved : goal.loop-n-preserved
loop-n-preserved c = descended-next c.loop-n.invariant c.loop-n-test.true c.append.new.room c.append.auto.room c.append.ensures

pub returns : goal.returns
returns c = descended-end c.loop-n.invariant c.loop-n-test.false
