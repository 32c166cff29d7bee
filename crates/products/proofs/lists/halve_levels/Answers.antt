-- A level has room, and its numbers are small.
use Rattle.products.proofs.LevelRooms.{half-fours, count-some}
use Rattle.products.proofs.TableLaws.{halved-top, halve-room, halve-small, halved-next, halved-end}
use Rattle.products.proofs.lists.halve_levels.Goals as goal

pub loop-n-init : goal.loop-n-init
loop-n-init c = halved-top c.args.m c.args.room.now c.requires

pub halve_lists-requires-clause-q_value : goal.halve_lists-requires-clause-q_value
halve_lists-requires-clause-q_value c =
    let d = c.loop-n.invariant in
    let more = c.loop-n-test.true in
    (half-fours d.here more, count-some d.here more, halve-room d c.requires more)

pub halve_lists-requires-clause-small : goal.halve_lists-requires-clause-small
halve_lists-requires-clause-small c = halve-small c.loop-n.invariant c.requires c.loop-n-test.true

pub loop-n-preserved : goal.loop-n-preserved
loop-n-preserved c = halved-next c.loop-n.invariant c.requires c.loop-n-test.true c.halve_lists.new.room c.halve_lists.auto.room c.halve_lists.ensures

pub returns : goal.returns
returns c = halved-end c.loop-n.invariant c.loop-n-test.false
