-- Four numbers of both halves are as they were when a turn reads them.
use Rattle.std.proofs.Common.{◌≡◌, ◌+◌, ◌*◌, ◌≤◌, arith}
use Rattle.products.proofs.RoomLaws.{spread-small_first, spread-small_second, spread-within, spread-next}
use Rattle.products.proofs.levels.spread_list.Goals as goal

pub move_four-requires : goal.move_four-requires
move_four-requires c =
    let s = c.loop-u.invariant in
    let l : 4 * c.loop-u.u + 4 ≤ c.args.h = omega arith in
    (omega arith, omega arith, spread-small_first s (omega arith) l c.requires.small, spread-within s (omega arith) l c.requires.small c.four_at-z.ensures)

pub move_four-requires-in-loop-u : goal.move_four-requires-in-loop-u
move_four-requires-in-loop-u c =
    let s = c.loop-u.invariant in
    let l : 4 * c.loop-u.u + 4 ≤ c.args.h = omega arith in
    (omega arith, omega arith, spread-small_second s (omega arith) l c.requires.small c.move_four.ensures, spread-within s (omega arith) l c.requires.small c.four_at-z.ensures)

pub loop-u-preserved : goal.loop-u-preserved
loop-u-preserved c = spread-next c.loop-u.invariant (omega arith) (omega arith) (omega arith) c.four_at-z.ensures c.move_four.ensures c.move_four-in-loop-u.ensures

pub returns : goal.returns
returns c =
    let e : 4 * c.loop-u.u ≡ c.args.h = omega arith in
    rw e at c.loop-u.invariant
