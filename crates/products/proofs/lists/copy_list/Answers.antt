-- Four numbers are as they were when a turn reads them: what is written lies behind them.
use Rattle.std.proofs.Common.{◌≡◌, ◌∙◌, ◌+◌, ◌*◌, ap, arith}
use Rattle.integers.specs.Places.{at}
use Rattle.integers.proofs.PlaceLaws.{places-ext}
use Rattle.products.proofs.RoomLaws.{written_next, written-before}
use Rattle.products.proofs.lists.copy_list.Goals as goal

pub loop-u-preserved : goal.loop-u-preserved
loop-u-preserved c =
    let w = c.loop-u.invariant in
    let i = 4 * c.loop-u.u in
    let next : 4 * (c.loop-u.u + 1) ≡ i + 4 = omega arith in
    rw (next, c.put.ensures)
    (written_next w (omega arith) c.four_at-x.result
    (c.four_at-x.ensures ∙ places-ext 4 _ _ (λ j l. written-before w _ (omega arith) ∙ ap (at c.args.room.now) (let e : c.args.from + i + j ≡ c.args.from + (i + j) = omega arith in e))))

pub returns : goal.returns
returns c =
    let e : 4 * c.loop-u.u ≡ c.args.h = omega arith in
    rw e at c.loop-u.invariant
