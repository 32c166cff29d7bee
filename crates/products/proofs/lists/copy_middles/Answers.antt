-- The next middle is copied from where nothing was written yet.
use Rattle.std.proofs.Common.{◌+◌, ◌*◌, ◌≤◌, arith}
use Rattle.std.proofs.Math.Nat.{mul-le-mul_right}
use Rattle.products.proofs.RoomLaws.{all-written-next}
use Rattle.products.proofs.lists.copy_middles.Goals as goal

pub loop-v-preserved : goal.loop-v-preserved
loop-v-preserved c =
    let n = c.args.q + c.args.q + (c.args.q + c.args.q) in
    let w = c.loop-v.invariant in
    let inside : (c.loop-v.v + 1) * n ≤ c.args.k * n = mul-le-mul_right n (omega arith) in
    all-written-next w _ (λ j l. w.old _ (omega arith)) c.copy_list.ensures
