-- The next list is read where no sum stands yet.
use Rattle.std.proofs.Common.{◌≡◌, ◌+◌, ◌*◌, ◌≤◌, ◌+ℤ◌, ap₂, arith}
use Rattle.std.proofs.Math.Nat.{mul-le-mul_right}
use Rattle.products.proofs.RoomLaws.{all-written-next, summed-laid}
use Rattle.products.proofs.levels.append.Goals as goal

pub loop-v-preserved : goal.loop-v-preserved
loop-v-preserved c =
    let h = c.args.h in
    let w = c.loop-v.invariant in
    let inside : (c.loop-v.v + 1) * (h + h) ≤ c.args.k * (h + h) = mul-le-mul_right (h + h) (omega arith) in
    all-written-next w _ (λ j l. ap₂ ◌+ℤ◌ (w.old _ (omega arith)) (w.old _ (omega arith))) c.append_list.ensures

pub returns : goal.returns
returns c =
    let e : c.loop-v.v ≡ c.args.k = omega arith in
    summed-laid c.args.h c.args.k c.args.room.now c.loop-v.room (rw e at c.loop-v.invariant) (omega arith)
