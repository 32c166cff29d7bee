use Rattle.std.proofs.Common.{◌≡◌, ◌+◌, ◌*◌, arith}
use Rattle.std.proofs.lemmas.Int.{ints}
use Rattle.integers.proofs.Fills.{filling-none, filling-next, filling-all}
use Rattle.slices.proofs.MoveLaws.{woven-even, woven-odd}
use Rattle.slices.proofs.vectors.interleave.Goals as goal

pub loop-i-init : goal.loop-i-init
loop-i-init c = filling-none _ _

pub loop-i-preserved : goal.loop-i-preserved
loop-i-preserved c =
    let e : 2 * (c.loop-i.i + 1) ≡ 2 * c.loop-i.i + 1 + 1 = omega arith in
    rw e (filling-next (filling-next c.loop-i.invariant (rw woven-even (omega (arith, ints)))) (rw woven-odd (omega (arith, ints))))

pub returns : goal.returns
returns c = filling-all c.loop-i.invariant (omega arith)
