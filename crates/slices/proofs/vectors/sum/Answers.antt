use Rattle.std.proofs.Common.{arith, sym}
use Rattle.std.proofs.lemmas.Int.{ints}
use Rattle.integers.proofs.Sums.{sum_zeros, sum-taken}
use Rattle.slices.proofs.vectors.sum.Goals as goal

pub loop-n-init : goal.loop-n-init
loop-n-init c = (sym (sum_zeros 0), omega (arith, ints), omega (arith, ints))

pub loop-n-preserved : goal.loop-n-preserved
loop-n-preserved c = (rw sum-taken (grind (arith, ints)), omega (arith, ints), omega (arith, ints))
