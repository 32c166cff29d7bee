use Rattle.std.proofs.Common.{◌*◌}
use Rattle.integers.proofs.Fills.{Filling}
use Rattle.slices.specs.Own.Moves.{woven_at}
use Rattle.slices.proofs.vectors.interleave.Given as goal

abbrev pub invariant-loop-i : goal.invariant-loop-i
invariant-loop-i l = Filling (woven_at l.top l.bottom) l.fn.out (2 * l.i) l.out
