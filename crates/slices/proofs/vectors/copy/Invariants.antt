use Rattle.integers.specs.Places.{at}
use Rattle.integers.proofs.Fills.{Filling}
use Rattle.slices.proofs.vectors.copy.Given as goal

abbrev pub invariant-loop-i : goal.invariant-loop-i
invariant-loop-i l = Filling (at l.x) l.fn.out l.i l.out
