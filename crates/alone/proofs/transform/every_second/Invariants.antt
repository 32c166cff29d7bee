use Rattle.std.proofs.Common.{◌+◌, ◌*◌}
use Rattle.integers.specs.Places.{at}
use Rattle.integers.proofs.Fills.{Filling}
use Rattle.alone.proofs.transform.every_second.Given as goal

abbrev pub invariant-loop-i : goal.invariant-loop-i
invariant-loop-i l = Filling (λ i. at l.x (2 * i + l.first)) l.fn.out l.i l.out
