-- The numbers that the loop has passed are taken so many times.
use Rattle.std.proofs.Common.{◌*ℤ◌}
use Rattle.integers.specs.Places.{at}
use Rattle.integers.proofs.Fills.{Filling}
use Rattle.width_tables.proofs.matrices.scaled.Given as goal

abbrev pub invariant-loop-x : goal.invariant-loop-x
invariant-loop-x l = Filling (λ k. l.by *ℤ at l.fn.list k) l.fn.list l.x-index l.list
