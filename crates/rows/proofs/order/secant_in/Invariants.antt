-- As far as the loop has come, the numbers stand in the order of the secants.
use Rattle.std.proofs.Common.{length}
use Rattle.integers.specs.Places.{at}
use Rattle.integers.proofs.Fills.{Filling}
use Rattle.rows.specs.Orders.{secant_in}
use Rattle.rows.proofs.order.secant_in.Given as goal

abbrev pub invariant-loop-j : goal.invariant-loop-j
invariant-loop-j l = Filling (secant_in (length l.x) (at l.x)) l.fn.out l.j l.out
