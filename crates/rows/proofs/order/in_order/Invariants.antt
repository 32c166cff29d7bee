-- As far as the loop has come, the numbers stand in their order.
use Rattle.std.proofs.Common.{◌≡◌, ◌-◌, ◌%◌, ◌≤◌, length}
use Rattle.integers.proofs.Fills.{Filling}
use Rattle.rows.specs.Orders.{row_at}
use Rattle.rows.proofs.order.in_order.Given as goal

abbrev pub invariant-loop-k : goal.invariant-loop-k
invariant-loop-k l = (l.k ≤ length l.fn.out) × (l.k % 4 ≡ 0) × Filling (row_at l.places l.signs l.x) l.fn.out l.k l.out

abbrev pub decreases-loop-k : goal.decreases-loop-k
decreases-loop-k l = length l.fn.out - l.k
