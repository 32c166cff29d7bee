-- After e turns the angle is that of 3^e, less whole turns.
use Rattle.std.proofs.Common.{◌≡◌, ◌%◌, ◌≤◌}
use Rattle.tables.specs.Widths.{half_width}
use Rattle.width_tables.specs.Orders.{angle_at, Ordered}
use Rattle.width_tables.proofs.order.by_threes.Given as goal

abbrev pub invariant-loop-e : goal.invariant-loop-e
invariant-loop-e l = (l.j ≡ angle_at l.width l.e % 1024) × Ordered l.width l.e l.fn.t l.t
