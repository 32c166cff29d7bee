-- What stands half a turn on, as far as the loop has come.
use Rattle.std.proofs.Common.{◌≡◌, ◌-◌, ◌%◌, ◌≤◌, neg_ℤ}
use Rattle.integers.specs.Places.{at}
use Rattle.products.specs.Own.Rooms.{Written}
use Rattle.width_tables.proofs.matrices.half_turn_on.Given as goal

abbrev pub invariant-loop-i : goal.invariant-loop-i
invariant-loop-i l = (l.i ≤ l.half) × (l.i % 4 ≡ 0) × Written (λ j. neg_ℤ (at l.fn.room j)) l.half l.i l.fn.room l.room

abbrev pub decreases-loop-i : goal.decreases-loop-i
decreases-loop-i l = l.half - l.i
