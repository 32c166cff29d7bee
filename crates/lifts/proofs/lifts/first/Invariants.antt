-- Four places a turn: what stands there is moved by its amount.
use Rattle.std.proofs.Common.{◌-◌, ◌+ℤ◌, length}
use Rattle.integers.specs.Floor.{round}
use Rattle.integers.specs.Places.{at}
use Rattle.rows.specs.Orders.{row_at}
use Rattle.slices.specs.Own.Moves.{moved}
use Rattle.lifts.proofs.FourLaws.{Turns}
use Rattle.lifts.proofs.lifts.first.Given as goal

abbrev pub invariant-loop-i : goal.invariant-loop-i
invariant-loop-i l = Turns (λ n j z. moved l.undo z (at l.top j +ℤ round 30 (row_at l.back l.flips l.y j))) l.fn.bottom l.i l.bottom

abbrev pub decreases-loop-i : goal.decreases-loop-i
decreases-loop-i l = length l.fn.bottom - l.i
