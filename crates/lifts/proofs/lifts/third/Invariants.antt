-- Four places a turn: what stands there is moved by its amount.
use Rattle.std.proofs.Common.{◌-◌, ◌*ℤ◌, length}
use Rattle.integers.specs.Floor.{round}
use Rattle.integers.specs.Places.{at}
use Rattle.rows.specs.Orders.{row_at, secant_out}
use Rattle.slices.specs.Own.Moves.{moved}
use Rattle.lifts.specs.Own.Moves.{stage3_amount}
use Rattle.lifts.proofs.FourLaws.{Turns}
use Rattle.lifts.proofs.lifts.third.Given as goal

abbrev pub invariant-loop-i : goal.invariant-loop-i
invariant-loop-i l = Turns (λ n j z. moved l.undo z (round 34 (stage3_amount (secant_out n (at l.z) j) (row_at l.back l.flips l.y j) (at l.tangents (n - 1 - j) *ℤ at l.top (n - 1 - j))))) l.fn.bottom l.i l.bottom

abbrev pub decreases-loop-i : goal.decreases-loop-i
decreases-loop-i l = length l.fn.bottom - l.i
