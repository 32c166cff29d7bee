-- Four places a turn: what stands there is lifted, or lifted back.
use Rattle.std.proofs.Common.{◌-◌, length}
use Rattle.integers.specs.Floor.{round}
use Rattle.rows.specs.Orders.{row_at}
use Rattle.lifts.specs.Own.Moves.{stage2_at}
use Rattle.lifts.proofs.FourLaws.{Turns}
use Rattle.lifts.proofs.lifts.second.Given as goal

abbrev pub invariant-loop-i : goal.invariant-loop-i
invariant-loop-i l = Turns (λ n j z. stage2_at l.undo j z (round 31 (row_at l.back l.flips l.y j))) l.fn.top l.i l.top

abbrev pub decreases-loop-i : goal.decreases-loop-i
decreases-loop-i l = length l.fn.top - l.i
