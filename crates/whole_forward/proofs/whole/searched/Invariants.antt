-- The first fault of all blocks is that of the blocks left.
use Rattle.std.proofs.Common.{◌≡◌, ◌-◌, ◌*◌, ◌/◌, length, drop}
use Rattle.gate.specs.Own.Faults.{first_fault}
use Rattle.whole_forward.proofs.whole.searched.Given as goal

abbrev pub invariant-loop-i : goal.invariant-loop-i
invariant-loop-i l =
    first_fault l.width 0 (length l.readings / l.width) l.readings
    ≡ first_fault l.width (l.i * l.width) (length l.readings / l.width - l.i) (drop (l.i * l.width) l.readings)
