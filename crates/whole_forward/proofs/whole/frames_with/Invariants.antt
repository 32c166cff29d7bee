-- What is written, and what the calls left give, is what all calls give; the room stays as long as it was.
use Rattle.std.proofs.Common.{◌≡◌, ◌+◌, ◌-◌, ◌*◌, ◌/◌, length}
use Rattle.frames.proofs.RoomSizes.{Lent}
use Rattle.whole_forward.proofs.Stepping.{Stepping}
use Rattle.whole_forward.proofs.whole.frames_with.Given as goal

abbrev pub invariant-loop-i : goal.invariant-loop-i
invariant-loop-i l =
    (length l.frames ≡ length l.readings + l.width)
    × (length l.held ≡ 64)
    × Lent 64 648 l.top l.bottom l.y l.z
    × Stepping l.width l.half (l.i * l.width) (length l.readings / l.width - l.i) l.readings l.fn.frames l.frames l.held
