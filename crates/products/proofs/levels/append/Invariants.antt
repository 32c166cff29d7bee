-- The sums of the first v lists stand behind the lists.
use Rattle.std.proofs.Common.{◌+◌, ◌*◌}
use Rattle.products.specs.Own.Rooms.{AllWritten, half_sums}
use Rattle.products.proofs.levels.append.Given as goal

abbrev pub invariant-loop-v : goal.invariant-loop-v
invariant-loop-v l = AllWritten (half_sums l.h l.fn.room) (l.k * (l.h + l.h)) l.h l.v l.fn.room l.room
