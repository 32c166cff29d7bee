-- The middles of the first v lists stand behind the lists.
use Rattle.std.proofs.Common.{◌+◌, ◌*◌}
use Rattle.products.specs.Own.Rooms.{AllWritten}
use Rattle.products.specs.Own.Tables.{middles}
use Rattle.products.proofs.lists.copy_middles.Given as goal

abbrev pub invariant-loop-v : goal.invariant-loop-v
invariant-loop-v l = AllWritten (middles l.q l.fn.room) (l.k * (l.q + l.q + (l.q + l.q))) (l.q + l.q) l.v l.fn.room l.room
