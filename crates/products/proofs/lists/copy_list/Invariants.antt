-- The numbers up to the four of a turn stand from `to` on.
use Rattle.std.proofs.Common.{◌+◌, ◌*◌}
use Rattle.integers.specs.Places.{at}
use Rattle.products.specs.Own.Rooms.{Written}
use Rattle.products.proofs.lists.copy_list.Given as goal

abbrev pub invariant-loop-u : goal.invariant-loop-u
invariant-loop-u l = Written (λ j. at l.fn.room (l.from + j)) l.to (4 * l.u) l.fn.room l.room
