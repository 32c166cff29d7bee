-- Up to the four numbers of a turn the sums stand from `to` on.
use Rattle.std.proofs.Common.{◌+◌, ◌*◌, ◌+ℤ◌}
use Rattle.integers.specs.Places.{at}
use Rattle.products.specs.Own.Rooms.{Written}
use Rattle.products.proofs.levels.append_list.Given as goal

abbrev pub invariant-loop-u : goal.invariant-loop-u
invariant-loop-u l = Written (λ j. at l.fn.room (l.from + j) +ℤ at l.fn.room (l.from + l.h + j)) l.to (4 * l.u) l.fn.room l.room
