-- The numbers up to the four of a turn were added to both halves, or taken off.
use Rattle.std.proofs.Common.{◌*◌}
use Rattle.slices.specs.Own.Moves.{moved}
use Rattle.products.specs.Own.Rooms.{Spread}
use Rattle.products.proofs.levels.spread_list.Given as goal

abbrev pub invariant-loop-u : goal.invariant-loop-u
invariant-loop-u l = Spread (moved l.less) l.to l.h l.from (4 * l.u) l.fn.room l.room
