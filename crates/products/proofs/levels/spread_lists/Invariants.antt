-- The first v lists are done.
use Rattle.slices.specs.Own.Moves.{moved}
use Rattle.products.specs.Own.Rooms.{AllSpread}
use Rattle.products.proofs.levels.spread_lists.Given as goal

abbrev pub invariant-loop-v : goal.invariant-loop-v
invariant-loop-v l = AllSpread (moved l.less) l.h l.k l.v l.fn.room l.room
