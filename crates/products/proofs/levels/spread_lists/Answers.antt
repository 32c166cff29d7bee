-- The next list is done.
use Rattle.std.proofs.Common.{arith}
use Rattle.products.proofs.RoomLaws.{all-spread-next}
use Rattle.products.proofs.levels.spread_lists.Goals as goal

pub loop-v-preserved : goal.loop-v-preserved
loop-v-preserved c = all-spread-next c.loop-v.invariant (omega arith) c.spread_list.ensures
