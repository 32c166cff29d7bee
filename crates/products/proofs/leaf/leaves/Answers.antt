-- The next leaf is as it was, and becomes its product.
use Rattle.std.proofs.Common.{arith}
use Rattle.products.proofs.LeafLaws.{leafed-leaf, leafed-next}
use Rattle.products.proofs.leaf.leaves.Goals as goal

pub leaf-requires : goal.leaf-requires
leaf-requires c = leafed-leaf c.loop-v.invariant (omega arith) c.four_at-x.result c.nine_at.result c.four_at-x.ensures c.nine_at.ensures c.requires

pub loop-v-preserved : goal.loop-v-preserved
loop-v-preserved c =
    rw c.put.ensures
    (leafed-next c.loop-v.invariant (omega arith) c.four_at-x.result c.nine_at.result c.four_at-x.ensures c.nine_at.ensures (omega (arith, c.requires.laid.long)) c.leaf.result c.leaf.ensures)
