-- The first v leaves are multiplied.
use Rattle.products.specs.Own.Leaf.{Leafed}
use Rattle.products.proofs.leaf.leaves.Given as goal

abbrev pub invariant-loop-v : goal.invariant-loop-v
invariant-loop-v l = Leafed l.k l.v l.lists l.fn.room l.room
