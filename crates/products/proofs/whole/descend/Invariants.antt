-- A level has k lists of n numbers; each is half as wide as the one before.
use Rattle.products.specs.Own.Whole.{Descended}
use Rattle.products.proofs.whole.descend.Given as goal

abbrev pub invariant-loop-n : goal.invariant-loop-n
invariant-loop-n l = Descended l.m l.fn.room l.n l.k l.room

abbrev pub decreases-loop-n : goal.decreases-loop-n
decreases-loop-n l = l.n
