-- A level has k lists of 2n numbers; each is half as wide as the one before.
use Rattle.products.specs.Own.Tables.{TablesHalved}
use Rattle.products.proofs.lists.halve_levels.Given as goal

abbrev pub invariant-loop-n : goal.invariant-loop-n
invariant-loop-n l = TablesHalved l.m l.fn.room l.n l.k l.room

abbrev pub decreases-loop-n : goal.decreases-loop-n
decreases-loop-n l = l.n
