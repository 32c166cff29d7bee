-- A level has k products of n numbers; each is twice as wide as the one before.
use Rattle.std.proofs.Common.{◌-◌}
use Rattle.products.specs.Own.Whole.{Ascended}
use Rattle.products.proofs.whole.ascend.Given as goal

abbrev pub invariant-loop-n : goal.invariant-loop-n
invariant-loop-n l = Ascended l.m l.fn.room l.n l.k l.room

abbrev pub decreases-loop-n : goal.decreases-loop-n
decreases-loop-n l = l.m - l.n
