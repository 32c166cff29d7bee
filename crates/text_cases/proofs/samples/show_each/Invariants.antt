-- The place rises with each name.
use Prim.Native.Nat.{◌-◌}
use lib.ListN.{length}
use Rattle.text_cases.proofs.samples.show_each.Given as goal

abbrev pub decreases-loop-at : goal.decreases-loop-at
decreases-loop-at l = length l.list - l.at
