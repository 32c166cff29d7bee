-- After n turns n readings are back at either end of the block.
use Rattle.std.proofs.Common.{◌-◌}
use Rattle.fold.proofs.FoldLaws.{Ends, block_at}
use Rattle.fold.proofs.folding.unfold.Given as goal

abbrev pub invariant-loop-n : goal.invariant-loop-n
invariant-loop-n l = Ends (block_at l.width l.lower l.held) l.width l.n (l.width - l.n) l.block
