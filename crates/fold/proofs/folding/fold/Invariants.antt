-- After k turns k pairs of pairs are folded: top and bottom are final around their middles, and the held values from their front on.
use Rattle.std.proofs.Common.{◌≡◌, ◌+◌, ◌*◌}
use Rattle.integers.proofs.Fills.{Filling}
use Rattle.tables.specs.Widths.{half_width}
use Rattle.fold.proofs.FoldLaws.{Middle, held_at, top_at, bottom_at}
use Rattle.fold.proofs.folding.fold.Given as goal

abbrev pub invariant-loop-k : goal.invariant-loop-k
invariant-loop-k l = record {
  whole : l.quarter + l.quarter ≡ half_width l.width;
  top : Middle (top_at l.width l.block l.fn.held) l.quarter l.k l.top;
  bottom : Middle (bottom_at l.width l.block l.fn.held) l.quarter l.k l.bottom;
  held : Filling (held_at l.width l.block) l.fn.held (2 * l.k) l.held;
}
