-- The lines of the sums from i on are left to print.
use Rattle.std.proofs.Common.{◌≡◌, drop, length}
use Rattle.decimal.proofs.PutLaws.{Left}
use Rattle.reels.specs.Page.{sum_lines}
use Rattle.reel_page.proofs.page.sum_lines.Given as goal

abbrev pub invariant-loop-i : goal.invariant-loop-i
invariant-loop-i l = Left l.at l.fn.out (sum_lines 0 l.sums) l.n l.out (sum_lines l.i (drop l.i l.sums))
