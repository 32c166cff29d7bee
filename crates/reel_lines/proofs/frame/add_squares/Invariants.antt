-- The squares of the coefficients before i are added.
use Rattle.std.proofs.Common.{◌≡◌, take}
use Rattle.reels.specs.Reel.{squares_added}
use Rattle.reel_lines.proofs.frame.add_squares.Given as goal

abbrev pub invariant-loop-i : goal.invariant-loop-i
invariant-loop-i l = l.sums ≡ squares_added l.fn.sums (take l.i l.frame)
