use Rattle.std.proofs.Common.{◌≡◌, ◌≤◌, length, take, drop}
use Rattle.pieces.specs.Own.Gathers.{line_gathered}
use Rattle.pieces.proofs.line.gather.Given as goal

abbrev pub invariant-loop-at : goal.invariant-loop-at
invariant-loop-at l = record {
  fits : l.length ≤ 2048;
  long : length l.line ≡ 2048;
  same : line_gathered (take l.length l.line) (drop l.at l.piece) ≡ line_gathered (take l.fn.had l.fn.line) (drop l.fn.from l.piece);
}
