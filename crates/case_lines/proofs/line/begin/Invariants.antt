use Rattle.std.proofs.Common.{◌≤◌, length}
use Rattle.case_lines.proofs.line.begin.Given as goal

abbrev pub invariant-loop : goal.invariant-loop
invariant-loop l = l.at ≤ length l.text
