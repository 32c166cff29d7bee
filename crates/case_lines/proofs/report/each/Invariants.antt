-- There are no more lines than bytes.
use Prim.Native.Nat.{◌-◌, ◌≤◌}
use lib.ListN.{length}
use Rattle.case_lines.proofs.report.each.Given as goal

abbrev pub invariant-loop-at : goal.invariant-loop-at
invariant-loop-at g l = record { differing : l.differ ≤ l.cases; counted : l.cases ≤ l.lines; read : l.lines ≤ l.at; within : l.cases ≤ length l.text; callable : goal.F-IsAlwaysCallable g l.agrees }

abbrev pub decreases-loop-at : goal.decreases-loop-at
decreases-loop-at g l = length l.text - l.at
