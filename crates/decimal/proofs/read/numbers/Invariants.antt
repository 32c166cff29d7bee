-- The numbers of the line are those read with those of the fields left.
use Rattle.std.proofs.Common.{length, take, ◌+◌, ◌-◌, ◌≡◌, ◌≤◌}
use Rattle.text_runs.specs.Lines.{all_numbers, numbers_in}
use Rattle.decimal.proofs.FieldsRead.{fields_from, ahead}
use Rattle.decimal.proofs.read.numbers.Given as goal

abbrev pub invariant-loop-at : goal.invariant-loop-at
invariant-loop-at l = (l.n + l.n ≤ l.at) × (l.at ≤ length l.line + 1) × (length l.out ≡ length l.initial.out) × (numbers_in l.line ≡ ahead (take l.n l.out) (all_numbers (fields_from l.at l.line)))

abbrev pub decreases-loop-at : goal.decreases-loop-at
decreases-loop-at l = length l.line + 1 - l.at
