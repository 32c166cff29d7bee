-- What is put with what is left is the text of the numbers behind the first.
use Rattle.std.proofs.Common.{◌≡◌, ◌+◌, ◌*◌, ◌≤◌, length, drop}
use Rattle.text_runs.specs.Lines.{behind_commas}
use Rattle.decimal.proofs.PutLaws.{Left}
use Rattle.decimal.proofs.print.numbers.Given as goal

abbrev pub invariant-loop-y : goal.invariant-loop-y
invariant-loop-y l = (length l.out ≡ length l.initial.out) × (l.n ≤ l.initial.n + 12 * l.y-index) × Left l.initial.n l.initial.out (behind_commas (drop 1 l.x)) l.n l.out (behind_commas (drop l.y-index (drop 1 l.x)))
