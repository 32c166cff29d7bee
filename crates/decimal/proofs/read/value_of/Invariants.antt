-- The value of all digits is that of those left behind what is read.
use Rattle.std.proofs.Common.{◌≡◌, ◌≤◌, drop}
use Rattle.text_runs.specs.Decimal.{valued}
use Rattle.decimal.proofs.read.value_of.Given as goal

abbrev pub invariant-loop-byte : goal.invariant-loop-byte
invariant-loop-byte l = (l.size ≤ l.limit) × (valued l.limit 0 l.digits ≡ valued l.limit l.size (drop l.byte-index l.digits))
