-- `case_lines::line::numbers` meets its contract.
use borrow.Author.Rules.{rules}
use Prim.Native.Nat.{◌+◌, ◌-◌, ◌≤◌}
use mathlib.Core.Path.{◌≡◌}
use lib.ListN.{length}
use Rattle.case_lines.proofs.line.numbers.Statement.{statement}
use Rattle.case_lines.proofs.line.numbers.Tie as tie

abbrev invariant-loop : tie.invariant-loop-at
invariant-loop text from numbers₀ n₀ at₀ numbers n at = (n ≤ length numbers) × (length numbers ≡ length numbers₀)

abbrev decreases-loop : tie.decreases-loop-at
decreases-loop text from numbers₀ n₀ at₀ numbers n at = length text + 1 - at

pub numbers_spec : {M : Type 1} → statement M
numbers_spec =
    tie.close
    (tie.spec
    invariant-loop
    decreases-loop
    (λ c. search rules)
    (λ c κs. search rules)
    (λ c. search rules)
    (λ c. search rules)
    (λ c. search rules)
    (λ c κs. search rules)
    (λ c. search rules)
    (λ c. search rules)
    (λ c. search rules)
    (λ c. search rules)
    (λ c. search rules)
    (λ c. search rules)
    (λ c. search rules))
