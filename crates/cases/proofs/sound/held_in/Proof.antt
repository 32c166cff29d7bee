-- `cases::sound::held_in` is safe and ends.
use borrow.Author.Rules.{rules}
use mathlib.Core.Path.{◌≡◌}
use Prim.Native.Nat.{◌-◌}
use lib.ListN.{length}
use Rattle.cases.proofs.sound.held_in.Statement.{statement}
use Rattle.cases.proofs.sound.held_in.Tie as tie

abbrev invariant-loop : tie.invariant-loop-at
invariant-loop text held₀ at₀ held at = length held ≡ 64

abbrev decreases-loop : tie.decreases-loop-at
decreases-loop text held₀ at₀ held at = length text - at

pub held_in_spec : {M : Type 1} → statement M
held_in_spec =
    tie.close
    (tie.spec
    invariant-loop
    decreases-loop
    (λ c κs. search rules)
    (λ c. search rules)
    (λ c κs. search rules)
    (λ c. search rules)
    (λ c. search rules)
    (λ c. search rules)
    (λ c. search rules)
    (λ c κs. search rules)
    (λ c. search rules)
    (λ c. search rules)
    (λ c. search rules)
    (λ c. search rules))
