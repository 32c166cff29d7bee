use Rattle.std.proofs.Common.{◌≡◌, Bool, true, false, negsuc, nat_eq, of_z, w64, arith}
use mathlib.Core.Path.{refl, sym, ap}
use borrow.Author.Tests.{eqb-true, eqb-false}
use Rattle.integers.proofs.Held.{Held, held, held-ok, same_bits}
use Rattle.runs.specs.Gate.{dead}
use Rattle.gate.proofs.GateLaws.{marked, unmarked}
use Rattle.gate.proofs.questions.dead.Goals as goal

mark : Held w64 (of_z w64 (negsuc 32767)) (negsuc 32767)
mark = held-ok w64 (negsuc 32767) (omega arith)

pub returns : goal.returns
returns c = by (nat_eq (of_z w64 c.args.value) 18446744073709518848) refl
  where
    by : (b : Bool) → nat_eq (of_z w64 c.args.value) 18446744073709518848 ≡ b → b ≡ dead c.args.value
    by true e = sym (marked _ (same_bits (held w64 _ c.ranges.value) mark (eqb-true _ _ e)))
    by false e = sym (unmarked _ (λ d. eqb-false _ _ e (ap (of_z w64) d)))
