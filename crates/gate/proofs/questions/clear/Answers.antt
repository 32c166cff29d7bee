-- No bit is found exactly where the numbers so far are zero.
use borrow.Author.Count.{below_more}
use borrow.Author.Tests.{eqb-true, eqb-false}
use Rattle.std.proofs.Common.{◌≡◌, Bool, true, false, ℕ, suc, ◌^◌, ◌-◌, ◌<◌, pos, nat_eq, length, bit_or, of_z, to_z, w64, rules, arith, refl, sym, ap}
use lib.Dec.{ltb}
use lib.IntN.{negsuc}
use mathlib.Core.Path.{ap₂, subst}
use mir.Val.{SFits, sel}
use Rattle.integers.specs.Places.{at}
use Rattle.integers.proofs.Held.{Held, held, held-ok, same_bits}
use Rattle.runs.specs.Gate.{inside}
use Rattle.gate.proofs.GateLaws.{not-clear, all-clear, no_bits}
use Rattle.gate.proofs.questions.clear.Goals as goal

zero-bits : (n : ℕ) → to_z w64 n ≡ pos 0 → n ≡ 0
zero-bits n e = by (ltb n (2 ^ 63)) e
  where
    by : (b : Bool) → sel b (pos n) (negsuc (2 ^ 64 - suc n)) ≡ pos 0 → n ≡ 0
    by true e = cc
    by false e = cc

zero : Held w64 0 (pos 0)
zero = held-ok w64 (pos 0) (omega arith)

pub loop-v-preserved : goal.loop-v-preserved
loop-v-preserved c =
    let x = c.args.x.now in
    let i = c.loop-v.v-index in
    let f : SFits w64 (at x i) = search rules in (
      (λ e. let both = no_bits c.loop-v.any-bits (of_z w64 (at x i)) (zero-bits _ e) in below_more (λ k. at x k ≡ pos 0) i (c.loop-v.invariant.0 (ap (to_z w64) both.0)) (same_bits (held w64 _ f) zero both.1)),
      (λ h. ap (to_z w64) (ap₂ bit_or (zero-bits _ (c.loop-v.invariant.1 h)) (ap (of_z w64) (h i)))),
    )

pub returns : goal.returns
returns c = found (nat_eq c.loop-v.any-bits 0) refl
  where
    end : c.loop-v.v-index ≡ length c.args.x.now
    end = omega arith

    found : (b : Bool) → nat_eq c.loop-v.any-bits 0 ≡ b → b ≡ inside (pos 0) c.args.x.now
    found true e = sym (all-clear _ (subst (λ n. (k : ℕ) → k < n → at c.args.x.now k ≡ pos 0) end (c.loop-v.invariant.0 (ap (to_z w64) (eqb-true _ _ e)))))
    found false e = sym (not-clear _ (λ h. eqb-false _ _ e (zero-bits _ (c.loop-v.invariant.1 h))))
