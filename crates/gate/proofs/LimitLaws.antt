-- The search for the first number beyond a limit: what a number decides, by the two tests of the code, and how the search goes on.
use mathlib.Core.Path.{◌≡◌, sym, subst}
use mathlib.Core.Bool.{Bool, true, false}
use mathlib.Core.List.{List}
use Prim.Native.Nat.{ℕ, zero, suc, ◌+◌, ◌<◌}
use native.Mathlib.Numerals.{add-one}
use native.Mathlib.Omega.{arith}
use borrow.Author.Tests.{lt-ltb, le-ltb, ltb-true, ltb-false}
use lib.Dec.{T}
use lib.IntN.{ℤ, pos, negsuc, neg_ℤ}
use lib.ListN.{length, get_or, drop}
use lib.Seq.{drop-cons, drop-length}
use lib.Signed.{lt_z, ◌≤ℤ◌}
use Rattle.runs.specs.Answers.{beyond, first_where}
use Rattle.std.specs.Prelude.{Some, None}

pub above : (l x : ℤ) → pos 0 ≤ℤ l → lt_z l x ≡ true → beyond l x ≡ true
unfolding beyond
above (pos l) (pos a) k e = e
above (pos l) (negsuc a) k e = absurd (subst T (sym e) tt)
above (negsuc l) x k e = absurd k.le

pub below : (l x : ℤ) → pos 0 ≤ℤ l → lt_z x (neg_ℤ l) ≡ true → beyond l x ≡ true
unfolding beyond
below (pos zero) (pos a) k e = absurd (omega (arith, ltb-true a 0 e))
below (pos zero) (negsuc a) k e = lt-ltb 0 (suc a) (omega arith)
below (pos (suc l)) (pos a) k e = absurd (subst T (sym e) tt)
below (pos (suc l)) (negsuc a) k e = lt-ltb (suc l) (suc a) (omega (arith, ltb-true l a e))
below (negsuc l) x k e = absurd k.le

pub neither : (l x : ℤ) → pos 0 ≤ℤ l → lt_z l x ≡ false → lt_z x (neg_ℤ l) ≡ false → beyond l x ≡ false
unfolding beyond
neither (pos l) (pos a) k e f = e
neither (pos zero) (negsuc a) k e f = absurd (subst T f tt)
neither (pos (suc l)) (negsuc a) k e f = le-ltb (suc l) (suc a) (omega (arith, ltb-false l a f))
neither (negsuc l) x k e f = absurd k.le

-- the search that goes on at i: it ends there, goes on, or has nothing left
module _ (test : ℤ → Bool) (s : List ℤ) (i : ℕ) where
  pub stops : i < length s → test (get_or s i (pos 0)) ≡ true → first_where test (drop i s) i ≡ Some i
  unfolding first_where
  stops h e = rw (drop-cons s i (pos 0) h, e)

  pub goes_on : i < length s → test (get_or s i (pos 0)) ≡ false → first_where test (drop i s) i ≡ first_where test (drop (i + 1) s) (i + 1)
  unfolding first_where
  goes_on h e = rw (drop-cons s i (pos 0) h, e, add-one)

  pub ends : i ≡ length s → first_where test (drop i s) i ≡ None
  unfolding first_where
  ends e = rw (e, drop-length)

-- the two tests together
pub by_tests : (l x : ℤ) (b : Bool) → pos 0 ≤ℤ l → lt_z l x ≡ false → lt_z x (neg_ℤ l) ≡ b → b ≡ beyond l x
by_tests l x true k e f = sym (below l x k f)
by_tests l x false k e f = sym (neither l x k e f)
