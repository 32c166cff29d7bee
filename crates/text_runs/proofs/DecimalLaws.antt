-- The digits of a number: one, or those of its tenth and one behind; how many they are; each is a digit.
use mathlib.Core.Path.{◌≡◌, refl}
use mathlib.Core.Logic.{◌⊎◌, inl, inr, ⊎_elim}
use mathlib.Core.Bool.{Bool, true, false}
use mathlib.Core.List.{List, [], ◌∷◌}
use Prim.Native.Nat.{ℕ, zero, suc, ◌+◌, ◌/◌, ◌%◌, ◌^◌, ◌≤◌, ◌<◌}
use native.Mathlib.Nat.{pow-suc}
use native.Mathlib.Omega.{arith}
use borrow.Author.Tests.{lt-ltb, le-ltb, le-leb, ltb-true, ltb-false}
use lib.Dec.{ltb}
use lib.ListN.{length}
use Rattle.text_runs.specs.Decimal.{spelled, decimal, is_digit, all_digits}
-- what is computed comes before what is proved: a wrong definition fails first at a sample
use Rattle.text_runs.specs.Samples as Samples
use Rattle.text_runs.proofs.InputSamples as InputSamples

module _ (k n : ℕ) (after : List ℕ) where
  pub spelled-last : n < 10 → spelled (suc k) n after ≡ (48 + n) ∷ after
  unfolding spelled
  spelled-last h = rw (lt-ltb n 10 h)

  pub spelled-more : 10 ≤ n → spelled (suc k) n after ≡ spelled k (n / 10) ((48 + n % 10) ∷ after)
  unfolding spelled
  spelled-more h = rw (le-ltb n 10 h)

pub one-or-more : (n : ℕ) → (n < 10) ⊎ (10 ≤ n)
one-or-more n = either (ltb n 10) refl
  where
    either : (t : Bool) → ltb n 10 ≡ t → (n < 10) ⊎ (10 ≤ n)
    either true e = inl (ltb-true n 10 e)
    either false e = inr (ltb-false n 10 e)

-- k + 1 digits less one
pub tenth : (k n : ℕ) → n < 10 ^ suc k → n / 10 < 10 ^ k
tenth k n h = omega (arith, pow-suc 10 k)

pub more_left : (k n : ℕ) → n < 10 ^ suc k → 10 ≤ n → 0 < k
more_left zero n h l = absurd (omega arith)
more_left (suc k) n h l = omega arith

-- ---- how many
pub spelled-length : (j k n : ℕ) (after : List ℕ) → n < 10 ^ k → 0 < k → length (spelled j n after) ≤ k + length after
unfolding spelled
spelled-length zero k n after h p = omega arith
spelled-length (suc j) zero n after h p = absurd (omega arith)
spelled-length (suc j) (suc k) n after h p =
    ⊎_elim (λ l. rw (lt-ltb n 10 l) (omega arith)) (λ l. rw (le-ltb n 10 l) (omega (arith, spelled-length j k (n / 10) ((48 + n % 10) ∷ after) (tenth k n h) (more_left k n h l))))
    (one-or-more n)

pub spelled-within : (k n : ℕ) (after : List ℕ) → length (spelled k n after) ≤ k + length after
unfolding spelled
spelled-within zero n after = omega arith
spelled-within (suc k) n after =
    ⊎_elim (λ l. rw (lt-ltb n 10 l) (omega arith)) (λ l. rw (le-ltb n 10 l) (omega (arith, spelled-within k (n / 10) ((48 + n % 10) ∷ after)))) (one-or-more n)

pub decimal-length : (k n : ℕ) → n < 10 ^ k → 0 < k → length (decimal n) ≤ k
unfolding decimal
decimal-length k n h p = omega (arith, spelled-length 20 k n [] h p)

pub decimal-within : (n : ℕ) → length (decimal n) ≤ 20
unfolding decimal
decimal-within n = omega (arith, spelled-within 20 n [])

-- ---- each is a digit
pub digit-is : (d : ℕ) → d < 10 → is_digit (48 + d) ≡ true
unfolding is_digit
digit-is d h = rw (le-leb 48 (48 + d) (omega arith), le-leb (48 + d) 57 (omega arith))

pub spelled-digits : (k n : ℕ) (after : List ℕ) → all_digits after ≡ true → all_digits (spelled k n after) ≡ true
unfolding spelled all_digits
spelled-digits zero n after e = e
spelled-digits (suc k) n after e = ⊎_elim (λ l. rw (lt-ltb n 10 l, digit-is n l, e)) (λ l. rw (le-ltb n 10 l) (spelled-digits k (n / 10) _ (rw (digit-is (n % 10) (omega arith), e)))) (one-or-more n)

pub decimal-digits : (n : ℕ) → all_digits (decimal n) ≡ true
unfolding decimal all_digits
decimal-digits n = spelled-digits 20 n [] refl
