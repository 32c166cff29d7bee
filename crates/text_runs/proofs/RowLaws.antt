-- Printed numbers: which fit a word, how long a row of them is, and which bytes it has not.
use mathlib.Core.Path.{◌≡◌}
use mathlib.Core.Bool.{true}
use mathlib.Core.List.{List, [], ◌∷◌, ◌++◌}
use Prim.Native.Nat.{ℕ, suc, ◌*◌, ◌^◌, ◌≤◌, ◌<◌}
use native.Mathlib.Omega.{arith}
use lib.IntN.{ℤ, pos, negsuc}
use lib.ListN.{length, length-append}
use lib.Signed.{mag}
use Rattle.text_runs.specs.Decimal.{decimal, printed, all_digits, least32, least64, fits, bits32, bits64, all_bits}
use Rattle.text_runs.specs.Lines.{behind_commas, row}
use Rattle.text_runs.specs.Own.Lacks.{lacks}
use Rattle.text_runs.proofs.DecimalLaws.{decimal-length, decimal-digits}
use Rattle.text_runs.proofs.SizeLaws.{digits-first}

-- ---- a number of so many bits, as a machine word has it
module _ (limit : ℕ) where
  pub fits-mag : (x : ℤ) → fits limit x → mag x < limit
  unfolding fits
  fits-mag (pos n) h = h
  fits-mag (negsuc n) h = h

  pub mag-fits : (x : ℤ) → mag x < limit → fits limit x
  unfolding fits
  mag-fits (pos n) h = h
  mag-fits (negsuc n) h = h

-- ---- how long
signed-length : (limit k : ℕ) → limit < 10 ^ k → 0 < k → (x : ℤ) → fits limit x → length (printed x) ≤ suc k
unfolding printed fits
signed-length limit k m p (pos n) h = omega (arith, decimal-length k n (omega arith) p)
signed-length limit k m p (negsuc n) h = omega (arith, decimal-length k (suc n) (omega arith) p)

pub printed-length : (x : ℤ) → bits32 x → length (printed x) ≤ 11
printed-length = signed-length least32 10 (omega arith) (omega arith)

pub total-length : (x : ℤ) → bits64 x → length (printed x) ≤ 20
total-length = signed-length least64 19 (omega arith) (omega arith)

pub behind-length : (xs : List ℤ) → all_bits xs → length (behind_commas xs) ≤ 12 * length xs
unfolding behind_commas all_bits
behind-length [] h = omega arith
behind-length (x ∷ xs) h = omega (arith, length-append (printed x) (behind_commas xs), printed-length x h.0, behind-length xs h.1)

pub row-length : (xs : List ℤ) → all_bits xs → length (row xs) ≤ 12 * length xs
unfolding row all_bits
row-length [] h = omega arith
row-length (x ∷ xs) h = omega (arith, length-append (printed x) (behind_commas xs), printed-length x h.0, behind-length xs h.1)

-- ---- a byte below the digits: if it is no minus it is in no printed number, and if it is no comma either, in no row
pub lacks-append : (b : ℕ) (xs ys : List ℕ) → lacks b xs → lacks b ys → lacks b (xs ++ ys)
unfolding lacks
lacks-append b [] ys h k = k
lacks-append b (x ∷ xs) ys h k = (h.0, lacks-append b xs ys h.1 k)

module _ (b : ℕ) (l : b < 48) where
  digits-lack : (bs : List ℕ) → all_digits bs ≡ true → lacks b bs
  unfolding lacks
  digits-lack [] e = tt
  digits-lack (c ∷ cs) e = let t = digits-first c cs e in ((λ s. omega arith), digits-lack cs t.2)

  pub decimal-lacks : (n : ℕ) → lacks b (decimal n)
  decimal-lacks n = digits-lack (decimal n) (decimal-digits n)

  module _ (m : 45 ≡ b → ⊥) where
    pub printed-lacks : (x : ℤ) → lacks b (printed x)
    unfolding lacks printed
    printed-lacks (pos n) = decimal-lacks n
    printed-lacks (negsuc n) = (m, decimal-lacks (suc n))

    module _ (s : 44 ≡ b → ⊥) where
      behind-lacks : (xs : List ℤ) → lacks b (behind_commas xs)
      unfolding lacks behind_commas
      behind-lacks [] = tt
      behind-lacks (x ∷ xs) = (s, lacks-append b (printed x) (behind_commas xs) (printed-lacks x) (behind-lacks xs))

      pub row-lacks : (xs : List ℤ) → lacks b (row xs)
      unfolding lacks row
      row-lacks [] = tt
      row-lacks (x ∷ xs) = lacks-append b (printed x) (behind_commas xs) (printed-lacks x) (behind-lacks xs)

pub row-no-feed : (xs : List ℤ) → lacks 10 (row xs)
row-no-feed = row-lacks 10 (omega arith) (λ e. omega arith) (λ e. omega arith)
