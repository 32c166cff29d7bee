-- What the tests of the code decide of digits and of a sign.
use mathlib.Core.Path.{◌≡◌, refl, sym, ap, subst, ◌∙◌}
use mathlib.Core.Logic.{⊎_elim}
use mathlib.Core.Bool.{Bool, true, false, cond, ◌&&◌, and-false}
use mathlib.Core.List.{List, [], ◌∷◌}
use Prim.Native.Nat.{ℕ, zero, suc, ◌+◌, ◌-◌, ◌*◌, ◌≤◌, ◌<◌}
use native.Mathlib.Numerals.{add-one}
use native.Mathlib.Omega.{arith}
use borrow.Author.Tests.{leb-true, le-leb, lt-leb, eq-eqb, ne_eqb}
use lib.Dec.{leb}
use lib.ListN.{length, get_or, take, drop, length-drop}
use lib.Seq.{drop-cons, drop-length, take_all}
use lib.IntN.{pos, negsuc, neg_ℤ, ◌-ℤ◌}
use mir.Syntax.{w64}
use mir.Val.{SFits}
use Rattle.std.specs.Char.{IsAsciiDigit, IsNotAsciiDigit}
use Rattle.integers.proofs.Words.{to_below}
use Rattle.text_runs.specs.Decimal.{is_digit, all_digits, value_of, valued, leads, sized, negative, positive, signed_in, least64}
use Rattle.decimal.specs.Own.Reading.{size_within}
use Rattle.std.specs.Prelude.{Option, Some, None}
use Rattle.text_runs.proofs.SizeLaws.{value-least}

-- ---- digits
no_digit : (limit n b : ℕ) (bs : List ℕ) → is_digit b ≡ false → valued limit n (b ∷ bs) ≡ None
unfolding valued all_digits
no_digit limit n b bs e = rw e

pub valued-beyond : (limit n : ℕ) (bs : List ℕ) → limit < n → valued limit n bs ≡ None
unfolding valued
valued-beyond limit n bs h = rw (lt-leb (value_of n bs) limit (omega (arith, value-least n bs)), and-false)

-- the byte at i
module _ (limit n : ℕ) (s : List ℕ) (i : ℕ) (h : i < length s) where
  byte_low : get_or s i 0 < 48 → valued limit n (drop i s) ≡ None
  unfolding is_digit
  byte_low l = rw (drop-cons s i 0 h) (no_digit limit n (get_or s i 0) _ (rw (lt-leb 48 (get_or s i 0) l)))

  byte_high : 57 < get_or s i 0 → valued limit n (drop i s) ≡ None
  unfolding is_digit
  byte_high l = rw (drop-cons s i 0 h) (no_digit limit n (get_or s i 0) _ (rw (lt-leb (get_or s i 0) 57 l, and-false)))

  pub byte_other : IsNotAsciiDigit (get_or s i 0) → valued limit n (drop i s) ≡ None
  byte_other = ⊎_elim byte_low byte_high

  pub byte-digit : IsAsciiDigit (get_or s i 0) → {more : ℕ} → more ≡ n * 10 + (get_or s i 0 - 48) → valued limit n (drop i s) ≡ valued limit more (drop (i + 1) s)
  unfolding is_digit valued all_digits value_of
  byte-digit d e = rw (e, drop-cons s i 0 h, add-one, le-leb 48 (get_or s i 0) d.0, le-leb (get_or s i 0) 57 d.1)

pub value-whole : (limit n : ℕ) (s : List ℕ) (i : ℕ) → i ≡ length s → n ≤ limit → valued limit n (drop i s) ≡ Some n
unfolding valued all_digits value_of
value-whole limit n s i e h = rw (e, drop-length, le-leb n limit h)

-- ---- at least one digit, no zero in front of others
pub no-digits : (limit : ℕ) (s : List ℕ) → length s ≡ 0 → None ≡ sized limit s
unfolding sized leads
no-digits limit [] e = refl
no-digits limit (b ∷ bs) e = absurd (omega (arith, e))

pub zero-led : (limit : ℕ) (s : List ℕ) → 1 < length s → get_or s 0 0 ≡ 48 → None ≡ sized limit s
unfolding sized leads
zero-led limit [] h e = absurd (omega arith)
zero-led limit (b ∷ []) h e = absurd (omega arith)
zero-led limit (b ∷ c ∷ bs) h e = rw (eq-eqb b 48 e)

pub led : (limit : ℕ) (s : List ℕ) → (length s ≡ 0 → ⊥) → (1 < length s → get_or s 0 0 ≡ 48 → ⊥) → valued limit 0 s ≡ sized limit s
unfolding sized leads
led limit [] h e = absurd (h refl)
led limit (b ∷ []) h e = refl
led limit (b ∷ c ∷ bs) h e = rw (ne_eqb b 48 (e (omega arith)))

-- ---- a size and its sign
pub size-within : {limit n : ℕ} {s : Option ℕ} → size_within limit s → s ≡ Some n → n ≤ limit
unfolding size_within
size-within {limit} h e = subst (size_within limit) e h

pub sized-within : (limit most : ℕ) → limit ≤ most → (s : List ℕ) → size_within most (sized limit s)
unfolding size_within sized valued
sized-within limit most h s = by-test (leads s) (all_digits s) (leb (value_of 0 s) limit) refl
  where
    by-test : (l d t : Bool) → leb (value_of 0 s) limit ≡ t → size_within most (cond l (cond (d && t) (Some (value_of 0 s)) None) None)
    by-test true true true e = omega (arith, leb-true (value_of 0 s) limit e)
    by-test true true false e = tt
    by-test true false t e = tt
    by-test false d t e = tt

pub minus-zero : {n : ℕ} {s : Option ℕ} → s ≡ Some n → n ≡ 0 → None ≡ negative s
unfolding negative
minus-zero e z = sym (ap negative (e ∙ ap Some z))

pub minus-of : (n : ℕ) {s : Option ℕ} → s ≡ Some n → (n ≡ 0 → ⊥) → Some (neg_ℤ (pos n)) ≡ negative s
unfolding negative
minus-of zero e z = absurd (z refl)
minus-of (suc n) e z = sym (ap negative e)

pub minus-bad : {s : Option ℕ} → s ≡ None → None ≡ negative s
unfolding negative
minus-bad e = sym (ap negative e)

pub plus-of : {n : ℕ} {s : Option ℕ} → s ≡ Some n → Some (pos n) ≡ positive s
unfolding positive
plus-of e = sym (ap positive e)

pub plus-bad : {s : Option ℕ} → s ≡ None → None ≡ positive s
unfolding positive
plus-bad e = sym (ap positive e)

-- 64 bits have one number more below zero than above: the size less one is taken from −1
pub less-than : (n : ℕ) → (n ≡ 0 → ⊥) → negsuc 0 -ℤ pos (n - 1) ≡ neg_ℤ (pos n)
less-than zero z = absurd (z refl)
less-than (suc n) z = let e : suc n - 1 ≡ n = omega arith in rw e (to_below n)

pub below-fits : (n : ℕ) → n ≤ least64 → (n ≡ 0 → ⊥) → SFits w64 (negsuc 0 -ℤ pos (n - 1))
below-fits zero h z = absurd (z refl)
below-fits (suc n) h z = rw (less-than (suc n) z) (record { sfits = omega arith })

-- ---- a field
pub rest_part : {A : Type 0} (k : ℕ) (s : List A) → take (length s - k) (drop k s) ≡ drop k s
rest_part k s = take_all (length s - k) (drop k s) (omega (arith, length-drop k s))

module _ (limit : ℕ) where
  pub no_field : (s : List ℕ) → length s ≡ 0 → None ≡ signed_in limit s
  unfolding signed_in
  no_field [] e = refl
  no_field (b ∷ bs) e = absurd (omega (arith, e))

  pub signed : (s : List ℕ) → (length s ≡ 0 → ⊥) → get_or s 0 0 ≡ 45 → negative (sized limit (drop 1 s)) ≡ signed_in limit s
  unfolding signed_in
  signed [] h e = absurd (h refl)
  signed (b ∷ bs) h e = rw (eq-eqb b 45 e)

  pub unsigned : (s : List ℕ) → (length s ≡ 0 → ⊥) → (get_or s 0 0 ≡ 45 → ⊥) → positive (sized (limit - 1) s) ≡ signed_in limit s
  unfolding signed_in
  unsigned [] h e = absurd (h refl)
  unsigned (b ∷ bs) h e = rw (ne_eqb b 45 e)
