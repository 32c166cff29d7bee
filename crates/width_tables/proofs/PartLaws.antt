-- The parts of the list of a width, how long they are, and numbers put into a part.
use mathlib.Core.Path.{◌≡◌, refl, sym, ap, ap₂, ◌∙◌}
use mathlib.Core.List.{List, ◌++◌, map}
use Prim.Native.Nat.{ℕ, ◌+◌, ◌-◌, ◌*◌, ◌/◌, ◌%◌, ◌≤◌, ◌<◌}
use native.Mathlib.Omega.{arith}
use borrow.Rule.Slice.PartMut.{post_of, put_mid}
use lib.IntN.{ℤ, pos}
use lib.ListN.{length, take, drop, length-append, length-drop, get_or-append}
use lib.Seq.{length-take-le, get_or-take, get_or-drop, get_or-append-add, take_at, drop_at, ext_get_or}
use Rattle.integers.specs.Places.{places, at}
use Rattle.integers.proofs.PlaceLaws.{by-places}
use Rattle.tables.specs.Widths.{by_width, half_width}
use Rattle.tables.specs.Numbers.{sines}
use Rattle.tables.proofs.ByWidth.{at_each, at_other}
use Rattle.width_tables.specs.Filled.{part, leaves_long, tables_long, list_room}

-- ---- how long
module _ {N : ℕ} where
  pub long-8 : N ≡ 8 → tables_long N ≡ 46
  unfolding tables_long half_width leaves_long by_width
  long-8 e = rw e

  pub long-32 : N ≡ 32 → tables_long N ≡ 274
  unfolding tables_long half_width leaves_long by_width
  long-32 e = rw e

  pub long-128 : N ≡ 128 → tables_long N ≡ 1906
  unfolding tables_long half_width leaves_long by_width
  long-128 e = rw e

  pub long-other : (N ≡ 8 → ⊥) → (N ≡ 32 → ⊥) → (N ≡ 128 → ⊥) → tables_long N ≡ 0
  unfolding tables_long half_width leaves_long
  long-other f g h = ap₂ (λ m n. 7 * m + 2 * n) (at_other 4 16 64 0 f g h) (at_other 9 81 729 0 f g h)

-- a width's numbers: M, its lists and the steps of its angles
pub record Measured (N M : ℕ) : Type 0 where
  pub double : N ≡ M + M
  pub half : N / 2 ≡ M
  pub most : M ≤ 64
  pub fours : M % 4 ≡ 0
  pub step : 128 / N ≤ 16
  pub first : 128 / (N / 2) ≤ 32
  pub long : tables_long N ≡ 7 * M + 2 * leaves_long N
  pub leaves : leaves_long N ≤ 729
  pub room : N ≤ list_room N

pub measured : (N : ℕ) → 0 < half_width N → Measured N (half_width N)
unfolding tables_long leaves_long list_room half_width by_width
measured =
    at_each (λ N M. 0 < M → Measured N M) 4 16 64 0
    (λ z. record { double = refl; half = refl; most = omega arith; fours = refl; step = omega arith; first = omega arith; long = refl; leaves = omega arith; room = omega arith })
    (λ z. record { double = refl; half = refl; most = omega arith; fours = refl; step = omega arith; first = omega arith; long = refl; leaves = omega arith; room = omega arith })
    (λ z. record { double = refl; half = refl; most = omega arith; fours = refl; step = omega arith; first = omega arith; long = refl; leaves = omega arith; room = omega arith })
    (λ N x y w z. absurd (omega arith))

-- the table of sines has a number for each of 256 parts and for 0
pub quarter-long : length (map pos sines) ≡ 257
unfolding sines
quarter-long = refl

-- ---- a part by its places
module _ (a n : ℕ) (t : List ℤ) (fits : a + n ≤ length t) where
  pub part-long : length (part a n t) ≡ n
  part-long = length-take-le n (drop a t) (omega (arith, length-drop a t))

  pub part_at : (i : ℕ) → i < n → at (part a n t) i ≡ at t (a + i)
  part_at i l = get_or-take n (drop a t) i (pos 0) l ∙ get_or-drop a t i (pos 0)

  pub part-is : (f : ℕ → ℤ) → ((i : ℕ) → i < n → at t (a + i) ≡ f i) → part a n t ≡ places n f
  part-is f h = by-places n (part a n t) f part-long (λ i l. part_at i l ∙ h i l)

pub part_same : (a n : ℕ) (t u : List ℤ) → a + n ≤ length t → a + n ≤ length u → ((p : ℕ) → a ≤ p → p < a + n → at t p ≡ at u p) → part a n t ≡ part a n u
part_same a n t u h k e =
    ext_get_or (pos 0) (part a n t) (part a n u) (part-long a n t h ∙ sym (part-long a n u k))
    (λ i l. let b : i < n = omega (arith, part-long a n t h) in part_at a n t h i b ∙ e (a + i) (omega arith) (omega arith) ∙ sym (part_at a n u k i b))

-- ---- a part with other numbers put there: these stand there, and what stood elsewhere still does
module _ (a k : ℕ) (xs ys : List ℤ) (fits : a + k ≤ length xs) (long : length ys ≡ k) where
  front_long : length (take a xs) ≡ a
  front_long = length-take-le a xs (omega arith)

  pub put-part : part a k (put_mid a k xs ys) ≡ ys
  put-part = ap (take k) (drop_at (take a xs) (ys ++ post_of a k xs) a front_long) ∙ take_at ys (post_of a k xs) k long

  pub put-long : length (put_mid a k xs ys) ≡ length xs
  put-long = omega (arith, length-append (take a xs) (ys ++ post_of a k xs), length-append ys (post_of a k xs), front_long, length-drop k (drop a xs), length-drop a xs)

  pub put-before : (p : ℕ) → p < a → at (put_mid a k xs ys) p ≡ at xs p
  put-before p l = get_or-append (take a xs) (ys ++ post_of a k xs) (pos 0) p (omega (arith, front_long)) ∙ get_or-take a xs p (pos 0) l

  pub put-behind : (p : ℕ) → a + k ≤ p → at (put_mid a k xs ys) p ≡ at xs p
  put-behind p l =
      let q = p - (a + k) in
      let e : p ≡ length (take a xs) + (length ys + q) = omega (arith, front_long) in
      let d : a + (k + q) ≡ p = omega arith in
      ap (at (put_mid a k xs ys)) e
      ∙ get_or-append-add (take a xs) (ys ++ post_of a k xs) (length ys + q) (pos 0)
      ∙ get_or-append-add ys (post_of a k xs) q (pos 0)
      ∙ get_or-drop k (drop a xs) q (pos 0)
      ∙ get_or-drop a xs (k + q) (pos 0)
      ∙ ap (at xs) d
