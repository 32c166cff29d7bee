-- The tables of a width as the code reads them.
use mathlib.Core.Path.{◌≡◌, refl, sym, ap, ap₂, ◌∙◌}
use mathlib.Core.List.{List, [], map}
use Prim.Native.Nat.{ℕ, ◌*◌, ◌/◌, ◌%◌, ◌≤◌, ◌<◌}
use native.Mathlib.Omega.{arith}
use lib.IntN.{ℤ, pos}
use lib.ListN.{length, get_or, get_or-map, length-map}
use mir.Syntax.{w64}
use mir.Val.{to_z, of_z}
use Rattle.std.proofs.lemmas.Int.{ints}
use Rattle.integers.specs.Places.{at}
use Rattle.tables.specs.Widths.{by_width, half_width}
use Rattle.tables.specs.Angles.{reflected, below_zero, signed}
use Rattle.tables.specs.Numbers.{secants, secants8, secants32, secants128, secant_of, half_tangents, half_tangents8, half_tangents32, half_tangents128}
use Rattle.tables.proofs.Quadrants.{reflected-le, reflected-odd}
use Rattle.tables.proofs.ByWidth.{at_each, at_other}
use Rattle.tables.proofs.Reading.{half_is}
use Rattle.tables.proofs.Sizes.{secants-le, half-tangents-le}

-- a number that is read
read_as : (xs : List ℕ) (table : List ℤ) (i : ℕ) → table ≡ map pos xs → get_or xs i 0 ≤ 11000000000 → to_z w64 (of_z w64 (at table i)) ≡ pos (get_or xs i 0)
read_as xs table i e h = rw (e, get_or-map pos xs i 0) (omega (arith, ints))

-- ---- half tangents
pub half-tangents-long : (n : ℕ) → length (map pos (half_tangents n)) ≡ half_width n
unfolding half_tangents half_tangents8 half_tangents32 half_tangents128 half_width by_width
half-tangents-long =
    at_each (λ n xs. length (map pos xs) ≡ half_width n) half_tangents8 half_tangents32 half_tangents128 [] refl refl refl (λ n x y z. sym (at_other 4 16 64 0 x y z))

pub half-tangents-read : (n i : ℕ) (table : List ℤ) → table ≡ map pos (half_tangents n) → to_z w64 (of_z w64 (at table i)) ≡ pos (get_or (half_tangents n) i 0)
half-tangents-read n i table e = read_as (half_tangents n) table i e (omega (arith, half-tangents-le n i))

-- ---- secants at odd angles
pub secants-read : (n i : ℕ) (table : List ℤ) → table ≡ map pos (secants n) → to_z w64 (of_z w64 (at table i)) ≡ pos (get_or (secants n) i 0)
secants-read n i table e = read_as (secants n) table i e (secants-le n i)

secants-long : (n : ℕ) → 2 * length (secants n) ≡ half_width n
unfolding secants secants8 secants32 secants128 half_width by_width
secants-long =
    at_each (λ n xs. 2 * length xs ≡ half_width n) secants8 secants32 secants128 [] refl refl refl (λ n x y z. sym (at_other 4 16 64 0 x y z))

module _ (n x : ℕ) (z : 0 < half_width n) (o : x % 2 ≡ 1) where
  pub secant-place : reflected (n / 2) x / 2 < length (map pos (secants n))
  secant-place =
      rw (half_is n z, length-map (secants n) pos)
      (omega (arith, reflected-odd (half_width n) x z o, reflected-le (half_width n) x z, secants-long n))

  pub secant-odd : signed (below_zero (n / 2) x) (pos (get_or (secants n) (reflected (n / 2) x / 2) 0)) ≡ secant_of n (pos x)
  unfolding secant_of
  secant-odd = rw (half_is n z, reflected-odd (half_width n) x z o)
