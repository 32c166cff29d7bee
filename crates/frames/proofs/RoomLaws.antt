-- What is filled for a width, as the code lends it, and room that is long enough for a width.
use mathlib.Core.Path.{◌≡◌, sym, subst, ◌∙◌}
use mathlib.Core.List.{List, ◌++◌}
use Prim.Native.Nat.{ℕ, ◌/◌, ◌≤◌, ◌<◌, zero-le}
use native.Mathlib.Omega.{arith}
use lib.Dec.{lit≤}
use lib.IntN.{ℤ}
use lib.ListN.{length, take}
use Rattle.tables.specs.Widths.{half_width}
use Rattle.tables.proofs.ByWidth.{at_each, half-width-le}
use Rattle.tables.proofs.Reading.{half_is}
use Rattle.width_tables.specs.Filled.{leaves_long, tables_long, list_room, product_room, Filled}
use Rattle.width_tables.specs.Own.Parts.{TwoHalves}
use Rattle.slices.proofs.Parts.{part-long, front, front_long, front-le}

-- ---- how much room the widths take, the small ones and all
pub half-small : (N : ℕ) → N ≤ 32 → half_width N ≤ 16
unfolding half_width
half-small = at_each (λ n m. n ≤ 32 → m ≤ 16) 4 16 64 0 (λ h. lit≤ tt) (λ h. lit≤ tt) (λ h. absurd (omega arith)) (λ n x y z h. zero-le)

leaves-small : (N : ℕ) → N ≤ 32 → leaves_long N ≤ 81
unfolding leaves_long
leaves-small = at_each (λ n m. n ≤ 32 → m ≤ 81) 9 81 729 0 (λ h. lit≤ tt) (λ h. lit≤ tt) (λ h. absurd (omega arith)) (λ n x y z h. zero-le)

leaves-le : (N : ℕ) → leaves_long N ≤ 729
unfolding leaves_long
leaves-le = at_each (λ n m. m ≤ 729) 9 81 729 0 (lit≤ tt) (lit≤ tt) (lit≤ tt) (λ n x y z. zero-le)

pub tables-small : (N : ℕ) → N ≤ 32 → tables_long N ≤ 274
unfolding tables_long
tables-small N h = omega (arith, half-small N h, leaves-small N h)

pub tables-le : (N : ℕ) → tables_long N ≤ 1906
unfolding tables_long
tables-le N = omega (arith, half-width-le N, leaves-le N)

pub lists-small : (N : ℕ) → N ≤ 32 → list_room N ≤ 72
unfolding list_room
lists-small = at_each (λ n m. n ≤ 32 → m ≤ 72) 8 72 648 0 (λ h. lit≤ tt) (λ h. lit≤ tt) (λ h. absurd (omega arith)) (λ n x y z h. zero-le)

pub lists-le : (N : ℕ) → list_room N ≤ 648
unfolding list_room
lists-le = at_each (λ n m. m ≤ 648) 8 72 648 0 (lit≤ tt) (lit≤ tt) (lit≤ tt) (λ n x y z. zero-le)

pub product_small : (N : ℕ) → N ≤ 32 → product_room N ≤ 72
unfolding product_room
product_small = at_each (λ n m. n ≤ 32 → m ≤ 72) 4 36 324 0 (λ h. lit≤ tt) (λ h. lit≤ tt) (λ h. absurd (omega arith)) (λ n x y z h. zero-le)

pub product_le : (N : ℕ) → product_room N ≤ 648
unfolding product_room
product_le = at_each (λ n m. m ≤ 648) 4 36 324 0 (lit≤ tt) (lit≤ tt) (lit≤ tt) (λ n x y z. zero-le)

-- ---- t as the code lends it, a part of an array in front
module _ {N : ℕ} (long : ℕ) (is : long ≡ tables_long N) (t rest : List ℤ) (filled : Filled N t) where
  front-is : length t ≡ long
  front-is = filled.long ∙ sym is

  pub filled-le : long ≤ length (t ++ rest)
  filled-le = front-le long t rest front-is

  pub filled-long : long ≡ length (take long (t ++ rest))
  filled-long = front_long long t rest front-is

  pub filled-lent : Filled N (take long (t ++ rest))
  filled-lent = subst (Filled N) (sym (front long t rest front-is)) filled

-- the halves of a frame in room of their own
pub halves-lent : (N : ℕ) → 0 < half_width N → (xs ys : List ℤ) → N / 2 ≤ length xs → N / 2 ≤ length ys → TwoHalves N (take (N / 2) xs) (take (N / 2) ys)
halves-lent N wide xs ys h k = record { top-long = sym (part-long (N / 2) xs h) ∙ half_is N wide; bottom-long = sym (part-long (N / 2) ys k) ∙ half_is N wide }
