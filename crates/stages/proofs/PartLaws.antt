-- The row sums in the first half of a room, as the lifts read them: the first h numbers, where h is half of the width.
use mathlib.Core.Path.{◌≡◌, refl, sym, subst, ◌∙◌}
use mathlib.Core.List.{List}
use Prim.Native.Nat.{ℕ, ◌%◌, ◌≤◌, ◌<◌}
use native.Mathlib.Omega.{arith}
use lib.IntN.{ℤ, pos, ◌*ℤ◌}
use lib.ListN.{length, take}
use lib.Seq.{length-take-le}
use Rattle.integers.specs.Places.{places, at, Within}
use Rattle.tables.specs.Widths.{half_width, scale}
use Rattle.tables.proofs.ByWidth.{at_each}
use Rattle.width_tables.specs.Orders.{sign_in, place_out}
use Rattle.width_tables.specs.Filled.{product_room}
use Rattle.rows.specs.Orders.{Order, row_at}
use Rattle.rows.specs.Sums.{cosine_sums, CosineRows, SecantRows}
use Rattle.lifts.specs.Own.Moves.{Scaled, Thirds}
use Rattle.stages.proofs.RowLaws.{room-for-half, order_is, row_is, cosine-part, secant-part, scaled-is, thirds-are}

pub half-in-fours : (N : ℕ) → half_width N % 4 ≡ 0
unfolding half_width
half-in-fours = at_each (λ N M. M % 4 ≡ 0) 4 16 64 0 refl refl refl (λ N x y z. refl)

module _ (N h : ℕ) (e : h ≡ half_width N) where
  pub front-le : (y : List ℤ) → product_room N ≤ length y → h ≤ length y
  front-le y l = omega (arith, e, room-for-half N)

  pub front_is : (y : List ℤ) → product_room N ≤ length y → h ≡ length (take h y)
  front_is y l = sym (length-take-le h y (front-le y l))

  pub room-long : (y : List ℤ) → product_room N ≤ length y → length (take h y) ≡ half_width N
  room-long y l = length-take-le h y (front-le y l) ∙ e

  pub secants-in : {x z : List ℤ} → SecantRows N x z → SecantRows N x (take h z)
  secants-in {x} {z} r = subst (λ k. SecantRows N x (take k z)) (sym e) (secant-part r)

  cosines-in : {x y : List ℤ} → CosineRows N x y → CosineRows N x (take h y)
  cosines-in {x} {y} r = subst (λ k. CosineRows N x (take k y)) (sym e) (cosine-part r)

  module _ {back flips : List ℤ} (b : back ≡ places (half_width N) (λ m. pos (place_out N m)))
      (f : flips ≡ places (half_width N) (λ m. pos (scale N) *ℤ sign_in N (place_out N m))) {x y : List ℤ} (r : CosineRows N x y) where
    pub rows_are : (m : ℕ) → m < half_width N → row_at back flips (take h y) m ≡ pos (scale N) *ℤ at (cosine_sums N x) m
    rows_are = row_is N b f x (take h y) (cosines-in r)

    module _ (l : product_room N ≤ length y) where
      pub in_order : Order (length (take h y)) back flips
      in_order = order_is N b f _ (room-long y l)

      pub rows-scaled : Within 268000000 x → Scaled back flips (take h y)
      rows-scaled = scaled-is N b f (room-long y l) (cosines-in r)

      pub rows-thirds : {z : List ℤ} → product_room N ≤ length z → SecantRows N x z → Within 4000000 x → Thirds (take h z) back flips (take h y)
      rows-thirds {z} lz q = thirds-are N b f (room-long y l) (cosines-in r) (room-long z lz) (secants-in q)
