-- The product on a room whose front was filled: what it is given, and what it leaves.
use mathlib.Core.Path.{◌≡◌, sym, ap, subst, ◌∙◌}
use mathlib.Core.List.{List, ◌++◌}
use Prim.Native.Nat.{ℕ, ◌*◌, ◌^◌, ◌≤◌, ◌<◌}
use native.Mathlib.Nat.{le_refl}
use native.Mathlib.Omega.{arith}
use lib.Pow.{pow_pos}
use lib.IntN.{ℤ, pos, nat_abs}
use lib.ListN.{length, take}
use lib.Seq.{get_or-take, take_at}
use Rattle.integers.specs.Places.{places, at}
use Rattle.integers.proofs.PlaceLaws.{at_places}
use Rattle.tables.specs.Widths.{by_width, half_width}
use Rattle.tables.proofs.ByWidth.{at_each}
use Rattle.products.specs.Own.Products.{product, Power, ProductFits}
use Rattle.products.specs.Own.Whole.{LeafLists, ProductInput}
use Rattle.products.proofs.LevelLaws.{product-size}
use Rattle.products.proofs.LevelRooms.{power-same}
use Rattle.width_tables.specs.Filled.{product_room}

-- there is room for every level
room_at : {m : ℕ} (levels : ℕ) → m ≡ 4 * 2 ^ levels → (p : Power m) → 3 ^ p.levels * 4 ≡ 3 ^ levels * 4
room_at levels e p = ap (λ l. 3 ^ l * 4) (power-same p (record { levels = levels; is = e }))

room-le : (N m : ℕ) → m ≡ half_width N → (p : Power m) → 3 ^ p.levels * 4 ≤ product_room N
unfolding half_width product_room by_width
room-le =
    at_each (λ N M. (m : ℕ) → m ≡ M → (p : Power m) → 3 ^ p.levels * 4 ≤ product_room N) 4 16 64 0
    (λ m e p. omega (arith, room_at 0 e p)) (λ m e p. omega (arith, room_at 2 e p)) (λ m e p. omega (arith, room_at 4 e p))
    (λ N x y z m e p. absurd (omega (arith, e, p.is, pow_pos p.levels)))

module _ (N m : ℕ) (half : m ≡ half_width N) {L lists new : List ℤ} (rest : List ℤ) (q : LeafLists m L lists) (s : ProductFits m L new)
    (long : length new ≡ m) (room : product_room N ≤ length (new ++ rest)) where
  front : take m (new ++ rest) ≡ new
  front = take_at new rest m long

  pub given : ProductInput m lists (new ++ rest)
  given = record {
    table = L;
    leaves = q;
    roomy = record { power = q.power; sizes = subst (ProductFits m L) (sym front) s; long = omega (arith, room-le N m half q.power, room) };
  }

  module _ (y : List ℤ) (e : (L : List ℤ) → LeafLists m L lists → take m y ≡ places m (product m (at L) (at (take m (new ++ rest))))) where
    at_left : (i : ℕ) → i < m → at y i ≡ product m (at L) (at new) i
    at_left i h =
        sym (get_or-take m y i (pos 0) h) ∙ ap (λ l. at l i) (e L q) ∙ at_places m _ i h ∙ ap (λ r. product m (at L) (at r) i) front

    pub left : (i : ℕ) → i < half_width N → at y i ≡ product (half_width N) (at L) (at new) i
    left i h = at_left i (omega arith) ∙ ap (λ n. product n (at L) (at new) i) half

    pub left-small : (i : ℕ) → i < half_width N → nat_abs (at y i) ≤ 2 ^ 62
    left-small i h =
        let P = s.most-list * s.most in
        let z = product-size m {L = at L} {a = at new} i {P = P} (record { most-list = s.most-list; most = s.most; some = s.some; list-size = s.list-within.size; size = s.within.size; both = le_refl P }) in
        rw (at_left i (omega arith)) (omega (arith, z, s.fits))
