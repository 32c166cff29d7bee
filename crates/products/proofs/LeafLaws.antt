-- A leaf's nine products come to the product of four numbers with its list, and everything on the way fits.
use mathlib.Core.Path.{◌≡◌, refl, sym, ap, ap₂, subst, ◌∙◌}
use mathlib.Core.List.{List}
use Prim.Native.Nat.{ℕ, ◌+◌, ◌*◌, ◌^◌, ◌≤◌, ◌<◌}
use native.Mathlib.Nat.{mul-le-mul_right}
use native.Mathlib.Omega.{arith}
use lib.IntN.{ℤ, nat_abs, ◌+ℤ◌, ◌-ℤ◌, ◌*ℤ◌}
use lib.ListN.{length}
use mir.Syntax.{w64}
use mir.Val.{SFits, to_z, of_z}
use mir.ValLaws.{to_z-of_z}
use Rattle.integers.specs.Places.{tab, places, at, Within}
use Rattle.integers.proofs.Order.{nat_abs-*ℤ-le}
use Rattle.integers.proofs.Words.{small}
use Rattle.integers.proofs.PlaceLaws.{within-places, at_places, places-ext, places_is, sum-ext}
use Rattle.slices.specs.declared.fours.Four.{Four}
use Rattle.products.specs.declared.leaf.Nine.{Nine}
use Rattle.slices.specs.Own.Fours.{listed, stored}
use Rattle.products.specs.Own.Products.{Lists, Laid, product, products, BothWithin, nine}
use Rattle.products.specs.Own.Leaf.{listed_nine, Fit, Leaf, Leaves, Leafed}
use Rattle.slices.proofs.FourLaws.{four-places, length-stored, stored-out, stored_is}
use Rattle.products.proofs.RoomLaws.{next_one}
use Rattle.products.proofs.FourTerms.{upper, lower, four-terms}
use Rattle.products.proofs.LevelLaws.{first-term, second-term, doubled-size, differing-size, product-size}

-- ---- the four places
module _ (g a : ℕ → ℤ) where
  abbrev e : ℕ → ℤ
  e = at (nine g)

  pub leaf_first : (e 0 *ℤ a 0 +ℤ e 4 *ℤ (a 0 +ℤ a 1)) +ℤ (e 6 *ℤ (a 0 +ℤ a 2) +ℤ e 8 *ℤ ((a 0 +ℤ a 2) +ℤ (a 1 +ℤ a 3))) ≡ product 4 g a 0
  unfolding product nine
  leaf_first =
      ap₂ ◌+ℤ◌ (first-term (g 0 -ℤ g 2) (g 1 -ℤ g 3) (a 0) (a 1)) (first-term (g 2) (g 3) (a 0 +ℤ a 2) (a 1 +ℤ a 3))
      ∙ upper (g 0) (g 1) (g 2) (g 3) (a 0) (a 1) (a 2) (a 3) ∙ four-terms (λ j. g (0 + j) *ℤ a j)

  pub leaf-second : (e 1 *ℤ a 1 +ℤ e 4 *ℤ (a 0 +ℤ a 1)) +ℤ (e 7 *ℤ (a 1 +ℤ a 3) +ℤ e 8 *ℤ ((a 0 +ℤ a 2) +ℤ (a 1 +ℤ a 3))) ≡ product 4 g a 1
  unfolding product nine
  leaf-second =
      ap₂ ◌+ℤ◌ (second-term (g 1 -ℤ g 3) (g 2 -ℤ g 4) (a 0) (a 1)) (second-term (g 3) (g 4) (a 0 +ℤ a 2) (a 1 +ℤ a 3))
      ∙ upper (g 1) (g 2) (g 3) (g 4) (a 0) (a 1) (a 2) (a 3) ∙ four-terms (λ j. g (1 + j) *ℤ a j)

  pub leaf-third : (e 2 *ℤ a 2 +ℤ e 5 *ℤ (a 2 +ℤ a 3)) +ℤ (e 6 *ℤ (a 0 +ℤ a 2) +ℤ e 8 *ℤ ((a 0 +ℤ a 2) +ℤ (a 1 +ℤ a 3))) ≡ product 4 g a 2
  unfolding product nine
  leaf-third =
      ap₂ ◌+ℤ◌ (first-term (g 4 -ℤ g 2) (g 5 -ℤ g 3) (a 2) (a 3)) (first-term (g 2) (g 3) (a 0 +ℤ a 2) (a 1 +ℤ a 3))
      ∙ lower (g 2) (g 3) (g 4) (g 5) (a 0) (a 1) (a 2) (a 3) ∙ four-terms (λ j. g (2 + j) *ℤ a j)

  pub leaf-fourth : (e 3 *ℤ a 3 +ℤ e 5 *ℤ (a 2 +ℤ a 3)) +ℤ (e 7 *ℤ (a 1 +ℤ a 3) +ℤ e 8 *ℤ ((a 0 +ℤ a 2) +ℤ (a 1 +ℤ a 3))) ≡ product 4 g a 3
  unfolding product nine
  leaf-fourth =
      ap₂ ◌+ℤ◌ (second-term (g 5 -ℤ g 3) (g 6 -ℤ g 4) (a 2) (a 3)) (second-term (g 3) (g 4) (a 0 +ℤ a 2) (a 1 +ℤ a 3))
      ∙ lower (g 3) (g 4) (g 5) (g 6) (a 0) (a 1) (a 2) (a 3) ∙ four-terms (λ j. g (3 + j) *ℤ a j)

-- ---- sizes
two-fit : (l m n x y : ℤ) {u w c : ℕ} → nat_abs l ≤ u → nat_abs m ≤ u → nat_abs n ≤ w → nat_abs x ≤ c → nat_abs y ≤ c → u * c < 2 ^ 62 → w * (2 * c) < 2 ^ 62 → 2 * c < 2 ^ 62 → Fit l m n x y
two-fit l m n x y hl hm hn hx hy p q r =
    let s = doubled-size x y hx hy in record {
      sum = omega (arith, s);
      left = omega (arith, nat_abs-*ℤ-le l x hl hx);
      right = omega (arith, nat_abs-*ℤ-le m y hm hy);
      middle = omega (arith, nat_abs-*ℤ-le n (x +ℤ y) hn s);
    }

module _ {P : ℕ} {g a : ℕ → ℤ} (s : BothWithin P g a) (f : 4 * P < 2 ^ 62) where
  numbers-small : 4 * s.most < 2 ^ 62
  numbers-small = let l : 1 * s.most ≤ s.most-list * s.most = mul-le-mul_right s.most s.some in omega (arith, l, s.both, f)

  one : (i j : ℕ) → nat_abs (g i -ℤ g j) ≤ 2 * s.most-list
  one i j = differing-size (g i) (g j) (s.list-size i) (s.list-size j)

  both : (i j k l : ℕ) → nat_abs ((g i -ℤ g j) -ℤ (g k -ℤ g l)) ≤ 4 * s.most-list
  both i j k l = omega (arith, differing-size (g i -ℤ g j) (g k -ℤ g l) (one i j) (one k l))

  outer : (l m n x y : ℤ) → nat_abs l ≤ 4 * s.most-list → nat_abs m ≤ 4 * s.most-list → nat_abs n ≤ 2 * s.most-list → nat_abs x ≤ s.most → nat_abs y ≤ s.most → Fit l m n x y
  outer l m n x y hl hm hn hx hy = two-fit l m n x y hl hm hn hx hy (omega (arith, s.both, f)) (omega (arith, s.both, f)) (omega (arith, numbers-small))

  pub fit-first : Fit (at (nine g) 0) (at (nine g) 1) (at (nine g) 4) (a 0) (a 1)
  unfolding nine
  fit-first = outer _ _ _ _ _ (both 0 2 1 3) (both 2 4 1 3) (one 1 3) (s.size 0) (s.size 1)

  pub fit-second : Fit (at (nine g) 2) (at (nine g) 3) (at (nine g) 5) (a 2) (a 3)
  unfolding nine
  fit-second = outer _ _ _ _ _ (both 4 2 5 3) (both 6 4 5 3) (one 5 3) (s.size 2) (s.size 3)

  pub fit-middle : Fit (at (nine g) 6) (at (nine g) 7) (at (nine g) 8) (a 0 +ℤ a 2) (a 1 +ℤ a 3)
  unfolding nine
  fit-middle = two-fit (g 2 -ℤ g 3) (g 4 -ℤ g 3) (g 3) (a 0 +ℤ a 2) (a 1 +ℤ a 3) (one 2 3) (one 4 3) (s.list-size 3) (doubled-size (a 0) (a 2) (s.size 0) (s.size 2)) (doubled-size (a 1) (a 3) (s.size 1) (s.size 3)) (omega (arith, s.both, f)) (omega (arith, s.both, f)) (omega (arith, numbers-small))

  pub fit-sum : (i j : ℕ) → nat_abs (a i +ℤ a j) < 2 ^ 62
  fit-sum i j = omega (arith, doubled-size (a i) (a j) (s.size i) (s.size j), numbers-small)

  pub fit-product : (i : ℕ) → nat_abs (product 4 g a i) < 2 ^ 62
  fit-product i = omega (arith, product-size 4 i s, f)

-- numbers of which only four count
pub sized-four : {P : ℕ} {g a : ℕ → ℤ} (x : List ℤ) → x ≡ places 4 a → BothWithin P g a → BothWithin P g (at x)
sized-four {a = a} x e s = record {
  most-list = s.most-list;
  most = s.most;
  some = s.some;
  list-size = s.list-size;
  size = (subst (Within s.most) (sym e) (within-places 4 s.most a (λ i l. s.size i))).size;
  both = s.both;
}

-- ---- what the code computes, each number read from its bits
abbrev pub read : ℤ → ℤ
read z = to_z w64 (of_z w64 z)

-- nine numbers: four, four and one
pub nine-read : (t : ℕ → ℤ) (x y : Four) → listed x ≡ places 4 t → listed y ≡ places 4 (λ j. t (4 + j)) → SFits w64 x.a × SFits w64 x.b × SFits w64 x.c × SFits w64 x.d → SFits w64 y.a × SFits w64 y.b × SFits w64 y.c × SFits w64 y.d
    → SFits w64 (t 8) → listed_nine (record { a = read x.a; b = read x.b; c = read x.c; d = read x.d; e = read y.a; f = read y.b; g = read y.c; h = read y.d; i = read (t 8) }) ≡ places 9 t
unfolding tab
nine-read t x y ex ey fx fy fi =
    rw (to_z-of_z w64 x.a fx.0, to_z-of_z w64 x.b fx.1, to_z-of_z w64 x.c fx.2, to_z-of_z w64 x.d fx.3, to_z-of_z w64 y.a fy.0, to_z-of_z w64 y.b fy.1, to_z-of_z w64 y.c fy.2, to_z-of_z w64 y.d fy.3, to_z-of_z w64 (t 8) fi) (cc)

abbrev pub Two : (l m n x y : ℤ) → ℤ × ℤ → Type 0
Two l m n x y r = (r.0 ≡ l *ℤ x +ℤ n *ℤ (x +ℤ y)) × (r.1 ≡ m *ℤ y +ℤ n *ℤ (x +ℤ y))

module _ {l m n x y x' y' : ℤ} (rl : SFits w64 l) (rm : SFits w64 m) (rn : SFits w64 n) (rx : x' ≡ x) (ry : y' ≡ y) where
  fit-read : Fit l m n x y → Fit (read l) (read m) (read n) x' y'
  fit-read f = rw (to_z-of_z w64 l rl, to_z-of_z w64 m rm, to_z-of_z w64 n rn, rx, ry) f

  two-read : {r : ℤ × ℤ} → Two (read l) (read m) (read n) x' y' r → Two l m n x y r
  two-read q = (rw (to_z-of_z w64 l rl, to_z-of_z w64 n rn, rx, ry) at q.0, rw (to_z-of_z w64 m rm, to_z-of_z w64 n rn, rx, ry) at q.1)

plus-read : (a b : ℤ) {z : ℤ} → SFits w64 a → SFits w64 b → a +ℤ b ≡ z → nat_abs z < 2 ^ 62 → SFits w64 (read a +ℤ read b) × (read (read a +ℤ read b) ≡ z)
plus-read a b {z} fa fb e s =
    let f : SFits w64 (a +ℤ b) = rw e (small w64 z (omega (arith, s))) in
    (rw (to_z-of_z w64 a fa, to_z-of_z w64 b fb) f, rw (to_z-of_z w64 a fa, to_z-of_z w64 b fb) (to_z-of_z w64 (a +ℤ b) f ∙ e))

-- each number of a leaf fits
abbrev pub NineFit : Nine → Type 0
NineFit l = SFits w64 l.a × SFits w64 l.b × SFits w64 l.c × SFits w64 l.d × SFits w64 l.e × SFits w64 l.f × SFits w64 l.g × SFits w64 l.h × SFits w64 l.i

module _ (l : Nine) (x : Four) (h : Leaf (listed_nine l) (listed x)) where
  x_is : (i : ℕ) → read (at (listed x) i) ≡ at (listed x) i
  x_is i = to_z-of_z w64 _ (small w64 _ (omega (arith, h.sized.size i, numbers-small h.sized h.fits)))

  x02 : SFits w64 (x.a +ℤ x.c)
  x02 = small w64 _ (omega (arith, fit-sum h.sized h.fits 0 2))

  x13 : SFits w64 (x.b +ℤ x.d)
  x13 = small w64 _ (omega (arith, fit-sum h.sized h.fits 1 3))

  pub sum-02 : SFits w64 (read x.a +ℤ read x.c)
  sum-02 = rw (x_is 0, x_is 2) x02

  pub sum-13 : SFits w64 (read x.b +ℤ read x.d)
  sum-13 = rw (x_is 1, x_is 3) x13

  x02_is : read (read x.a +ℤ read x.c) ≡ x.a +ℤ x.c
  x02_is = rw (x_is 0, x_is 2) (to_z-of_z w64 _ x02)

  x13_is : read (read x.b +ℤ read x.d) ≡ x.b +ℤ x.d
  x13_is = rw (x_is 1, x_is 3) (to_z-of_z w64 _ x13)

  module _ (f : NineFit l) where
    pub p-fit : Fit (read l.a) (read l.b) (read l.e) (read x.a) (read x.b)
    p-fit = fit-read f.0 f.1 f.4 (x_is 0) (x_is 1) (subst (λ t. Fit (at t 0) (at t 1) (at t 4) x.a x.b) (sym h.is) (fit-first h.sized h.fits))

    pub r-fit : Fit (read l.c) (read l.d) (read l.f) (read x.c) (read x.d)
    r-fit = fit-read f.2 f.3 f.5 (x_is 2) (x_is 3) (subst (λ t. Fit (at t 2) (at t 3) (at t 5) x.c x.d) (sym h.is) (fit-second h.sized h.fits))

    pub t-fit : Fit (read l.g) (read l.h) (read l.i) (read (read x.a +ℤ read x.c)) (read (read x.b +ℤ read x.d))
    t-fit = fit-read f.6 f.7 f.8 x02_is x13_is (subst (λ t. Fit (at t 6) (at t 7) (at t 8) (x.a +ℤ x.c) (x.b +ℤ x.d)) (sym h.is) (fit-middle h.sized h.fits))

    module _ {p r t : ℤ × ℤ} (ep : Two (read l.a) (read l.b) (read l.e) (read x.a) (read x.b) p) (er : Two (read l.c) (read l.d) (read l.f) (read x.c) (read x.d) r)
        (et : Two (read l.g) (read l.h) (read l.i) (read (read x.a +ℤ read x.c)) (read (read x.b +ℤ read x.d)) t) where
      p_is : Two l.a l.b l.e x.a x.b p
      p_is = two-read f.0 f.1 f.4 (x_is 0) (x_is 1) ep

      r_is : Two l.c l.d l.f x.c x.d r
      r_is = two-read f.2 f.3 f.5 (x_is 2) (x_is 3) er

      t_is : Two l.g l.h l.i (x.a +ℤ x.c) (x.b +ℤ x.d) t
      t_is = two-read f.6 f.7 f.8 x02_is x13_is et

      abbrev a : ℕ → ℤ
      a = at (listed x)

      sums : (g : ℕ → ℤ) → listed_nine l ≡ nine g → (p.0 +ℤ t.0 ≡ product 4 g a 0) × (p.1 +ℤ t.1 ≡ product 4 g a 1) × (r.0 +ℤ t.0 ≡ product 4 g a 2) × (r.1 +ℤ t.1 ≡ product 4 g a 3)
      sums g e = (
        ap₂ ◌+ℤ◌ p_is.0 t_is.0 ∙ ap (λ t. (at t 0 *ℤ a 0 +ℤ at t 4 *ℤ (a 0 +ℤ a 1)) +ℤ (at t 6 *ℤ (a 0 +ℤ a 2) +ℤ at t 8 *ℤ ((a 0 +ℤ a 2) +ℤ (a 1 +ℤ a 3)))) e ∙ leaf_first g a,
        ap₂ ◌+ℤ◌ p_is.1 t_is.1 ∙ ap (λ t. (at t 1 *ℤ a 1 +ℤ at t 4 *ℤ (a 0 +ℤ a 1)) +ℤ (at t 7 *ℤ (a 1 +ℤ a 3) +ℤ at t 8 *ℤ ((a 0 +ℤ a 2) +ℤ (a 1 +ℤ a 3)))) e ∙ leaf-second g a,
        ap₂ ◌+ℤ◌ r_is.0 t_is.0 ∙ ap (λ t. (at t 2 *ℤ a 2 +ℤ at t 5 *ℤ (a 2 +ℤ a 3)) +ℤ (at t 6 *ℤ (a 0 +ℤ a 2) +ℤ at t 8 *ℤ ((a 0 +ℤ a 2) +ℤ (a 1 +ℤ a 3)))) e ∙ leaf-third g a,
        ap₂ ◌+ℤ◌ r_is.1 t_is.1 ∙ ap (λ t. (at t 3 *ℤ a 3 +ℤ at t 5 *ℤ (a 2 +ℤ a 3)) +ℤ (at t 7 *ℤ (a 1 +ℤ a 3) +ℤ at t 8 *ℤ ((a 0 +ℤ a 2) +ℤ (a 1 +ℤ a 3)))) e ∙ leaf-fourth g a,
      )

      module _ (fp : SFits w64 p.0 × SFits w64 p.1) (fr : SFits w64 r.0 × SFits w64 r.1) (ft : SFits w64 t.0 × SFits w64 t.1) where
        pub sums-fit : SFits w64 (read p.0 +ℤ read t.0) × SFits w64 (read p.1 +ℤ read t.1) × SFits w64 (read r.0 +ℤ read t.0) × SFits w64 (read r.1 +ℤ read t.1)
        sums-fit =
            let s = sums h.list h.is in
            let w = fit-product h.sized h.fits in
            ((plus-read p.0 t.0 fp.0 ft.0 s.0 (w 0)).0, (plus-read p.1 t.1 fp.1 ft.1 s.1 (w 1)).0, (plus-read r.0 t.0 fr.0 ft.0 s.2 (w 2)).0, (plus-read r.1 t.1 fr.1 ft.1 s.3 (w 3)).0)

        pub leaf_is : (g : ℕ → ℤ) → listed_nine l ≡ nine g
            → listed (record { a = read (read p.0 +ℤ read t.0); b = read (read p.1 +ℤ read t.1); c = read (read r.0 +ℤ read t.0); d = read (read r.1 +ℤ read t.1) }) ≡ places 4 (product 4 g a)
        leaf_is g e =
            let s = sums h.list h.is in
            let w = fit-product h.sized h.fits in
            let q = sums g e in
            four-places (product 4 g a)
            ((plus-read p.0 t.0 fp.0 ft.0 s.0 (w 0)).1 ∙ sym s.0 ∙ q.0)
            ((plus-read p.1 t.1 fp.1 ft.1 s.1 (w 1)).1 ∙ sym s.1 ∙ q.1)
            ((plus-read r.0 t.0 fr.0 ft.0 s.2 (w 2)).1 ∙ sym s.2 ∙ q.2)
            ((plus-read r.1 t.1 fr.1 ft.1 s.3 (w 3)).1 ∙ sym s.3 ∙ q.3)

-- ---- every leaf
module _ {k v : ℕ} {lists r₀ r : List ℤ} (s : Leafed k v lists r₀ r) (l : v < k) (x : Four) (n : Nine)
    (ex : listed x ≡ places 4 (λ j. at r (v * 4 + j))) (en : listed_nine n ≡ places 9 (λ j. at lists (v * 9 + j))) where
  pub nine-is : (L : Lists) → Laid 9 k (λ v. at (nine (L v))) lists → listed_nine n ≡ nine (L v)
  unfolding nine
  nine-is L d = en ∙ places_is 9 _ (nine (L v)) refl (λ j m. d.laid v j l m)

  pub four_is : (a : Lists) → Laid 4 k a r₀ → listed x ≡ places 4 (a v)
  four_is a d = ex ∙ places-ext 4 _ _ (λ j m. s.rest (v * 4 + j) (omega arith) ∙ d.laid v j l m)

  pub leafed-leaf : Leaves k lists r₀ → Leaf (listed_nine n) (listed x)
  leafed-leaf h = record {
    list = h.tables v;
    is = nine-is h.tables h.nines;
    limit = h.limit;
    sized = sized-four (listed x) (four_is h.numbers h.laid) (h.sized v);
    fits = h.fits;
  }

  pub leafed-next : v * 4 + 4 ≤ length r₀ → (z : Four) → ((g : ℕ → ℤ) → listed_nine n ≡ nine g → listed z ≡ places 4 (product 4 g (at (listed x)))) → Leafed k (v + 1) lists r₀ (stored r (v * 4) z)
  unfolding product products
  leafed-next m z ez = record {
    long = length-stored r (v * 4) z ∙ s.long;
    done = λ L a dL da w j b q. next_one (λ w. at (stored r (v * 4) z) (w * 4 + j) ≡ products 4 L a w j) v
        (λ w b. stored-out r (v * 4) z (w * 4 + j) (λ c. absurd (omega arith)) ∙ s.done L a dL da w j b q)
        (stored_is r (v * 4) z (product 4 (L v) (at (listed x))) (omega (arith, s.long)) (ez (L v) (nine-is L dL)) j q
        ∙ sum-ext 4 _ _ (λ i p. ap (λ t. L v (j + i) *ℤ t) (ap (λ t. at t i) (four_is a da) ∙ at_places 4 (a v) i p))) w b;
    rest = λ p b. stored-out r (v * 4) z p (λ c. omega arith) ∙ s.rest p (omega arith);
  }
