-- A product by its halves, of one list, of many lists, and from level to level; and its size, which no level enlarges.
use mathlib.Core.Path.{◌≡◌, refl, sym, ap, ap₂, ◌∙◌}
use mathlib.Core.Bool.{Bool, true, false}
use mathlib.Core.List.{List}
use Prim.Native.Nat.{ℕ, zero, suc, ◌+◌, ◌-◌, ◌*◌, ◌/◌, ◌%◌, ◌^◌, ◌≤◌, ◌<◌}
use native.Mathlib.Nat.{pow-suc}
use native.Mathlib.Omega.{arith}
use borrow.Author.Tests.{ltb-true, ltb-false, lt-ltb, le-ltb}
use lib.Dec.{ltb}
use lib.IntN.{ℤ, nat_abs, ◌+ℤ◌, ◌-ℤ◌, ◌*ℤ◌, +ℤ_assoc, +ℤ_idr}
use Rattle.integers.specs.Places.{at, sum}
use Rattle.integers.proofs.Order.{nat_abs-+ℤ-le, nat_abs-*ℤ-le, nat_abs--ℤ}
use Rattle.integers.proofs.PlaceLaws.{sum-ext}
use Rattle.integers.proofs.Permutations.{sum-plus}
use Rattle.integers.proofs.Differences.{dif, zs}
use Rattle.products.specs.Own.Products.{Lists, product, products, down, down_l, up, wide, numbers, tables, raised, Power, BothWithin, ProductFits}

-- a sum in two parts
pub sum-split : (m n : ℕ) (f : ℕ → ℤ) → sum (m + n) f ≡ sum m f +ℤ sum n (λ j. f (m + j))
unfolding sum
sum-split m zero f = let e : m + 0 ≡ m = omega arith in rw e (sym (+ℤ_idr (sum m f)))
sum-split m (suc n) f =
    let e : m + suc n ≡ suc (m + n) = omega arith in
    rw e (ap (λ z. z +ℤ f (m + n)) (sum-split m n f) ∙ +ℤ_assoc (sum m f) (sum n (λ j. f (m + j))) (f (m + n)))

-- ---- one list
pub first-term : (a b x y : ℤ) → (a -ℤ b) *ℤ x +ℤ b *ℤ (x +ℤ y) ≡ a *ℤ x +ℤ b *ℤ y
first-term a b x y = rw (dif a, dif b, dif x, dif y) (simp zs (omega arith))

pub second-term : (b c x y : ℤ) → (c -ℤ b) *ℤ y +ℤ b *ℤ (x +ℤ y) ≡ b *ℤ x +ℤ c *ℤ y
second-term b c x y = rw (dif b, dif c, dif x, dif y) (simp zs (omega arith))

module _ (h : ℕ) (L a : ℕ → ℤ) (i : ℕ) where
  pub first-half : product h (λ e. L e -ℤ L (h + e)) a i +ℤ product h (λ e. L (h + e)) (λ j. a j +ℤ a (h + j)) i ≡ product (h + h) L a i
  unfolding product
  first-half =
      sym (sum-plus h _ _)
      ∙ sum-ext h _ (λ j. L (i + j) *ℤ a j +ℤ L (i + (h + j)) *ℤ a (h + j)) (λ j l. first-term (L (i + j)) (L (h + (i + j))) (a j) (a (h + j)) ∙ ap (λ p. L (i + j) *ℤ a j +ℤ L p *ℤ a (h + j)) (let e : h + (i + j) ≡ i + (h + j) = omega arith in e))
      ∙ sum-plus h _ _
      ∙ sym (sum-split h h (λ j. L (i + j) *ℤ a j))

  pub second-half : product h (λ e. L (h + h + e) -ℤ L (h + e)) (λ j. a (h + j)) i +ℤ product h (λ e. L (h + e)) (λ j. a j +ℤ a (h + j)) i ≡ product (h + h) L a (h + i)
  unfolding product
  second-half =
      sym (sum-plus h _ _)
      ∙ sum-ext h _ (λ j. L (h + i + j) *ℤ a j +ℤ L (h + i + (h + j)) *ℤ a (h + j)) (λ j l. second-term (L (h + (i + j))) (L (h + h + (i + j))) (a j) (a (h + j)) ∙ ap₂ (λ p q. L p *ℤ a j +ℤ L q *ℤ a (h + j)) (let e : h + (i + j) ≡ h + i + j = omega arith in e) (let e : h + h + (i + j) ≡ h + i + (h + j) = omega arith in e))
      ∙ sum-plus h _ _
      ∙ sym (sum-split h h (λ j. L (h + i + j) *ℤ a j))

pub product-ext : (n : ℕ) (L L' a a' : ℕ → ℤ) (i : ℕ) → ((e : ℕ) → L e ≡ L' e) → ((j : ℕ) → a j ≡ a' j) → product n L a i ≡ product n L' a' i
unfolding product
product-ext n L L' a a' i f g = sum-ext n _ _ (λ j l. ap₂ ◌*ℤ◌ (f (i + j)) (g j))

-- ---- many lists
module _ (h k : ℕ) (a : Lists) (v : ℕ) where
  pub down-first : v < k → (i : ℕ) → down h k a (2 * v) i ≡ a v i
  unfolding down
  down-first l i =
      let e : (2 * v) / 2 ≡ v = omega arith in
      let f : (2 * v) % 2 ≡ 0 = omega arith in
      let g : 0 * h + i ≡ i = omega arith in
      rw (lt-ltb (2 * v) (2 * k) (omega arith), e, f, g)

  pub down-second : v < k → (i : ℕ) → down h k a (2 * v + 1) i ≡ a v (h + i)
  unfolding down
  down-second l i =
      let e : (2 * v + 1) / 2 ≡ v = omega arith in
      let f : (2 * v + 1) % 2 ≡ 1 = omega arith in
      let g : 1 * h + i ≡ h + i = omega arith in
      rw (lt-ltb (2 * v + 1) (2 * k) (omega arith), e, f, g)

  pub down-sum : (i : ℕ) → down h k a (2 * k + v) i ≡ a v i +ℤ a v (h + i)
  unfolding down
  down-sum i =
      let e : 2 * k + v - 2 * k ≡ v = omega arith in
      rw (le-ltb (2 * k + v) (2 * k) (omega arith), e)

  pub down_l-first : v < k → (i : ℕ) → down_l h k a (2 * v) i ≡ a v i -ℤ a v (h + i)
  unfolding down_l
  down_l-first l i =
      let e : (2 * v) / 2 ≡ v = omega arith in
      let f : (2 * v) % 2 ≡ 0 = omega arith in
      let g : 0 * (h + h) + i ≡ i = omega arith in
      rw (lt-ltb (2 * v) (2 * k) (omega arith), e, f, g)

  pub down_l-second : v < k → (i : ℕ) → down_l h k a (2 * v + 1) i ≡ a v (h + h + i) -ℤ a v (h + i)
  unfolding down_l
  down_l-second l i =
      let e : (2 * v + 1) / 2 ≡ v = omega arith in
      let f : (2 * v + 1) % 2 ≡ 1 = omega arith in
      let g : 1 * (h + h) + i ≡ h + h + i = omega arith in
      rw (lt-ltb (2 * v + 1) (2 * k) (omega arith), e, f, g)

  pub down_l-middle : (i : ℕ) → down_l h k a (2 * k + v) i ≡ a v (h + i)
  unfolding down_l
  down_l-middle i =
      let e : 2 * k + v - 2 * k ≡ v = omega arith in
      rw (le-ltb (2 * k + v) (2 * k) (omega arith), e)

-- the products of the halves and of their sums come up to the products
pub up-products : (h k : ℕ) (L a : Lists) (v i : ℕ) → v < k → up h k (products h (down_l h k L) (down h k a)) v i ≡ products (h + h) L a v i
unfolding up products
up-products h k L a v i l = by (ltb i h) refl
  where
    middle : (j : ℕ) → product h (down_l h k L (2 * k + v)) (down h k a (2 * k + v)) j ≡ product h (λ e. L v (h + e)) (λ j. a v j +ℤ a v (h + j)) j
    middle j = product-ext h _ _ _ _ j (down_l-middle h k L v) (down-sum h k a v)

    by : (t : Bool) → ltb i h ≡ t → up h k (products h (down_l h k L) (down h k a)) v i ≡ products (h + h) L a v i
    by true e = rw e (ap₂ ◌+ℤ◌ (product-ext h _ _ _ _ i (down_l-first h k L v l) (down-first h k a v l)) (middle i) ∙ first-half h (L v) (a v) i)
    by false e =
        let n : h + (i - h) ≡ i = omega (arith, ltb-false i h e) in
        rw e (ap₂ ◌+ℤ◌ (product-ext h _ _ _ _ (i - h) (down_l-second h k L v l) (down-second h k a v l)) (middle (i - h)) ∙ second-half h (L v) (a v) (i - h) ∙ ap (product (h + h) (L v) (a v)) n)

-- ---- levels
pub wide_at : (l t : ℕ) → wide (4 * 2 ^ (l + t)) l ≡ 4 * 2 ^ t
unfolding wide
wide_at zero t = ap (λ n. 4 * 2 ^ n) (omega arith)
wide_at (suc l) t =
    let e : suc l + t ≡ l + suc t = omega arith in
    let d : 4 * 2 ^ suc t / 2 ≡ 4 * 2 ^ t = omega (arith, pow-suc 2 t) in
    ap (λ n. wide (4 * 2 ^ n) (suc l)) e ∙ ap (λ w. w / 2) (wide_at l (suc t)) ∙ d

module _ {m : ℕ} (p : Power m) where
  -- level l, with t more to go
  pub wide_is : (l t : ℕ) → l + t ≡ p.levels → wide m l ≡ 4 * 2 ^ t
  wide_is l t e = ap (λ n. wide n l) (p.is ∙ ap (λ n. 4 * 2 ^ n) (sym e)) ∙ wide_at l t

  pub wide-next : (l : ℕ) → l < p.levels → wide m l ≡ wide m (suc l) + wide m (suc l)
  wide-next l h =
      let t = p.levels - suc l in
      omega (arith, wide_is l (suc t) (omega arith), wide_is (suc l) t (omega arith), pow-suc 2 t)

  pub wide-top : wide m 0 ≡ m
  unfolding wide
  wide-top = refl

  pub wide-times : (l : ℕ) → l ≤ p.levels → wide m l * 2 ^ l ≡ m
  wide-times zero h = let e : wide m 0 ≡ m = wide-top in omega arith
  wide-times (suc l) h = let before = rw (wide-next l h) at (wide-times l (omega arith)) in rw (pow-suc 2 l) (omega (arith, before))

  pub wide-leaf : wide m p.levels ≡ 4
  wide-leaf = wide_is p.levels 0 (omega arith)

  pub level-up : (L a : List ℤ) (l v i : ℕ) → l < p.levels → v < 3 ^ l
      → up (wide m (suc l)) (3 ^ l) (products (wide m (suc l)) (tables m L (suc l)) (numbers m a (suc l))) v i ≡ products (wide m l) (tables m L l) (numbers m a l) v i
  unfolding tables numbers
  level-up L a l v i h k = up-products (wide m (suc l)) (3 ^ l) (tables m L l) (numbers m a l) v i k ∙ ap (λ n. products n (tables m L l) (numbers m a l) v i) (sym (wide-next l h))

-- ---- sizes: a difference of lists or a sum of halves doubles one of the two limits, and the length halves
pub doubled-size : (x y : ℤ) {n : ℕ} → nat_abs x ≤ n → nat_abs y ≤ n → nat_abs (x +ℤ y) ≤ 2 * n
doubled-size x y l r = omega (arith, nat_abs-+ℤ-le x y l r)

pub differing-size : (x y : ℤ) {n : ℕ} → nat_abs x ≤ n → nat_abs y ≤ n → nat_abs (x -ℤ y) ≤ 2 * n
differing-size x y l r = omega (arith, nat_abs--ℤ x y)

-- the lists of a level below, v of them
pub sized-down : (h k : ℕ) (L a : Lists) {P : ℕ} → ((v : ℕ) → BothWithin P (L v) (a v)) → (v : ℕ) → BothWithin (P * 2) (down_l h k L v) (down h k a v)
unfolding down down_l
sized-down h k L a {P} s v = by (ltb v (2 * k)) refl
  where
    by : (t : Bool) → ltb v (2 * k) ≡ t → BothWithin (P * 2) (down_l h k L v) (down h k a v)
    by true e = let r = s (v / 2) in record {
      most-list = 2 * r.most-list;
      most = r.most;
      some = omega (arith, r.some);
      list-size = λ i. rw e (differing-size (L (v / 2) (v % 2 * (h + h) + i)) (L (v / 2) (h + i)) (r.list-size (v % 2 * (h + h) + i)) (r.list-size (h + i)));
      size = λ i. rw e (r.size (v % 2 * h + i));
      both = omega (arith, r.both);
    }
    by false e = let r = s (v - 2 * k) in record {
      most-list = r.most-list;
      most = 2 * r.most;
      some = r.some;
      list-size = λ i. rw e (r.list-size (h + i));
      size = λ i. rw e (doubled-size (a (v - 2 * k) i) (a (v - 2 * k) (h + i)) (r.size i) (r.size (h + i)));
      both = omega (arith, r.both);
    }

pub sum-size : (n : ℕ) (f : ℕ → ℤ) {X : ℕ} → ((j : ℕ) → nat_abs (f j) ≤ X) → nat_abs (sum n f) ≤ n * X
unfolding sum
sum-size zero f s = omega arith
sum-size (suc n) f {X} s = omega (arith, nat_abs-+ℤ-le (sum n f) (f n) (sum-size n f s) (s n))

pub product-size : (n : ℕ) {L a : ℕ → ℤ} (i : ℕ) {P : ℕ} → BothWithin P L a → nat_abs (product n L a i) ≤ n * P
unfolding product
product-size n {L} {a} i {P} s =
    sum-size n _ (λ j. let l : nat_abs (L (i + j) *ℤ a j) ≤ s.most-list * s.most = nat_abs-*ℤ-le (L (i + j)) (a j) (s.list-size (i + j)) (s.size j) in omega (arith, l, s.both))

-- the limits of a table and a list so small that every number on the way is below 2^62
module _ {m : ℕ} (p : Power m) {L a : List ℤ} (z : ProductFits m L a) where
  pub level-sized : (l v : ℕ) → BothWithin (z.most-list * z.most * 2 ^ l) (tables m L l v) (numbers m a l v)
  unfolding tables numbers
  level-sized zero v = record { most-list = z.most-list; most = z.most; some = z.some; list-size = z.list-within.size; size = z.within.size; both = omega arith }
  level-sized (suc l) v =
      let e : z.most-list * z.most * 2 ^ suc l ≡ z.most-list * z.most * 2 ^ l * 2 = rw (pow-suc 2 l) (omega arith) in
      rw e (sized-down (wide m (suc l)) (3 ^ l) (tables m L l) (numbers m a l) (level-sized l) v)

  pub level-fits : (l : ℕ) → l ≤ p.levels → wide m l * (z.most-list * z.most * 2 ^ l) < 2 ^ 62
  level-fits l h =
      let e : wide m l * (z.most-list * z.most * 2 ^ l) ≡ wide m l * 2 ^ l * z.most-list * z.most = omega arith in
      let f : wide m l * 2 ^ l ≡ m = wide-times p l h in
      rw (e, f) z.fits

  pub products-small : (l v i : ℕ) → l ≤ p.levels → nat_abs (products (wide m l) (tables m L l) (numbers m a l) v i) < 2 ^ 62
  unfolding products
  products-small l v i h = omega (arith, product-size (wide m l) i (level-sized l v), level-fits l h)

-- ---- all levels: the products on any level come up to the product
up_same : (h k : ℕ) (y z : Lists) → ((v i : ℕ) → v < 3 * k → i < h → y v i ≡ z v i) → (v i : ℕ) → v < k → i < h + h → up h k y v i ≡ up h k z v i
unfolding up
up_same h k y z e v i l m = by (ltb i h) refl
  where
    by : (t : Bool) → ltb i h ≡ t → up h k y v i ≡ up h k z v i
    by true t = let b = ltb-true i h t in rw t (ap₂ ◌+ℤ◌ (e (2 * v) i (omega arith) b) (e (2 * k + v) i (omega arith) b))
    by false t = let b : i - h < h = omega (arith, ltb-false i h t) in rw t (ap₂ ◌+ℤ◌ (e (2 * v + 1) (i - h) (omega arith) b) (e (2 * k + v) (i - h) (omega arith) b))

module _ {m : ℕ} (p : Power m) where
  raised-same : (l : ℕ) (y z : Lists) → l ≤ p.levels → ((v i : ℕ) → v < 3 ^ l → i < wide m l → y v i ≡ z v i) → (i : ℕ) → i < m → raised m l y 0 i ≡ raised m l z 0 i
  unfolding raised wide
  raised-same zero y z h e i k = e 0 i (omega arith) k
  raised-same (suc l) y z h e i k =
      let w = wide-next p l h in
      let c = pow-suc 3 l in
      raised-same l (up (wide m (suc l)) (3 ^ l) y) (up (wide m (suc l)) (3 ^ l) z) (omega arith) (λ v i a b. up_same (wide m (suc l)) (3 ^ l) y z (λ v i a b. e v i (omega arith) b) v i a (omega arith)) i k

  pub product-by-levels : (L a : List ℤ) (l : ℕ) → l ≤ p.levels → (i : ℕ) → i < m → raised m l (products (wide m l) (tables m L l) (numbers m a l)) 0 i ≡ product m (at L) (at a) i
  unfolding raised wide products tables numbers
  product-by-levels L a zero h i k = refl
  product-by-levels L a (suc l) h i k =
      raised-same l (up (wide m (suc l)) (3 ^ l) (products (wide m (suc l)) (tables m L (suc l)) (numbers m a (suc l)))) (products (wide m l) (tables m L l) (numbers m a l)) (omega arith) (λ v i b c. level-up p L a l v i h b) i k
      ∙ product-by-levels L a l (omega arith) i k
