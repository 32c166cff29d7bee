-- The loops from level to level in a room, down and up again, and the whole product.
use mathlib.Core.Path.{◌≡◌, refl, sym, ap, ap₂, subst, ◌∙◌}
use mathlib.Core.List.{List, []}
use Prim.Native.Nat.{ℕ, zero, suc, ◌+◌, ◌-◌, ◌*◌, ◌/◌, ◌%◌, ◌^◌, ◌≤◌, ◌<◌}
use native.Mathlib.Nat.{mul-le-mul_left, pow-suc}
use native.Mathlib.Omega.{arith}
use lib.Pow.{pow_pos}
use lib.IntN.{ℤ, pos, nat_abs}
use lib.ListN.{length, take}
use lib.Seq.{length-take-le, get_or-take}
use Rattle.integers.specs.Places.{at, places}
use Rattle.integers.proofs.PlaceLaws.{by-places}
use Rattle.products.specs.Own.Products.{Lists, Laid, Power, ProductFits, product, products, down, up, wide, tables, numbers, nine}
use Rattle.products.specs.Own.Rooms.{Small}
use Rattle.products.specs.Own.Leaf.{Leaves}
use Rattle.products.specs.Own.Whole.{LeafLists, Roomy, ProductInput, Multiplied, Rising, Descended, Ascended}
use Rattle.products.proofs.LevelLaws.{wide-times, wide-next, wide-top, wide-leaf, level-up, level-sized, level-fits, products-small}
use Rattle.products.proofs.LevelRooms.{power-same, three-pos, level-room, wide-fours, wide-some, laid-small, numbers-small, top-level, half_is, half, next_level, next-room, last-level}

-- ---- the loop down
pub descended-top : (m : ℕ) (r : List ℤ) → Roomy m [] r → Descended m r m 1 r
unfolding numbers top-level
descended-top m r h = record {
  here = top-level h.power;
  long = refl;
  laid = record { long = omega (arith, h.long, rw (wide-top h.power) at (level-room h.power 0 (omega arith))); laid = λ v i l k. let e : v * m + i ≡ i = omega (arith, ap (λ w. w * m) (let z : v ≡ 0 = omega arith in z)) in ap (at r) e ∙ sym (get_or-take m r i (pos 0) k) };
}

module _ {m n k : ℕ} {r₀ r : List ℤ} (d : Descended m r₀ n k r) (more : 4 < n) where
  pub descend-room : {L : List ℤ} → Roomy m L r₀ → k * (n / 2 + n / 2) + k * (n / 2) ≤ length r
  descend-room g = omega (arith, next-room d.here more g.power, g.long, d.long)

  pub descend-small : {L : List ℤ} → ProductFits m L (take m r₀) → Small 0 (k * (n / 2 + n / 2)) r
  descend-small z = record { small = λ p b l. laid-small (2 ^ 62 - 1) d.laid (omega arith) (λ v i. numbers-small d.here.power z d.here.level v i d.here.inside) p (let e : k * n ≡ k * (n / 2 + n / 2) = ap (λ x. k * x) (half d.here more) in omega arith) }

  pub descended-next : (r' : List ℤ) → length r' ≡ length r → ((a : Lists) → Laid (n / 2 + n / 2) k a r → Laid (n / 2) (3 * k) (down (n / 2) k a) r') → Descended m r₀ (n / 2) (k * 3) r'
  unfolding numbers next_level
  descended-next r' same f =
      let a = numbers m (take m r₀) d.here.level in
      let g = f a (subst (λ x. Laid x k a r) (half d.here more) d.laid) in record {
        here = next_level d.here more;
        long = same ∙ d.long;
        laid = record { long = omega (arith, g.long); laid = λ v i b q. g.laid v i (omega arith) q ∙ ap₂ (λ x y. down x y a v i) (half_is d.here more) d.here.count };
      }

-- the leaves are reached
pub descended-end : {m n k : ℕ} {r₀ r : List ℤ} → Descended m r₀ n k r → n ≤ 4 → (p : Power m) → (k ≡ 3 ^ p.levels) × Laid 4 k (numbers m (take m r₀) p.levels) r
descended-end {m} {n} {k} {r₀} {r} d h p =
    let e = last-level d.here h p in
    let w : n ≡ 4 = d.here.width ∙ ap (wide m) e ∙ wide-leaf p in
    (d.here.count ∙ ap (λ l. 3 ^ l) e, subst (λ l. Laid 4 k (numbers m (take m r₀) l) r) e (subst (λ x. Laid x k (numbers m (take m r₀) d.here.level) r) w d.laid))

-- ---- and up again
pub ascended-leaves : {m k : ℕ} {r : List ℤ} → Rising m k r → Ascended m r 4 k r
ascended-leaves {m} {k} {r} h =
    let p = h.products.power in record {
      here = record { power = p; level = p.levels; inside = omega arith; width = sym (wide-leaf p); count = h.count };
      long = refl;
      laid = λ L a q. subst (λ l. Laid 4 k (products 4 (tables m L l) (numbers m a l)) r) (power-same q.power p) (subst (λ c. Laid 4 c (products 4 (tables m L q.power.levels) (numbers m a q.power.levels)) r) (ap (λ l. 3 ^ l) (power-same q.power p) ∙ sym h.count) q.laid);
    }

pub positive : {m n k : ℕ} {r₀ r : List ℤ} → Ascended m r₀ n k r → 4 ≤ n
positive d = omega (arith, d.here.width, wide-some d.here.power d.here.level d.here.inside)

module _ {m n k : ℕ} {r₀ r : List ℤ} (d : Ascended m r₀ n k r) (more : n < m) where
  -- the level above
  abbrev above-level : ℕ
  above-level = d.here.level - 1

  level-is : d.here.level ≡ suc above-level
  level-is = by d.here.level refl
    where
      by : (l : ℕ) → d.here.level ≡ l → d.here.level ≡ suc (d.here.level - 1)
      by zero e = absurd (omega (arith, d.here.width, ap (wide m) e, wide-top d.here.power))
      by (suc l) e = omega arith

  above-inside : above-level < d.here.power.levels
  above-inside = omega (arith, level-is, d.here.inside)

  width_is : n ≡ wide m (suc above-level)
  width_is = d.here.width ∙ ap (wide m) level-is

  count-is : k ≡ 3 ^ above-level * 3
  count-is = d.here.count ∙ ap (λ l. 3 ^ l) level-is ∙ pow-suc 3 above-level

  third-is : k / 3 ≡ 3 ^ above-level
  third-is = omega (arith, count-is)

  pub thirds : 3 * (k / 3) ≡ k
  thirds = omega (arith, count-is)

  pub double-is : n + n ≡ wide m above-level
  double-is = omega (arith, width_is, wide-next d.here.power above-level above-inside)

  pub ascend-fours : n % 4 ≡ 0
  ascend-fours = ap (λ x. x % 4) d.here.width ∙ wide-fours d.here.power d.here.level d.here.inside

  pub third-some : 1 ≤ k / 3
  third-some = omega (arith, third-is, three-pos above-level)

  pub double-le : n + n ≤ m
  double-le =
      let w : wide m above-level * 1 ≤ wide m above-level * 2 ^ above-level = mul-le-mul_left (wide m above-level) (pow_pos above-level) in
      omega (arith, double-is, w, wide-times d.here.power above-level (omega (arith, above-inside)))

  level-places : k / 3 * (n + n) + k / 3 * n ≡ k * n
  level-places = let e : 3 * (k / 3) * n ≡ k * n = ap (λ x. x * n) thirds in omega arith

  module _ {q : ℕ} (h : Rising m q r₀) where
    multiplied : Laid n k (products n (tables m h.table d.here.level) (numbers m h.list d.here.level)) r
    multiplied = d.laid h.table h.list h.products

    pub ascend-room : k / 3 * (n + n) + k / 3 * n ≤ length r
    ascend-room = omega (arith, level-places, multiplied.long)

    pub ascend-small : Small 0 (k / 3 * (n + n) + k / 3 * n) r
    ascend-small = record { small = λ p b l. laid-small (2 ^ 62 - 1) multiplied (omega (arith, d.here.width, wide-some d.here.power d.here.level d.here.inside)) (λ v i. small v i) p (omega (arith, level-places)) }
      where
        small : (v i : ℕ) → nat_abs (products n (tables m h.table d.here.level) (numbers m h.list d.here.level) v i) ≤ 2 ^ 62 - 1
        small v i = subst (λ x. nat_abs (products x (tables m h.table d.here.level) (numbers m h.list d.here.level) v i) ≤ 2 ^ 62 - 1) (sym d.here.width) (omega (arith, products-small d.here.power h.sizes d.here.level v i d.here.inside))

  pub ascended-next : (r' : List ℤ) → length r' ≡ length r → ((y : Lists) → Laid n (3 * (k / 3)) y r → Laid (n + n) (k / 3) (up n (k / 3) y) r') → Ascended m r₀ (n + n) (k / 3) r'
  ascended-next r' same f = record {
    here = record { power = d.here.power; level = above-level; inside = omega (arith, above-inside); width = double-is; count = third-is };
    long = same ∙ d.long;
    laid = λ L a q.
        let t = subst (λ c. Laid n c (products n (tables m L d.here.level) (numbers m a d.here.level)) r) (sym thirds) (d.laid L a q) in
        let g = f (products n (tables m L d.here.level) (numbers m a d.here.level)) t in record {
          long = g.long;
          laid = λ v i b c.
              g.laid v i b c
              ∙ ap (λ l. up n (k / 3) (products n (tables m L l) (numbers m a l)) v i) level-is
              ∙ ap₂ (λ x y. up x y (products x (tables m L (suc above-level)) (numbers m a (suc above-level))) v i) width_is third-is
              ∙ level-up d.here.power L a above-level v i above-inside (omega (arith, b, third-is))
              ∙ ap (λ x. products x (tables m L above-level) (numbers m a above-level) v i) (sym double-is);
        };
  }

-- the top is reached
pub ascended-end : {m n k : ℕ} {r₀ r : List ℤ} → Ascended m r₀ n k r → m ≤ n → (L a : List ℤ) → Multiplied m L a r₀ → Laid m 1 (products m (tables m L 0) (numbers m a 0)) r
ascended-end {m} {n} {k} {r₀} {r} d h L a q = by d.here.level refl
  where
    by : (l : ℕ) → d.here.level ≡ l → Laid m 1 (products m (tables m L 0) (numbers m a 0)) r
    by zero e =
        let w : n ≡ m = d.here.width ∙ ap (wide m) e ∙ wide-top d.here.power in
        let c : k ≡ 1 = d.here.count ∙ ap (λ l. 3 ^ l) e in
        let g = d.laid L a q in
        subst (λ x. Laid x 1 (products x (tables m L 0) (numbers m a 0)) r) w (subst (λ y. Laid n y (products n (tables m L 0) (numbers m a 0)) r) c (subst (λ l. Laid n k (products n (tables m L l) (numbers m a l)) r) e g))
    by (suc l) e =
        let b : l < d.here.power.levels = omega (arith, e, d.here.inside) in
        let u = wide-next d.here.power l b in
        let w : wide m l * 1 ≤ wide m l * 2 ^ l = mul-le-mul_left (wide m l) (pow_pos l) in
        absurd (omega (arith, d.here.width, ap (wide m) e, u, w, wide-times d.here.power l (omega (arith, b)), wide-some d.here.power (suc l) b))

-- the first m numbers of a room with one list of m
pub laid_one : (m : ℕ) (L a r : List ℤ) → Laid m 1 (products m (tables m L 0) (numbers m a 0)) r → take m r ≡ places m (product m (at L) (at a))
unfolding products tables numbers
laid_one m L a r d =
    by-places m (take m r) (product m (at L) (at a)) (length-take-le m r (omega (arith, d.long)))
    (λ i l. get_or-take m r i (pos 0) l ∙ ap (at r) (let e : i ≡ 0 * m + i = omega arith in e) ∙ d.laid 0 i (omega arith) l)

-- ---- what the steps of the whole are given
module _ {m : ℕ} {lists r : List ℤ} (g : ProductInput m lists r) where
  abbrev own : Power m
  own = g.leaves.power

  module _ {k : ℕ} {r₁ : List ℤ} (f : (p : Power m) → (k ≡ 3 ^ p.levels) × Laid 4 k (numbers m (take m r) p.levels) r₁) where
    pub given-nines : (L : List ℤ) (q : LeafLists m L lists) → Laid 9 k (λ v. at (nine (tables m L q.power.levels v))) lists
    given-nines L q = subst (λ c. Laid 9 c (λ v. at (nine (tables m L q.power.levels v))) lists) (sym (f q.power).0) q.nines

    pub given-leaves : Leaves k lists r₁
    given-leaves = record {
      tables = tables m g.table own.levels;
      numbers = numbers m (take m r) own.levels;
      nines = given-nines g.table g.leaves;
      laid = (f own).1;
      limit = g.roomy.sizes.most-list * g.roomy.sizes.most * 2 ^ own.levels;
      sized = level-sized own g.roomy.sizes own.levels;
      fits = let e = ap (λ x. x * (g.roomy.sizes.most-list * g.roomy.sizes.most * 2 ^ own.levels)) (wide-leaf own) in omega (arith, e, level-fits own g.roomy.sizes own.levels (omega arith));
    }

    module _ {r₂ : List ℤ} (e : (L a : Lists) → Laid 9 k (λ v. at (nine (L v))) lists → Laid 4 k a r₁ → Laid 4 k (products 4 L a) r₂) where
      pub given-multiplied : (L : List ℤ) → LeafLists m L lists → Multiplied m L (take m r) r₂
      given-multiplied L q = let p = q.power in record {
        power = p;
        laid = subst (λ c. Laid 4 c (products 4 (tables m L p.levels) (numbers m (take m r) p.levels)) r₂) (f p).0 (e (tables m L p.levels) (numbers m (take m r) p.levels) (given-nines L q) (f p).1);
      }

      pub given-rising : Rising m k r₂
      unfolding given-multiplied
      given-rising = record {
        table = g.table;
        list = take m r;
        sizes = g.roomy.sizes;
        products = given-multiplied g.table g.leaves;
        count = (f own).0;
      }
