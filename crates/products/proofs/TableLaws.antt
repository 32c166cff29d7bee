-- The lists of a table halved, level by level, and the nine numbers of each leaf.
use mathlib.Core.Path.{◌≡◌, refl, sym, ap, ap₂, subst, ◌∙◌}
use mathlib.Core.Bool.{Bool, true, false}
use mathlib.Core.List.{List, ◌++◌}
use Prim.Native.Nat.{ℕ, zero, suc, ◌+◌, ◌-◌, ◌*◌, ◌/◌, ◌%◌, ◌^◌, ◌≤◌, ◌<◌}
use native.Mathlib.Nat.{mul-le-mul_right, pow-suc, div-add-mod, mod-lt, div-lt_iff_lt-mul}
use native.Mathlib.Omega.{arith}
use borrow.Author.Tests.{ltb-true, ltb-false, eqb-true, eqb-false}
use lib.Dec.{ltb, eqb}
use lib.IntN.{ℤ, pos, nat_abs, ◌-ℤ◌}
use lib.ListN.{length, take, set, length-set, get_or-append}
use lib.Seq.{get_or-set_same, get_or-set_other, get_or-append-add, get_or-take}
use Rattle.integers.specs.Places.{at, places, Within}
use Rattle.integers.proofs.PlaceLaws.{at_places, places-ext}
use Rattle.slices.specs.declared.fours.Four.{Four}
use Rattle.slices.specs.Own.Fours.{listed, stored}
use Rattle.products.specs.Own.Products.{Lists, Laid, Power, down_l, wide, tables, nine}
use Rattle.products.specs.Own.Rooms.{Small, Written, AllWritten, AllSpread}
use Rattle.products.specs.Own.Whole.{LeafLists}
use Rattle.products.specs.Own.Tables.{middles, Tabled, TablesHalved}
use Rattle.slices.proofs.FourLaws.{next-four, length-stored}
use Rattle.products.proofs.RoomLaws.{written_none, written_next, next_one, all-written-next}
use Rattle.products.proofs.LevelLaws.{wide-top, wide-leaf, wide-times, differing-size}
use Rattle.products.proofs.LevelRooms.{level-room, wide-some, laid-small, top-level, half_is, half, next_level, next-room, last-level}

-- ---- nine numbers stored one behind the other: four, four and one
pub written-nine : (f : ℕ → ℤ) {r r' r'' : List ℤ} {p : ℕ} {low high : Four} {z : ℤ} → r' ≡ stored r p low → r'' ≡ stored r' (p + 4) high → p + 9 ≤ length r
    → listed low ≡ places 4 f → listed high ≡ places 4 (λ j. f (4 + j)) → z ≡ f 8 → Written f p 9 r (set r'' (p + 8) z)
written-nine f {r} {r'} {r''} {p} {low} {high} {z} e₁ e₂ h el eh ez =
    let r₁ = stored r p low in
    let r₂ = stored r₁ (p + 4) high in
    let same : r'' ≡ r₂ = e₂ ∙ ap (λ t. stored t (p + 4) high) e₁ in
    let n : length r₂ ≡ length r = length-stored r₁ (p + 4) high ∙ length-stored r p low in
    let four : Written f p 4 r r₁ = subst (λ q. Written f p 4 r (stored r q low)) (let e : p + 0 ≡ p = omega arith in e) (written_next (written_none f p r) (omega arith) low (el ∙ places-ext 4 f _ (λ j l. ap f (let e : j ≡ 0 + j = omega arith in e)))) in
    let eight : Written f p 8 r r₂ = written_next four (omega arith) high eh in
    subst (λ t. Written f p 9 r (set t (p + 8) z)) (sym same) record {
      long = length-set r₂ (p + 8) z ∙ n;
      rest = λ q l. get_or-set_other r₂ (p + 8) q z (pos 0) (λ e. omega (arith, l (omega arith))) ∙ eight.rest q (λ m. omega (arith, l m));
      new = next_one (λ j. at (set r₂ (p + 8) z) (p + j) ≡ f j) 8
          (λ j l. get_or-set_other r₂ (p + 8) (p + j) z (pos 0) (λ e. omega arith) ∙ eight.new j l)
          (get_or-set_same r₂ (p + 8) z (pos 0) (omega arith) ∙ ez);
    }

-- ---- the nine numbers of a list
pub nine-ext : (f g : ℕ → ℤ) → ((e : ℕ) → e < 8 → f e ≡ g e) → nine f ≡ nine g
unfolding nine
nine-ext f g h = rw (h 0 (omega arith), h 1 (omega arith), h 2 (omega arith), h 3 (omega arith), h 4 (omega arith), h 5 (omega arith), h 6 (omega arith))

pub eight_is : (x y : Four) (f : ℕ → ℤ) → listed x ≡ places 4 f → listed y ≡ places 4 (λ j. f (4 + j)) → (e : ℕ) → e < 8 → at (listed x ++ listed y) e ≡ f e
eight_is x y f ex ey = next-four (λ e. at (listed x ++ listed y) e ≡ f e) 4
    (λ j l. get_or-append (listed x) (listed y) (pos 0) j l ∙ ap (λ t. at t j) ex ∙ at_places 4 f j l)
    (λ j l. get_or-append-add (listed x) (listed y) j (pos 0) ∙ ap (λ t. at t j) ey ∙ at_places 4 (λ j. f (4 + j)) j l)

-- ---- a level
module _ (q k : ℕ) (r₀ r₁ : List ℤ) (w : AllWritten (middles q r₀) (k * (q + q + (q + q))) (q + q) k r₀ r₁) where
  abbrev h : ℕ
  h = q + q

  middle-at : (u i : ℕ) → u < k → i < h → at r₁ (k * (h + h) + u * h + i) ≡ at r₀ (u * (h + h) + (q + i))
  middle-at u i l m = w.new u i l m ∙ ap (at r₀) (let e : u * (h + h) + q + i ≡ u * (h + h) + (q + i) = omega arith in e)

  pub middles-small : Small 0 (k * (q + q + (q + q))) r₀ → Small 0 (k * (q + q + (q + q)) + k * (q + q)) r₁
  middles-small s = record { small = λ p b l. by p l (ltb p (k * (h + h))) refl }
    where
      by : (p : ℕ) → p < k * (h + h) + k * h → (t : Bool) → ltb p (k * (h + h)) ≡ t → nat_abs (at r₁ p) ≤ 2 ^ 62 - 1
      by p l true e = let b = ltb-true p (k * (h + h)) e in rw (w.old p b) (s.small p (omega arith) b)
      by p l false e =
          let b = ltb-false p (k * (h + h)) e in
          let o = p - k * (h + h) in
          let z : 0 < h = positive p l b h refl in
          let d : k * (h + h) + o / h * h + o % h ≡ p = omega (arith, div-add-mod o h) in
          let below : o / h < k = (div-lt_iff_lt-mul z).1 (omega arith) in
          let whole : (o / h + 1) * (h + h) ≤ k * (h + h) = mul-le-mul_right (h + h) (omega arith) in
          let m = mod-lt o z in
          subst (λ n. nat_abs (at r₁ n) ≤ 2 ^ 62 - 1) d (rw (middle-at (o / h) (o % h) below m) (s.small (o / h * (h + h) + (q + o % h)) (omega arith) (omega arith)))
        where
          positive : (p : ℕ) → p < k * (h + h) + k * h → k * (h + h) ≤ p → (x : ℕ) → h ≡ x → 0 < h
          positive p l b zero e = absurd (omega (arith, ap (λ t. k * t) e))
          positive p l b (suc x) e = omega arith

  pub halved-laid : (r : List ℤ) → AllSpread ◌-ℤ◌ (q + q) k k r₁ r → (L : Lists) → Laid (q + q + (q + q)) k L r₀ → k * (q + q + (q + q)) + k * (q + q) ≤ length r₀ → Laid (q + q) (3 * k) (down_l q k L) r
  unfolding down_l
  halved-laid r s L d n = record { long = omega (arith, s.long, w.long); laid = λ v i l m. by v i l m (ltb v (2 * k)) refl }
    where
      quarter : (u i : ℕ) → u < k → i < h → at r₀ (u * (h + h) + (q + i)) ≡ L u (q + i)
      quarter u i l m = d.laid u (q + i) l (omega arith)

      half : (v i : ℕ) → v / 2 < k → i < h → (t : Bool) → eqb (v % 2) 0 ≡ t → at r (v * h + i) ≡ L (v / 2) (v % 2 * (q + q) + i) -ℤ L (v / 2) (q + i)
      half v i l m true e =
          let u = v / 2 in
          let z = eqb-true (v % 2) 0 e in
          let whole : (u + 1) * (h + h) ≤ k * (h + h) = mul-le-mul_right (h + h) (omega arith) in
          let a : v * h ≡ (u * 2) * h = ap (λ x. x * h) (let y : v ≡ u * 2 = omega arith in y) in
          let place : v * h + i ≡ u * (h + h) + i = omega arith in
          let b : 0 * (q + q) + i ≡ i = omega arith in
          rw (z, b) (ap (at r) place ∙ s.first u i l m ∙ ap₂ ◌-ℤ◌ (w.old (u * (h + h) + i) (omega arith) ∙ d.laid u i l (omega arith)) (middle-at u i l m ∙ quarter u i l m))
      half v i l m false e =
          let u = v / 2 in
          let z : v % 2 ≡ 1 = odd (eqb-false (v % 2) 0 e) in
          let whole : (u + 1) * (h + h) ≤ k * (h + h) = mul-le-mul_right (h + h) (omega arith) in
          let a : v * h ≡ (u * 2 + 1) * h = ap (λ x. x * h) (let y : v ≡ u * 2 + 1 = omega arith in y) in
          let place : v * h + i ≡ u * (h + h) + h + i = omega arith in
          let b : 1 * (q + q) + i ≡ h + i = omega arith in
          let c : u * (h + h) + h + i ≡ u * (h + h) + (h + i) = omega arith in
          rw (z, b) (ap (at r) place ∙ s.second u i l m ∙ ap₂ ◌-ℤ◌ (w.old (u * (h + h) + h + i) (omega arith) ∙ ap (at r₀) c ∙ d.laid u (h + i) l (omega arith)) (middle-at u i l m ∙ quarter u i l m))
        where
          odd : (v % 2 ≡ 0 → ⊥) → v % 2 ≡ 1
          odd f = omega arith

      by : (v i : ℕ) → v < 3 * k → i < h → (t : Bool) → ltb v (2 * k) ≡ t → at r (v * h + i) ≡ down_l q k L v i
      by v i l m true e = rw e (half v i (omega (arith, ltb-true v (2 * k) e)) m (eqb (v % 2) 0) refl)
      by v i l m false e =
          let u = v - 2 * k in
          let two : v ≡ 2 * k + u = omega (arith, ltb-false v (2 * k) e) in
          let two-h : v * h ≡ (2 * k + u) * h = ap (λ z. z * h) two in
          let place : v * h + i ≡ k * (h + h) + u * h + i = omega arith in
          let b : u < k = omega arith in
          rw e (ap (at r) place ∙ s.rest (k * (h + h) + u * h + i) (omega arith) ∙ middle-at u i b m ∙ quarter u i b m)

-- ---- every leaf
abbrev pub nines_of : List ℤ → Lists
nines_of lists v = at (nine (λ e. at lists (v * 8 + e)))

pub nines-next : (lists : List ℤ) {v : ℕ} {r₀ r : List ℤ} → AllWritten (nines_of lists) 0 9 v r₀ r → (x y : Four) → listed x ≡ places 4 (λ j. at lists (v * 8 + j)) → listed y ≡ places 4 (λ j. at lists (v * 8 + 4 + j))
    → {r' : List ℤ} → Written (at (nine (at (listed x ++ listed y)))) (v * 9) 9 r r' → AllWritten (nines_of lists) 0 9 (v + 1) r₀ r'
nines-next lists {v} {r₀} {r} s x y ex ey {r'} er =
    let f : ℕ → ℤ = λ e. at lists (v * 8 + e) in
    let ey' = ey ∙ places-ext 4 _ (λ j. f (4 + j)) (λ j q. ap (at lists) (let e : v * 8 + 4 + j ≡ v * 8 + (4 + j) = omega arith in e)) in
    let e = nine-ext (at (listed x ++ listed y)) f (eight_is x y f ex ey') in
    let z : v * 9 ≡ 0 + v * 9 = omega arith in
    all-written-next s (at (nine (at (listed x ++ listed y)))) (λ j q. ap (λ t. at t j) e)
    (subst (λ p. Written (at (nine (at (listed x ++ listed y)))) p 9 r r') z er)

pub nines-laid : (k : ℕ) (lists r₀ r : List ℤ) → AllWritten (nines_of lists) 0 9 k r₀ r → k * 9 ≤ length r₀ → (L : Lists) → Laid 8 k L lists → Laid 9 k (λ v. at (nine (L v))) r
nines-laid k lists r₀ r s n L d = record {
  long = omega (arith, s.long);
  laid = λ v i l m. ap (at r) (let e : v * 9 + i ≡ 0 + v * 9 + i = omega arith in e) ∙ s.new v i l m ∙ ap (λ t. at t i) (nine-ext _ (L v) (λ e q. d.laid v e l q));
}

-- ---- levels
tables-within : (m B : ℕ) (L : List ℤ) → Within B L → (l v i : ℕ) → nat_abs (tables m L l v i) ≤ B * 2 ^ l
unfolding tables down_l
tables-within m B L w zero v i = omega (arith, w.size i)
tables-within m B L w (suc l) v i = by (tables-within m B L w l) (ltb v (2 * 3 ^ l)) refl
  where
    q : ℕ
    q = wide m (suc l)

    by : ((v i : ℕ) → nat_abs (tables m L l v i) ≤ B * 2 ^ l) → (t : Bool) → ltb v (2 * 3 ^ l) ≡ t → nat_abs (tables m L (suc l) v i) ≤ B * 2 ^ suc l
    by ih true e = rw (e, pow-suc 2 l) (omega (arith, differing-size (tables m L l (v / 2) (v % 2 * (q + q) + i)) (tables m L l (v / 2) (q + i)) (ih (v / 2) (v % 2 * (q + q) + i)) (ih (v / 2) (q + i))))
    by ih false e = rw (e, pow-suc 2 l) (omega (arith, ih (v - 2 * 3 ^ l) (q + i)))

pub tables-small : {m : ℕ} (p : Power m) (B : ℕ) (L : List ℤ) → Within B L → m * B < 2 ^ 62 → (l v i : ℕ) → l ≤ p.levels → nat_abs (tables m L l v i) ≤ 2 ^ 60
tables-small {m} p B L w f l v i h =
    let e : wide m l * 2 ^ l * B ≡ m * B = ap (λ x. x * B) (wide-times p l h) in
    let four : 4 * (2 ^ l * B) ≤ wide m l * (2 ^ l * B) = mul-le-mul_right (2 ^ l * B) (wide-some p l h) in
    omega (arith, tables-within m B L w l v i, e, four)

pub halved-top : (m : ℕ) (r : List ℤ) → Tabled m r → TablesHalved m r m 1 r
unfolding tables top-level
halved-top m r h = record {
  here = top-level h.power;
  long = refl;
  laid = record { long = omega (arith, h.long, rw (wide-top h.power) at (level-room h.power 0 (omega arith))); laid = λ v i l k. let e : v * (m + m) + i ≡ i = omega (arith, ap (λ w. w * (m + m)) (let z : v ≡ 0 = omega arith in z)) in ap (at r) e ∙ sym (get_or-take (m + m) r i (pos 0) k) };
}

module _ {m n k : ℕ} {r₀ r : List ℤ} (d : TablesHalved m r₀ n k r) (g : Tabled m r₀) (more : 4 < n) where
  four-times : n + n ≡ n / 2 + n / 2 + (n / 2 + n / 2)
  four-times = omega (arith, half d.here more)

  pub halve-room : k * (n / 2 + n / 2 + (n / 2 + n / 2)) + k * (n / 2 + n / 2) ≤ length r
  halve-room = omega (arith, next-room d.here more g.power, g.long, d.long)

  pub halve-small : Small 0 (k * (n / 2 + n / 2 + (n / 2 + n / 2))) r
  halve-small = record { small = λ p b l. let e : k * (n + n) ≡ k * (n / 2 + n / 2 + (n / 2 + n / 2)) = ap (λ x. k * x) four-times in omega (arith, laid-small (2 ^ 60) d.laid (omega arith) (λ v i. tables-small d.here.power g.most (take (m + m) r₀) g.within g.fits d.here.level v i d.here.inside) p (omega arith)) }

  pub halved-next : (r' : List ℤ) → length r' ≡ length r → ((L : Lists) → Laid (n / 2 + n / 2 + (n / 2 + n / 2)) k L r → Laid (n / 2 + n / 2) (3 * k) (down_l (n / 2) k L) r') → TablesHalved m r₀ (n / 2) (k * 3) r'
  unfolding tables next_level
  halved-next r' same f =
      let L = tables m (take (m + m) r₀) d.here.level in
      let t = f L (subst (λ x. Laid x k L r) four-times d.laid) in record {
        here = next_level d.here more;
        long = same ∙ d.long;
        laid = record { long = omega (arith, t.long); laid = λ v i b c. t.laid v i (omega arith) c ∙ ap₂ (λ x y. down_l x y L v i) (half_is d.here more) d.here.count };
      }

pub halved-end : {m n k : ℕ} {r₀ r : List ℤ} → TablesHalved m r₀ n k r → n ≤ 4 → (p : Power m) → (k ≡ 3 ^ p.levels) × Laid 8 k (tables m (take (m + m) r₀) p.levels) r
halved-end {m} {n} {k} {r₀} {r} d h p =
    let L = take (m + m) r₀ in
    let e = last-level d.here h p in
    let w : n ≡ 4 = d.here.width ∙ ap (wide m) e ∙ wide-leaf p in
    (d.here.count ∙ ap (λ l. 3 ^ l) e, subst (λ l. Laid 8 k (tables m L l) r) e (subst (λ x. Laid (x + x) k (tables m L d.here.level) r) w d.laid))

-- ---- what the steps of the whole are given
module _ {m k : ℕ} {r₀ r : List ℤ} (g : Tabled m r₀) (f : (p : Power m) → (k ≡ 3 ^ p.levels) × Laid 8 k (tables m (take (m + m) r₀) p.levels) r) where
  abbrev own : Power m
  own = g.power

  pub leaves-small : (p : ℕ) → p < k * 8 → nat_abs (at r p) ≤ 2 ^ 60
  leaves-small = laid-small (2 ^ 60) (f own).1 (omega arith) (λ v i. tables-small own g.most (take (m + m) r₀) g.within g.fits own.levels v i (omega arith))

  pub leaf-lists : (out : List ℤ) → ((L : Lists) → Laid 8 k L r → Laid 9 k (λ v. at (nine (L v))) out) → LeafLists m (take (m + m) r₀) out
  leaf-lists out e = let t = take (m + m) r₀ in record {
    power = own;
    nines = subst (λ c. Laid 9 c (λ v. at (nine (tables m t own.levels v))) out) (f own).0 (e (tables m t own.levels) (f own).1);
  }
