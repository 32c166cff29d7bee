-- The steps of a level, turn by turn, and what they come to.
use mathlib.Core.Path.{◌≡◌, refl, ap, ap₂, subst, ◌∙◌}
use mathlib.Core.Bool.{Bool, true, false}
use mathlib.Core.List.{List}
use Prim.Native.Nat.{ℕ, ◌+◌, ◌-◌, ◌*◌, ◌/◌, ◌%◌, ◌^◌, ◌≤◌, ◌<◌}
use native.Mathlib.Nat.{mul-le-mul_right}
use native.Mathlib.Omega.{arith}
use borrow.Author.Tests.{ltb-true, ltb-false}
use lib.Dec.{ltb}
use lib.IntN.{ℤ, nat_abs, ◌+ℤ◌}
use lib.ListN.{length}
use Rattle.integers.specs.Places.{places, at, Within}
use Rattle.integers.proofs.PlaceLaws.{at_places, places-ext}
use Rattle.slices.specs.declared.fours.Four.{Four}
use Rattle.slices.specs.Own.Fours.{listed, stored}
use Rattle.products.specs.Own.Products.{Lists, Laid, down, up}
use Rattle.products.specs.Own.Rooms.{Small, Written, AllWritten, half_sums, Spread, AllSpread}
use Rattle.slices.proofs.FourLaws.{next-four, length-stored, stored-out, stored_is, listed-within}

-- the sum or difference of two fours, by what the first is
pub op-is : (op : ℤ → ℤ → ℤ) (x y z : Four) (f : ℕ → ℤ) → listed x ≡ places 4 f → listed z ≡ places 4 (λ j. op (at (listed x) j) (at (listed y) j)) → listed z ≡ places 4 (λ j. op (f j) (at (listed y) j))
op-is op x y z f e s = s ∙ places-ext 4 _ _ (λ j l. ap (λ t. op t (at (listed y) j)) (ap (λ t. at t j) e ∙ at_places 4 f j l))

-- four small numbers, by their places
pub small-four : (n : ℕ) (r : List ℤ) → ((j : ℕ) → j < 4 → nat_abs (at r (n + j)) ≤ 2 ^ 62 - 1) → Small n (n + 4) r
small-four n r s = record { small = λ p b l. subst (λ q. nat_abs (at r q) ≤ 2 ^ 62 - 1) (let e : n + (p - n) ≡ p = omega arith in e) (s (p - n) (omega arith)) }

-- ---- lists behind others
pub written_none : (f : ℕ → ℤ) (to : ℕ) (r : List ℤ) → Written f to 0 r r
written_none f to r = record { long = refl; rest = λ p l. refl; new = λ j l. absurd (omega arith) }

pub written_next : {f : ℕ → ℤ} {to i : ℕ} {r₀ r : List ℤ} → Written f to i r₀ r → to + i + 4 ≤ length r₀ → (z : Four) → listed z ≡ places 4 (λ j. f (i + j)) → Written f to (i + 4) r₀ (stored r (to + i) z)
written_next {f = f} {to = to} {i = i} {r = r} s n z e = record {
  long = length-stored r (to + i) z ∙ s.long;
  rest = λ p k. stored-out r (to + i) z p (λ q. omega (arith, k (omega arith))) ∙ s.rest p (λ q. omega (arith, k q));
  new = next-four (λ j. at (stored r (to + i) z) (to + j) ≡ f j) i
      (λ j k. stored-out r (to + i) z (to + j) (λ q. absurd (omega arith)) ∙ s.new j k)
      (λ j k. ap (at (stored r (to + i) z)) (let a : to + (i + j) ≡ to + i + j = omega arith in a) ∙ stored_is r (to + i) z _ (omega (arith, s.long)) e j k);
}

-- what stands before them did not change
pub written-before : {f : ℕ → ℤ} {to i : ℕ} {r₀ r : List ℤ} → Written f to i r₀ r → (p : ℕ) → p < to → at r p ≡ at r₀ p
written-before s p l = s.rest p (λ q. absurd (omega arith))

-- four, and four more behind others
pub written-stored : (f : ℕ → ℤ) (to : ℕ) (r : List ℤ) (z : Four) → to + 4 ≤ length r → listed z ≡ places 4 f → Written f to 4 r (stored r to z)
written-stored f to r z n e = record { long = length-stored r to z; rest = stored-out r to z; new = stored_is r to z f n e }

pub written-four : (f : ℕ → ℤ) {g : ℕ → ℤ} {to i : ℕ} {r₀ r r' : List ℤ} → Written f to i r₀ r → Written g (to + i) 4 r r' → ((j : ℕ) → j < 4 → g j ≡ f (i + j)) → Written f to (i + 4) r₀ r'
written-four f {g} {to} {i} {r₀} {r} {r'} s t e = record {
  long = t.long ∙ s.long;
  rest = λ p k. t.rest p (λ q. omega (arith, k (omega arith))) ∙ s.rest p (λ q. omega (arith, k q));
  new = next-four (λ j. at r' (to + j) ≡ f j) i
      (λ j k. written-before t (to + j) (omega arith) ∙ s.new j k)
      (λ j k. ap (at r') (let a : to + (i + j) ≡ to + i + j = omega arith in a) ∙ t.new j k ∙ e j k);
}

-- ---- both halves
module _ {op : ℤ → ℤ → ℤ} {to h from i : ℕ} {r₀ r : List ℤ} (s : Spread op to h from i r₀ r) (apart : to + (h + h) ≤ from) (l : i + 4 ≤ h) where
  spread-read-first : (j : ℕ) → j < 4 → at r (to + i + j) ≡ at r₀ (to + i + j)
  spread-read-first j k = s.rest (to + i + j) (λ q. omega arith) (λ q. absurd (omega arith))

  spread-read-second : (j : ℕ) → j < 4 → at r (to + h + i + j) ≡ at r₀ (to + h + i + j)
  spread-read-second j k = s.rest (to + h + i + j) (λ q. omega arith) (λ q. omega arith)

  spread-read-middle : (j : ℕ) → at r (from + i + j) ≡ at r₀ (from + i + j)
  spread-read-middle j = s.rest (from + i + j) (λ q. omega arith) (λ q. omega arith)

  module _ (z : Small to (from + h) r₀) where
    pub spread-small_first : Small (to + i) (to + i + 4) r
    spread-small_first = small-four _ _ (λ j k. rw (spread-read-first j k) (z.small _ (omega arith) (omega arith)))

    pub spread-small_second : {f : ℕ → ℤ} {r₁ : List ℤ} → Written f (to + i) 4 r r₁ → Small (to + h + i) (to + h + i + 4) r₁
    spread-small_second t = small-four _ _ (λ j k. rw (t.rest (to + h + i + j) (λ q. omega arith), spread-read-second j k) (z.small _ (omega arith) (omega arith)))

    pub spread-within : {y : Four} → listed y ≡ places 4 (λ j. at r (from + i + j)) → Within (2 ^ 62 - 1) (listed y)
    spread-within {y} e = listed-within y _ (2 ^ 62 - 1) e (λ j k. rw (spread-read-middle j) (z.small _ (omega arith) (omega arith)))

  pub spread-next : {n : ℕ} → i + 4 ≡ n → {z : Four} → listed z ≡ places 4 (λ j. at r (from + i + j)) → {r₁ r₂ : List ℤ} → Written (λ j. op (at r (to + i + j)) (at (listed z) j)) (to + i) 4 r r₁
      → Written (λ j. op (at r₁ (to + h + i + j)) (at (listed z) j)) (to + h + i) 4 r₁ r₂ → Spread op to h from n r₀ r₂
  spread-next {n} e {z} ez {r₁} {r₂} t u =
      let taken : (j : ℕ) → j < 4 → at (listed z) j ≡ at r₀ (from + i + j) = λ j k. ap (λ x. at x j) ez ∙ at_places 4 _ j k ∙ spread-read-middle j in
      subst (λ n. Spread op to h from n r₀ r₂) e record {
        long = u.long ∙ t.long ∙ s.long;
        first = next-four (λ j. at r₂ (to + j) ≡ op (at r₀ (to + j)) (at r₀ (from + j))) i
            (λ j k. written-before u (to + j) (omega arith) ∙ written-before t (to + j) (omega arith) ∙ s.first j k)
            (λ j k.
            let a : to + (i + j) ≡ to + i + j = omega arith in
            let b : from + (i + j) ≡ from + i + j = omega arith in
            written-before u (to + (i + j)) (omega arith) ∙ rw (a, b) (t.new j k ∙ ap₂ op (spread-read-first j k) (taken j k)));
        second = next-four (λ j. at r₂ (to + h + j) ≡ op (at r₀ (to + h + j)) (at r₀ (from + j))) i
            (λ j k. written-before u (to + h + j) (omega arith) ∙ t.rest (to + h + j) (λ q. omega arith) ∙ s.second j k)
            (λ j k.
            let a : to + h + (i + j) ≡ to + h + i + j = omega arith in
            let b : from + (i + j) ≡ from + i + j = omega arith in
            rw (a, b) (u.new j k ∙ ap₂ op (t.rest (to + h + i + j) (λ q. omega arith) ∙ spread-read-second j k) (taken j k)));
        rest = λ p a b. u.rest p (λ q. omega (arith, b (omega arith))) ∙ t.rest p (λ q. omega (arith, a (omega arith))) ∙ s.rest p (λ q. omega (arith, a (omega arith))) (λ q. omega (arith, b (omega arith)));
      }

-- ---- every list
-- a fact of each list below v, and of list v
pub next_one : (P : ℕ → Type 0) (v : ℕ) → ((w : ℕ) → w < v → P w) → P v → (w : ℕ) → w < v + 1 → P w
next_one P v f g w l = by (ltb w v) refl
  where
    by : (t : Bool) → ltb w v ≡ t → P w
    by true e = f w (ltb-true w v e)
    by false e = let n : v ≡ w = omega (arith, ltb-false w v e) in subst P n g

pub all-written-next : {F : Lists} {to h v : ℕ} {r₀ r r' : List ℤ} → AllWritten F to h v r₀ r → (f : ℕ → ℤ) → ((j : ℕ) → j < h → f j ≡ F v j) → Written f (to + v * h) h r r' → AllWritten F to h (v + 1) r₀ r'
all-written-next {F = F} {to = to} {h = h} {v = v} {r' = r'} s f e t = record {
  long = t.long ∙ s.long;
  old = λ p q. written-before t p (omega arith) ∙ s.old p q;
  new = λ w j q m. next_one (λ w. at r' (to + w * h + j) ≡ F w j) v
      (λ w n. let before : (w + 1) * h ≤ v * h = mul-le-mul_right h (omega arith) in written-before t (to + w * h + j) (omega arith) ∙ s.new w j n m)
      (t.new j m ∙ e j m) w q;
}

pub all-spread-next : {op : ℤ → ℤ → ℤ} {h k v : ℕ} {r₀ r r' : List ℤ} → AllSpread op h k v r₀ r → v < k → Spread op (v * (h + h)) h (k * (h + h) + v * h) h r r' → AllSpread op h k (v + 1) r₀ r'
all-spread-next {op = op} {h = h} {k = k} {v = v} {r₀ = r₀} {r = r} {r' = r'} s l t =
    let whole : (v + 1) * (h + h) ≤ k * (h + h) = mul-le-mul_right (h + h) (omega arith) in
    let middle : (j : ℕ) → at r (k * (h + h) + v * h + j) ≡ at r₀ (k * (h + h) + v * h + j) = λ j. s.rest (k * (h + h) + v * h + j) (omega arith) in record {
      long = t.long ∙ s.long;
      first = λ w j q m. next_one (λ w. at r' (w * (h + h) + j) ≡ op (at r₀ (w * (h + h) + j)) (at r₀ (k * (h + h) + w * h + j))) v
          (λ w n. let before : (w + 1) * (h + h) ≤ v * (h + h) = mul-le-mul_right (h + h) (omega arith) in t.rest (w * (h + h) + j) (λ q. absurd (omega arith)) (λ q. absurd (omega arith)) ∙ s.first w j n m)
          (t.first j m ∙ ap₂ op (s.rest (v * (h + h) + j) (omega arith)) (middle j)) w q;
      second = λ w j q m. next_one (λ w. at r' (w * (h + h) + h + j) ≡ op (at r₀ (w * (h + h) + h + j)) (at r₀ (k * (h + h) + w * h + j))) v
          (λ w n. let before : (w + 1) * (h + h) ≤ v * (h + h) = mul-le-mul_right (h + h) (omega arith) in t.rest (w * (h + h) + h + j) (λ q. absurd (omega arith)) (λ q. absurd (omega arith)) ∙ s.second w j n m)
          (t.second j m ∙ ap₂ op (s.rest (v * (h + h) + h + j) (omega arith)) (middle j)) w q;
      rest = λ p q. t.rest p (λ a. omega arith) (λ a. omega arith) ∙ s.rest p (omega arith);
    }

-- what a whole turn comes to
module _ (h k : ℕ) (r₀ r : List ℤ) where
  pub summed-laid : AllWritten (half_sums h r₀) (k * (h + h)) h k r₀ r → k * (h + h) + k * h ≤ length r₀ → (a : Lists) → Laid (h + h) k a r₀ → Laid h (3 * k) (down h k a) r
  unfolding down
  summed-laid s n a d = record { long = omega (arith, s.long); laid = λ v i l m. by v i l m (ltb v (2 * k)) refl }
    where
      by : (v i : ℕ) → v < 3 * k → i < h → (t : Bool) → ltb v (2 * k) ≡ t → at r (v * h + i) ≡ down h k a v i
      by v i l m true e =
          let u = v / 2 in
          let b : u < k = omega (arith, ltb-true v (2 * k) e) in
          let whole : (u + 1) * (h + h) ≤ k * (h + h) = mul-le-mul_right (h + h) (omega arith) in
          let part : v ≡ u * 2 + v % 2 = omega arith in
          let part-h : v * h ≡ (u * 2 + v % 2) * h = ap (λ z. z * h) part in
          let one : v % 2 * h ≤ 1 * h = mul-le-mul_right h (omega arith) in
          let place : v * h + i ≡ u * (h + h) + (v % 2 * h + i) = omega arith in
          rw e (ap (at r) place ∙ s.old (u * (h + h) + (v % 2 * h + i)) (omega arith) ∙ d.laid u (v % 2 * h + i) b (omega arith))
      by v i l m false e =
          let u = v - 2 * k in
          let two : v ≡ 2 * k + u = omega (arith, ltb-false v (2 * k) e) in
          let two-h : v * h ≡ (2 * k + u) * h = ap (λ z. z * h) two in
          let place : v * h + i ≡ k * (h + h) + u * h + i = omega arith in
          let q : u < k = omega arith in
          let third : u * (h + h) + h + i ≡ u * (h + h) + (h + i) = omega arith in
          rw e (ap (at r) place ∙ s.new u i q m ∙ ap₂ ◌+ℤ◌ (d.laid u i q (omega arith)) (ap (at r₀) third ∙ d.laid u (h + i) q (omega arith)))

  pub spread-laid : AllSpread ◌+ℤ◌ h k k r₀ r → k * (h + h) + k * h ≤ length r₀ → (y : Lists) → Laid h (3 * k) y r₀ → Laid (h + h) k (up h k y) r
  unfolding up
  spread-laid s n y d = record { long = omega (arith, s.long); laid = λ v i l m. by v i l m (ltb i h) refl }
    where
      middle : (v i : ℕ) → v < k → i < h → at r₀ (k * (h + h) + v * h + i) ≡ y (2 * k + v) i
      middle v i l m = ap (at r₀) (let e : k * (h + h) + v * h + i ≡ (2 * k + v) * h + i = omega arith in e) ∙ d.laid (2 * k + v) i (omega arith) m

      by : (v i : ℕ) → v < k → i < h + h → (t : Bool) → ltb i h ≡ t → at r (v * (h + h) + i) ≡ up h k y v i
      by v i l m true e =
          let b : i < h = ltb-true i h e in
          rw e (s.first v i l b ∙ ap₂ ◌+ℤ◌ (ap (at r₀) (let e : v * (h + h) + i ≡ 2 * v * h + i = omega arith in e) ∙ d.laid (2 * v) i (omega arith) b) (middle v i l b))
      by v i l m false e =
          let b : h + (i - h) ≡ i = omega (arith, ltb-false i h e) in
          let q : i - h < h = omega (arith, ltb-false i h e) in
          let place : v * (h + h) + i ≡ v * (h + h) + h + (i - h) = omega arith in
          rw e (ap (at r) place ∙ s.second v (i - h) l q ∙ ap₂ ◌+ℤ◌ (ap (at r₀) (let e : v * (h + h) + h + (i - h) ≡ (2 * v + 1) * h + (i - h) = omega arith in e) ∙ d.laid (2 * v + 1) (i - h) (omega arith) q) (middle v (i - h) l q))
