-- The levels of a product: how wide their lists are, how many, what room they take, how large their numbers are; and the next level.
use mathlib.Core.Path.{◌≡◌, refl, sym, ap, ap₂, subst, ◌∙◌}
use mathlib.Core.Bool.{Bool, true, false}
use mathlib.Core.List.{List}
use Prim.Native.Nat.{ℕ, zero, suc, ◌+◌, ◌-◌, ◌*◌, ◌/◌, ◌%◌, ◌^◌, ◌≤◌, ◌<◌}
use native.Mathlib.Nat.{mul-le-mul_right, pow-suc, div-add-mod, mod-lt, div-lt_iff_lt-mul}
use native.Mathlib.Omega.{arith}
use borrow.Author.Tests.{ltb-true, ltb-false}
use lib.Dec.{ltb}
use lib.Pow.{pow_pos, pow-lt}
use lib.IntN.{ℤ, nat_abs}
use Rattle.integers.specs.Places.{at}
use Rattle.products.specs.Own.Products.{Lists, Laid, Power, ProductFits, wide, numbers}
use Rattle.products.specs.Own.Whole.{Level}
use Rattle.products.proofs.LevelLaws.{wide_is, wide-next, wide-leaf, level-sized, level-fits}

-- m has one number of levels
pub power-same : {m : ℕ} (p q : Power m) → p.levels ≡ q.levels
power-same p q = by (ltb p.levels q.levels) (ltb q.levels p.levels) refl refl
  where
    by : (s t : Bool) → ltb p.levels q.levels ≡ s → ltb q.levels p.levels ≡ t → p.levels ≡ q.levels
    by true t e f = absurd (omega (arith, pow-lt (ltb-true p.levels q.levels e), p.is, q.is))
    by false true e f = absurd (omega (arith, pow-lt (ltb-true q.levels p.levels f), p.is, q.is))
    by false false e f = omega (arith, ltb-false p.levels q.levels e, ltb-false q.levels p.levels f)

pub three-pos : (l : ℕ) → 1 ≤ 3 ^ l
three-pos zero = omega arith
three-pos (suc l) = omega (arith, pow-suc 3 l, three-pos l)

-- every level has room
growing : (l t : ℕ) → 3 ^ l * (4 * 2 ^ t) ≤ 3 ^ (l + t) * 4
growing l zero = let e : l + 0 ≡ l = omega arith in rw e (omega arith)
growing l (suc t) =
    let e : l + suc t ≡ suc (l + t) = omega arith in
    rw (e, pow-suc 3 (l + t), pow-suc 2 t) (omega (arith, growing l t))

pub level-room : {m : ℕ} (p : Power m) (l : ℕ) → l ≤ p.levels → 3 ^ l * wide m l ≤ 3 ^ p.levels * 4
level-room {m} p l h =
    let t = p.levels - l in
    let e : l + t ≡ p.levels = omega arith in
    let g = rw e at (growing l t) in
    rw (wide_is p l t e) g

-- a list that is cut in fours
pub wide-fours : {m : ℕ} (p : Power m) (l : ℕ) → l ≤ p.levels → wide m l % 4 ≡ 0
wide-fours p l h = omega (arith, wide_is p l (p.levels - l) (omega arith))

pub wide-some : {m : ℕ} (p : Power m) (l : ℕ) → l ≤ p.levels → 4 ≤ wide m l
wide-some p l h = omega (arith, wide_is p l (p.levels - l) (omega arith), pow_pos (p.levels - l))

-- more than a leaf: a level further down
pub wide-more : {m : ℕ} (p : Power m) (l : ℕ) → l ≤ p.levels → 4 < wide m l → l < p.levels
wide-more p l h k = by (ltb l p.levels) refl
  where
    by : (t : Bool) → ltb l p.levels ≡ t → l < p.levels
    by true e = ltb-true l p.levels e
    by false e = let d : l ≡ p.levels = omega (arith, ltb-false l p.levels e) in absurd (omega (arith, ap (wide _) d ∙ wide-leaf p))

pub wide-less : {m : ℕ} (p : Power m) (l : ℕ) → l ≤ p.levels → wide m l ≤ 4 → l ≡ p.levels
wide-less p l h k = by (ltb l p.levels) refl
  where
    by : (t : Bool) → ltb l p.levels ≡ t → l ≡ p.levels
    by true e = let d = ltb-true l p.levels e in absurd (omega (arith, wide-next p l d, wide-some p (suc l) d))
    by false e = omega (arith, ltb-false l p.levels e)

-- ---- sizes
pub laid-small : {n k : ℕ} {a : Lists} {r : List ℤ} (X : ℕ) → Laid n k a r → 0 < n → ((v i : ℕ) → nat_abs (a v i) ≤ X) → (p : ℕ) → p < k * n → nat_abs (at r p) ≤ X
laid-small {n} {k} {a} {r} X d z s p l =
    let e : p / n * n + p % n ≡ p = omega (arith, div-add-mod p n) in
    subst (λ q. nat_abs (at r q) ≤ X) e (subst (λ t. nat_abs t ≤ X) (sym (d.laid (p / n) (p % n) ((div-lt_iff_lt-mul z).1 l) (mod-lt p z))) (s (p / n) (p % n)))

module _ {m : ℕ} (p : Power m) {L a : List ℤ} (z : ProductFits m L a) where
  pub numbers-small : (l v i : ℕ) → l ≤ p.levels → nat_abs (numbers m a l v i) ≤ 2 ^ 62 - 1
  numbers-small l v i h =
      let s = level-sized p z l v in
      let P = z.most-list * z.most * 2 ^ l in
      let one : 1 * s.most ≤ s.most-list * s.most = mul-le-mul_right s.most s.some in
      let w : 1 * P ≤ wide m l * P = mul-le-mul_right P (omega (arith, wide-some p l h)) in
      omega (arith, one, w, s.size i, s.both, level-fits p z l h)

-- ---- a level and the next
unfoldable pub top-level : {m : ℕ} → Power m → Level m m 1
unfolding wide
top-level p = record { power = p; level = 0; inside = omega arith; width = refl; count = refl }

module _ {m n k : ℕ} (d : Level m n k) (more : 4 < n) where
  pub below : d.level < d.power.levels
  below = wide-more d.power d.level d.inside (omega (arith, d.width))

  pub half_is : n / 2 ≡ wide m (suc d.level)
  unfolding wide
  half_is = ap (λ x. x / 2) d.width

  pub half : n ≡ n / 2 + n / 2
  half = omega (arith, wide-next d.power d.level below, half_is, d.width)

  pub half-fours : (n / 2) % 4 ≡ 0
  half-fours = ap (λ x. x % 4) half_is ∙ wide-fours d.power (suc d.level) below

  pub count-some : 1 ≤ k
  count-some = omega (arith, d.count, three-pos d.level)

  unfoldable pub next_level : Level m (n / 2) (k * 3)
  next_level = record { power = d.power; level = suc d.level; inside = below; width = half_is; count = ap (λ x. x * 3) d.count ∙ sym (pow-suc 3 d.level) }

  pub next-room : (p : Power m) → k * 3 * (n / 2) ≤ 3 ^ p.levels * 4
  next-room p =
      let e : k * 3 * (n / 2) ≡ 3 ^ suc d.level * wide m (suc d.level) = ap₂ ◌*◌ (ap (λ x. x * 3) d.count ∙ sym (pow-suc 3 d.level)) half_is in
      omega (arith, e, rw (power-same d.power p) at (level-room d.power (suc d.level) below))

-- the leaves' level is the last
pub last-level : {m n k : ℕ} (d : Level m n k) → n ≤ 4 → (p : Power m) → d.level ≡ p.levels
last-level d h p = wide-less d.power d.level d.inside (omega (arith, d.width)) ∙ power-same d.power p
