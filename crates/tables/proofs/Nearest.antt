-- Every table number is nearest to 2^28 times its true value, for all values between the boxed ends: sines over 1, tangents and secants as fractions.
use mathlib.Core.Path.{◌≡◌, refl, sym, subst, subst₂}
use mathlib.Core.Bool.{Bool, ◌&&◌}
use mathlib.Core.List.{List, []}
use Prim.Native.Nat.{ℕ, zero, suc, ◌+◌, ◌-◌, ◌*◌, ◌/◌, ◌^◌, ◌≤◌, ◌<◌}
use native.Mathlib.Nat.{mul-le-mul_left, mul-lt-mul_of_pos_left, mul-pos}
use native.Mathlib.Omega.{arith}
use lib.Dec.{T, leb, ltb, leb→le, ltb→lt}
use lib.IntN.{ℤ, pos, negsuc, nat_abs, ◌-ℤ◌, ◌*ℤ◌}
use lib.ListN.{length, get_or}
use lib.Signed.{◌≤ℤ◌, ◌<ℤ◌}
use Rattle.integers.specs.Tests.{every}
use Rattle.integers.proofs.Differences.{zs}
use Rattle.integers.proofs.Order.{pos-≤-iff}
use Rattle.integers.proofs.Tested.{every-at, and_left, and_right}
use Rattle.tables.specs.Numbers.{sines, half_tangents, half_tangents8, half_tangents32, half_tangents128, secants, secants8, secants32, secants128}
use Rattle.tables.specs.Boxes.{only, cosine_box, sine_box, box_by, Nearest}
use Rattle.tables.specs.BoxEnds.{lows, highs}
use Rattle.tables.specs.Statement.{TablesCounted, SinesNearest, HalfTangentsNearest, SecantsNearest}
use Rattle.tables.proofs.ByWidth.{at_each, at_both}
use Rattle.tables.proofs.BoxTable.{box_at, cosine-box-is}

-- ---- how many numbers there are
pub tables-counted : TablesCounted
unfolding sines half_tangents half_tangents8 half_tangents32 half_tangents128 secants secants8 secants32 secants128
tables-counted n = record {
  sines-counted = refl;
  half-tangents-counted = at_both (λ xs c. length xs ≡ c) half_tangents8 half_tangents32 half_tangents128 [] 4 16 64 0 refl refl refl refl n;
  secants-counted = at_both (λ xs c. length xs ≡ c) secants8 secants32 secants128 [] 2 8 32 0 refl refl refl refl n;
}

-- t over the ends of a numerator and of a denominator: 2t − 1 and 2t + 1 lie on both sides of every fraction between, times 2^29
near : ℕ → ℕ → ℕ → ℕ → ℕ → Bool
near t nl nh dl dh = ltb 0 dl && ltb (2 ^ 29 * nh) ((2 * t + 1) * dl) && ltb (2 * t * dh) (2 ^ 29 * nl + dh)

-- the same, at the angles f k and g k for the entry at k
near_at : (ℕ → ℕ) → (ℕ → ℕ) → ℕ → ℕ → Bool
near_at f g k t = leb (f k) 512 && leb (g k) 512 && near t (get_or lows (f k) 0) (get_or highs (f k) 0) (get_or lows (g k) 0) (get_or highs (g k) 0)

below_next : (t nh dl q x y : ℕ) → 0 < q → x ≤ q * nh → q * dl ≤ y → 2 ^ 29 * nh < (2 * t + 1) * dl → 2 ^ 29 * x < (2 * t + 1) * y
below_next t nh dl q x y z xh yl h =
    let a : q * (2 ^ 29 * nh) < q * ((2 * t + 1) * dl) = mul-lt-mul_of_pos_left h z in
    let b : (2 * t + 1) * (q * dl) ≤ (2 * t + 1) * y = mul-le-mul_left (2 * t + 1) yl in
    omega arith

above-last : (t nl dh q x y : ℕ) → 0 < q → 0 < y → q * nl ≤ x → y ≤ q * dh → 2 * t * dh < 2 ^ 29 * nl + dh → 2 * t * y < 2 ^ 29 * x + y
above-last zero nl dh q x y z p xl yh h = omega arith
above-last (suc t) nl dh q x y z p xl yh h =
    let l : (2 * t + 1) * dh < 2 ^ 29 * nl = omega arith in
    let a : q * ((2 * t + 1) * dh) < q * (2 ^ 29 * nl) = mul-lt-mul_of_pos_left l z in
    let b : (2 * t + 1) * y ≤ (2 * t + 1) * (q * dh) = mul-le-mul_left (2 * t + 1) yh in
    omega arith

half : (t x y : ℕ) → 2 ^ 29 * x < (2 * t + 1) * y → 2 * t * y < 2 ^ 29 * x + y → pos (2 * nat_abs (pos (2 ^ 28) *ℤ pos x -ℤ pos t *ℤ pos y)) <ℤ pos y
half t x y = simp zs (omega arith)

-- values below zero are not between ends that are not
module _ (t nl nh dl dh q : ℕ) (z : 0 < q) (p : 0 < dl) (h : 2 ^ 29 * nh < (2 * t + 1) * dl) (k : 2 * t * dh < 2 ^ 29 * nl + dh) where
  between : (x y : ℤ) → (pos q *ℤ pos nl) ≤ℤ x → x ≤ℤ (pos q *ℤ pos nh) → (pos q *ℤ pos dl) ≤ℤ y → y ≤ℤ (pos q *ℤ pos dh) → pos (2 * nat_abs (pos (2 ^ 28) *ℤ x -ℤ pos t *ℤ y)) <ℤ y
  between (negsuc x) y xl xh yl yh = absurd xl.le
  between (pos x) (negsuc y) xl xh yl yh = absurd yl.le
  between (pos x) (pos y) xl xh yl yh =
      let a = (pos-≤-iff (q * nl) x).0 xl in
      let b = (pos-≤-iff x (q * nh)).0 xh in
      let c = (pos-≤-iff (q * dl) y).0 yl in
      let d = (pos-≤-iff y (q * dh)).0 yh in
      half t x y (below_next t nh dl q x y z b c h) (above-last t nl dh q x y z (omega (arith, mul-pos z p)) a d k)

nearest : (t nl nh dl dh : ℕ) → T (near t nl nh dl dh) → Nearest t (record { low = pos nl; high = pos nh }) (record { low = pos dl; high = pos dh })
unfolding near
nearest t nl nh dl dh test =
    let p = ltb 0 dl in
    let h = ltb (2 ^ 29 * nh) ((2 * t + 1) * dl) in
    let k = ltb (2 * t * dh) (2 ^ 29 * nl + dh) in
    let ph = and_left (p && h) k test in
    record {
      nearest = λ q x y z.
          between t nl nh dl dh q z (ltb→lt 0 dl (and_left p h ph)) (ltb→lt _ _ (and_right p h ph)) (ltb→lt _ _ (and_right (p && h) k test)) x y;
    }

-- a whole table: the test, and the rule at each entry
fractions : (f g : ℕ → ℕ) (xs : List ℕ) → T (every (near_at f g) 0 xs) → (k : ℕ) → k < length xs → Nearest (get_or xs k 0) (cosine_box (f k)) (cosine_box (g k))
unfolding near_at box_at
fractions f g xs test k l =
    let t = get_or xs k 0 in
    let one = every-at (near_at f g) xs test k l in
    let a = leb (f k) 512 in
    let b = leb (g k) 512 in
    let c = near t (get_or lows (f k) 0) (get_or highs (f k) 0) (get_or lows (g k) 0) (get_or highs (g k) 0) in
    let ab = and_left (a && b) c one in
    subst₂ (Nearest t) (sym (cosine-box-is (f k) (leb→le _ _ (and_left a b ab)))) (sym (cosine-box-is (g k) (leb→le _ _ (and_right a b ab))))
    (nearest t _ _ _ _ (and_right (a && b) c one))

one : cosine_box 0 ≡ only (2 ^ 60)
unfolding cosine_box box_by
one = refl

-- ---- the sine of jπ/512, which is 2j parts of π/1024
sines-test : T (every (near_at (λ j. 512 - 2 * j) (λ j. 0)) 0 sines)
unfolding near_at near lows highs sines
sines-test = tt

pub sines-nearest : SinesNearest
unfolding sine_box
sines-nearest j h =
    subst (Nearest (get_or sines j 0) (cosine_box (512 - 2 * j))) one
    (fractions (λ j. 512 - 2 * j) (λ j. 0) sines sines-test j (rw (tables-counted 0).sines-counted h))

-- ---- t(m) = tan((2m+1)π/(8N)), which is (2m+1)·128/N parts
abbrev half-tangents-test : ℕ → List ℕ → Type 0
half-tangents-test n xs = T (every (near_at (λ m. 512 - (2 * m + 1) * (128 / n)) (λ m. (2 * m + 1) * (128 / n))) 0 xs)

half-tangents-tested : (n : ℕ) → half-tangents-test n (half_tangents n)
unfolding half_tangents half_tangents8 half_tangents32 half_tangents128 near_at near lows highs
half-tangents-tested = at_each half-tangents-test half_tangents8 half_tangents32 half_tangents128 [] tt tt tt (λ n x y z. tt)

pub half-tangents-nearest : HalfTangentsNearest
unfolding sine_box
half-tangents-nearest n m h =
    fractions (λ m. 512 - (2 * m + 1) * (128 / n)) (λ m. (2 * m + 1) * (128 / n)) (half_tangents n) (half-tangents-tested n) m
    (rw (tables-counted n).half-tangents-counted h)

-- ---- 1/cos(rπ/N) for the odd r = 2i+1, which is r·1024/N parts
abbrev secants-test : ℕ → List ℕ → Type 0
secants-test n xs = T (every (near_at (λ i. 0) (λ i. (2 * i + 1) * (1024 / n))) 0 xs)

secants-tested : (n : ℕ) → secants-test n (secants n)
unfolding secants secants8 secants32 secants128 near_at near lows highs
secants-tested = at_each secants-test secants8 secants32 secants128 [] tt tt tt (λ n x y z. tt)

pub secants-nearest : SecantsNearest
secants-nearest n i h =
    subst (λ b. Nearest (get_or (secants n) i 0) b (cosine_box ((2 * i + 1) * (1024 / n)))) one
    (fractions (λ i. 0) (λ i. (2 * i + 1) * (1024 / n)) (secants n) (secants-tested n) i (rw (tables-counted n).secants-counted h))
