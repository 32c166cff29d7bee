-- Floor division by a natural above zero, and rounding. Above this crate rounding is known by `round-near` and `round-size` alone.
use mathlib.Core.Path.{◌≡◌, refl, sym, ap, ◌∙◌}
use Prim.Native.Nat.{ℕ, zero, suc, ◌+◌, ◌*◌, ◌-◌, ◌/◌, ◌%◌, ◌^◌, ◌≤◌, ◌<◌}
use native.Mathlib.Omega.{arith}
use native.Mathlib.Nat.{div-add-mod, mod-lt, mul-le-mul, mul-le-mul_left, lt_of_mul-lt-mul_left, pow-suc}
use lib.Pow.{pow_pos, pow-add}
use lib.IntN.{ℤ, pos, negsuc, nat_abs, ◌+ℤ◌, ◌-ℤ◌, ◌*ℤ◌}
use lib.Signed.{◌≤ℤ◌, ◌<ℤ◌, mag}
use Rattle.integers.specs.Floor.{above, below, floor_div, round}
use Rattle.integers.proofs.Differences.{dif, zs, zb}
use Rattle.integers.proofs.Order.{≤ℤ-antisym, nat_abs-*ℤ, nat_abs-near}

-- p · ⌊v / p⌋ ≤ v < p · ⌊v / p⌋ + p
pub floor_div-le : (v : ℤ) (p : ℕ) → 0 < p → (pos p *ℤ floor_div v p) ≤ℤ v
unfolding floor_div
floor_div-le v zero h = absurd (omega arith)
floor_div-le (pos a) (suc p) h = simp zs (omega (arith, div-add-mod a (suc p)))
floor_div-le (negsuc a) (suc p) h = simp zs (omega (arith, div-add-mod a (suc p), mod-lt a h))

pub floor_div-lt : (v : ℤ) (p : ℕ) → 0 < p → v <ℤ (pos p *ℤ floor_div v p +ℤ pos p)
unfolding floor_div
floor_div-lt v zero h = absurd (omega arith)
floor_div-lt (pos a) (suc p) h = simp zs (omega (arith, div-add-mod a (suc p), mod-lt a h))
floor_div-lt (negsuc a) (suc p) h = simp zs (omega (arith, div-add-mod a (suc p)))

-- p · f ≤ v < p · (q + 1) gives f ≤ q
between : (p : ℕ) (f q v : ℤ) → (pos p *ℤ f) ≤ℤ v → v <ℤ (pos p *ℤ q +ℤ pos p) → f ≤ℤ q
between p f q v = rw (dif f, dif q, dif v) (simp zs (λ h k.
    let l : p * (above f + below q) < p * suc (above q + below f) = omega arith in
    omega (arith, lt_of_mul-lt-mul_left p l)))

pub floor_div-unique : (v q : ℤ) (p : ℕ) → 0 < p → (pos p *ℤ q) ≤ℤ v → v <ℤ (pos p *ℤ q +ℤ pos p) → floor_div v p ≡ q
floor_div-unique v q p z h k = ≤ℤ-antisym (between p (floor_div v p) q v (floor_div-le v p z) k) (between p q (floor_div v p) v h (floor_div-lt v p z))

near : (p h : ℕ) (r v : ℤ) → p ≤ h + h → (pos p *ℤ r) ≤ℤ (v +ℤ pos h) → (v +ℤ pos h) <ℤ (pos p *ℤ r +ℤ pos p) → nat_abs (pos p *ℤ r -ℤ v) ≤ h
near p h r v = rw (dif r, dif v) (simp zs (omega arith))

twice : (j : ℕ) → 2 ^ suc j ≡ 2 ^ j + 2 ^ j
twice j = omega (arith, pow-suc 2 j)

-- law (a): what is rounded is within half a unit
pub round-near : (k : ℕ) (v : ℤ) → nat_abs (pos (2 ^ k) *ℤ round k v -ℤ v) ≤ 2 ^ (k - 1)
unfolding round
round-near zero v = rw (dif v) (simp zb (omega arith))
round-near (suc j) v =
    let e : suc j - 1 ≡ j = omega arith in
    let w = v +ℤ pos (2 ^ j) in
    rw e (near (2 ^ suc j) (2 ^ j) (floor_div w (2 ^ suc j)) v (omega (arith, twice j)) (floor_div-le w (2 ^ suc j) (pow_pos (suc j))) (floor_div-lt w (2 ^ suc j) (pow_pos (suc j))))

-- law (b): its size, for a range
pub round-size : (k : ℕ) (v : ℤ) → 2 ^ k * nat_abs (round k v) ≤ nat_abs v + 2 ^ (k - 1)
round-size k v = omega (arith, nat_abs-*ℤ (pos (2 ^ k)) (round k v), nat_abs-near (pos (2 ^ k) *ℤ round k v) v, round-near k v)

-- what is whole already
pub round_whole : (v : ℤ) → round 0 v ≡ v
unfolding round
round_whole v = refl

-- and a limit: within 2^k · A, the rounded is within A
pub round-within : (k A : ℕ) (v : ℤ) → nat_abs v ≤ 2 ^ k * A → nat_abs (round k v) ≤ A
round-within zero A v h = rw (round_whole v) (omega arith)
round-within (suc j) A v h =
    let e : suc j - 1 ≡ j = omega arith in
    let s = rw e at (round-size (suc j) v) in
    let l : 2 ^ suc j * nat_abs (round (suc j) v) < 2 ^ suc j * suc A = omega (arith, twice j, pow_pos j) in
    let r = lt_of_mul-lt-mul_left (2 ^ suc j) l in
    omega arith

nothing : (z : ℤ) → nat_abs z ≤ 0 → z ≡ pos 0
nothing (pos n) h = ap pos (omega arith)
nothing (negsuc n) h = absurd (omega arith)

-- nothing rounds to nothing
pub round-zero : (k : ℕ) → round k (pos 0) ≡ pos 0
round-zero k = nothing (round k (pos 0)) (round-within k 0 (pos 0) (omega arith))

-- rounding by a power above 0, as the code writes it
pub round_is : (k : ℕ) (v : ℤ) → 0 < k → floor_div (v +ℤ pos (2 ^ (k - 1))) (2 ^ k) ≡ round k v
unfolding round
round_is zero v z = absurd (omega arith)
round_is (suc j) v z = ap (λ i. floor_div (v +ℤ pos (2 ^ i)) (2 ^ suc j)) (omega arith)

-- ---- a number and its divisor, both some times as large
times-le : (c p : ℕ) (w q : ℤ) → (pos p *ℤ q) ≤ℤ w → (pos (c * p) *ℤ q) ≤ℤ (pos c *ℤ w)
times-le c p w q = rw (dif w, dif q) (simp zs (λ h. omega (arith, mul-le-mul_left c h)))

times-lt : (c p : ℕ) (w q : ℤ) → 0 < c → w <ℤ (pos p *ℤ q +ℤ pos p) → (pos c *ℤ w) <ℤ (pos (c * p) *ℤ q +ℤ pos (c * p))
times-lt c p w q z = rw (dif w, dif q) (simp zs (λ h. omega (arith, mul-le-mul_left c h)))

floor_div-scaled : (c p : ℕ) (w : ℤ) → 0 < c → 0 < p → floor_div (pos c *ℤ w) (c * p) ≡ floor_div w p
floor_div-scaled c p w z h =
    floor_div-unique (pos c *ℤ w) (floor_div w p) (c * p) (omega (arith, mul-le-mul z h)) (times-le c p w (floor_div w p) (floor_div-le w p h)) (times-lt c p w (floor_div w p) z (floor_div-lt w p h))

half-inside : (c h : ℕ) (v : ℤ) → pos c *ℤ v +ℤ pos (h * c) ≡ pos c *ℤ (v +ℤ pos h)
half-inside c h v = rw (dif v) (simp zs (omega arith))

pub round-scaled : (k j : ℕ) (v : ℤ) → 0 < k → round (k + j) (pos (2 ^ j) *ℤ v) ≡ round k v
unfolding round
round-scaled zero j v z = absurd (omega arith)
round-scaled (suc i) j v z =
    let e : suc i + j ≡ suc (i + j) = omega arith in
    let f : suc (i + j) ≡ j + suc i = omega arith in
    let p : 2 ^ suc (i + j) ≡ 2 ^ j * 2 ^ suc i = ap (λ n. 2 ^ n) f ∙ pow-add 2 j (suc i) in
    rw e (rw (p, pow-add 2 i j, half-inside (2 ^ j) (2 ^ i) v) (floor_div-scaled (2 ^ j) (2 ^ suc i) (v +ℤ pos (2 ^ i)) (pow_pos j) (pow_pos (suc i))))
