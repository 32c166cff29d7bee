-- A rotation of two readings stays within 46,342: 1 − s·t is the cosine, so it is at most cos + sin of the limit of a reading and half a
-- unit for each rounding. The checker computes that for every m with the numbers of the tables.
use mathlib.Core.Path.{◌≡◌}
use mathlib.Core.Bool.{Bool, ◌&&◌}
use mathlib.Core.List.{List, [], ◌∷◌}
use Prim.Native.Nat.{ℕ, suc, ◌+◌, ◌-◌, ◌*◌, ◌^◌, ◌≤◌, ◌<◌}
use native.Mathlib.Omega.{arith}
use native.Mathlib.Nat.{lt_of_mul-lt-mul_left}
use lib.Dec.{T, ltb, ltb→lt, lit≤}
use lib.IntN.{ℤ, pos, neg_ℤ, nat_abs, ◌+ℤ◌, ◌-ℤ◌, ◌*ℤ◌}
use Rattle.integers.specs.Vectors.{dot, sum_abs, AllAbs}
use Rattle.integers.proofs.Ring.{ring}
use Rattle.integers.proofs.Order.{nat_abs-+ℤ, nat_abs-*ℤ}
use Rattle.integers.proofs.Rounding.{round-near}
use Rattle.integers.proofs.Tested.{and_left, and_right}
use Rattle.integers.proofs.Products.{nat_abs-dot, get_d-all, all-mono}
use Rattle.tables.specs.Widths.{by_width, half_width}
use Rattle.tables.specs.Angles.{half_turn, reflected, below_zero, signed}
use Rattle.tables.specs.Numbers.{sines, half_tangents, half_tangents8, half_tangents32, half_tangents128, cosine_of, sine_of, half_tangent_of}
use Rattle.tables.proofs.ByWidth.{at_each}
use Rattle.steps.specs.Places.{at}
use Rattle.steps.specs.Limits.{reading_limit, rotated_limit, folded_limit}
use Rattle.steps.specs.Steps.{tangent, sine, tangent_amount, sine_amount, rotated_a, rotated_b, lower, held}
use Rattle.integers.proofs.PlaceLaws.{all-places}
use Rattle.integers.specs.Tests.{every_below}
use Rattle.integers.proofs.Tested.{below_at}

-- q·z is a row of what is at most L and a row of what is at most h
sized : (q : ℕ) (z : ℤ) (g k x e : List ℤ) (L h K : ℕ) → pos q *ℤ z ≡ dot g x +ℤ dot k e → AllAbs L x → AllAbs h e → sum_abs g * L + sum_abs k * h < q * suc K → nat_abs z ≤ K
sized q z g k x e L h K s l r t =
    let w : nat_abs (pos q *ℤ z) ≤ sum_abs g * L + sum_abs k * h = rw s (omega (arith, nat_abs-+ℤ (dot g x) (dot k e), nat_abs-dot g x L l, nat_abs-dot k e h r)) in
    let v : nat_abs z < suc K = lt_of_mul-lt-mul_left q (omega (arith, nat_abs-*ℤ (pos q) z)) in
    omega arith

-- the rows of a and b, and of what the three roundings leave, where p is 2^28 and c, p² − s·t, is the cosine
abbrev row_a : ℤ → ℤ → ℤ → List ℤ
row_a p s t = (p *ℤ p -ℤ s *ℤ t) ∷ (p *ℤ s) ∷ []

abbrev rest_a : ℤ → ℤ → List ℤ
rest_a p s = s ∷ p ∷ []

abbrev row_b : ℤ → ℤ → ℤ → List ℤ
row_b p s t = let c = p *ℤ p -ℤ s *ℤ t in neg_ℤ (t *ℤ (p *ℤ p +ℤ c)) ∷ (p *ℤ c) ∷ []

abbrev rest_b : ℤ → ℤ → ℤ → List ℤ
rest_b p s t = (p *ℤ p -ℤ s *ℤ t) ∷ neg_ℤ (t *ℤ p) ∷ (p *ℤ p) ∷ []

-- what the rounding of −t·a to r leaves, and that of s·b with b lifted by r₁
abbrev left₁ : ℤ → ℤ → ℤ → ℤ → ℤ
left₁ p t a r = p *ℤ r -ℤ neg_ℤ t *ℤ a

abbrev left₂ : ℤ → ℤ → ℤ → ℤ → ℤ → ℤ
left₂ p s b r₁ r = p *ℤ r -ℤ s *ℤ (b +ℤ r₁)

exact_a : (p s t a b r₁ r₂ : ℤ) → p *ℤ p *ℤ (a +ℤ r₂) ≡ dot (row_a p s t) (a ∷ b ∷ []) +ℤ dot (rest_a p s) (left₁ p t a r₁ ∷ left₂ p s b r₁ r₂ ∷ [])
exact_a p s t a b r₁ r₂ = simp ring

exact_b : (p s t a b r₁ r₂ r₃ : ℤ)
    → p *ℤ p *ℤ p *ℤ (b +ℤ r₁ +ℤ r₃) ≡ dot (row_b p s t) (a ∷ b ∷ []) +ℤ dot (rest_b p s t) (left₁ p t a r₁ ∷ left₂ p s b r₁ r₂ ∷ left₁ p t (a +ℤ r₂) r₃ ∷ [])
exact_b p s t a b r₁ r₂ r₃ = simp ring

-- the test of one m
abbrev p28 : ℤ
p28 = pos (2 ^ 28)

abbrev fits_a : ℤ → ℤ → Bool
fits_a s t = ltb (sum_abs (row_a p28 s t) * reading_limit + sum_abs (rest_a p28 s) * 2 ^ 27) (2 ^ 56 * suc rotated_limit)

abbrev fits_b : ℤ → ℤ → Bool
fits_b s t = ltb (sum_abs (row_b p28 s t) * reading_limit + sum_abs (rest_b p28 s t) * 2 ^ 27) (2 ^ 84 * suc rotated_limit)

abbrev fits : ℕ → ℕ → Bool
fits N m = fits_a (sine N m) (tangent N m) && fits_b (sine N m) (tangent N m)

fit : (N : ℕ) → T (every_below (half_width N) (fits N))
unfolding half_width by_width sine sine_of cosine_of sines half_turn reflected below_zero signed tangent half_tangent_of half_tangents half_tangents8 half_tangents32 half_tangents128
fit = at_each (λ N M. T (every_below M (fits N))) 4 16 64 0 tt tt tt (λ N x y z. tt)

tangent-near : (N m : ℕ) (a : ℤ) → nat_abs (p28 *ℤ tangent_amount N m a -ℤ neg_ℤ (tangent N m) *ℤ a) ≤ 2 ^ 27
unfolding tangent_amount
tangent-near N m a = round-near 28 (neg_ℤ (tangent N m) *ℤ a)

sine-near : (N m : ℕ) (b : ℤ) → nat_abs (p28 *ℤ sine_amount N m b -ℤ sine N m *ℤ b) ≤ 2 ^ 27
unfolding sine_amount
sine-near N m b = round-near 28 (sine N m *ℤ b)

module _ (N m : ℕ) (a b : ℤ) (h : m < half_width N) (ka : nat_abs a ≤ reading_limit) (kb : nat_abs b ≤ reading_limit) where
  passed : T (fits N m)
  passed = below_at (half_width N) (fits N) (fit N) m h

  pub rotated_a-size : nat_abs (rotated_a N m a b) ≤ rotated_limit
  unfolding rotated_a
  rotated_a-size =
      let s = sine N m in
      let t = tangent N m in
      let r₁ = tangent_amount N m a in
      let r₂ = sine_amount N m (b +ℤ r₁) in
      sized (2 ^ 56) (a +ℤ r₂) (row_a p28 s t) (rest_a p28 s) (a ∷ b ∷ []) (left₁ p28 t a r₁ ∷ left₂ p28 s b r₁ r₂ ∷ []) reading_limit (2 ^ 27) rotated_limit
      (exact_a p28 s t a b r₁ r₂) (ka, (kb, tt)) (tangent-near N m a, (sine-near N m (b +ℤ r₁), tt)) (ltb→lt _ _ (and_left (fits_a s t) (fits_b s t) passed))

  pub rotated_b-size : nat_abs (rotated_b N m a b) ≤ rotated_limit
  unfolding rotated_a rotated_b
  rotated_b-size =
      let s = sine N m in
      let t = tangent N m in
      let r₁ = tangent_amount N m a in
      let r₂ = sine_amount N m (b +ℤ r₁) in
      let r₃ = tangent_amount N m (a +ℤ r₂) in
      sized (2 ^ 84) (b +ℤ r₁ +ℤ r₃) (row_b p28 s t) (rest_b p28 s t) (a ∷ b ∷ []) (left₁ p28 t a r₁ ∷ left₂ p28 s b r₁ r₂ ∷ left₁ p28 t (a +ℤ r₂) r₃ ∷ []) reading_limit (2 ^ 27) rotated_limit
      (exact_b p28 s t a b r₁ r₂ r₃) (ka, (kb, tt)) (tangent-near N m a, (sine-near N m (b +ℤ r₁), (tangent-near N m (a +ℤ r₂), tt)))
      (ltb→lt _ _ (and_right (fits_a s t) (fits_b s t) passed))

-- ---- so the fold of readings
module _ (N : ℕ) (x : List ℤ) (readings : AllAbs reading_limit x) where
  pub lower-size : AllAbs rotated_limit (lower N x)
  unfolding lower
  lower-size = all-places rotated_limit (half_width N) _ (λ i h. let n = half_width N - 1 - i in rotated_a-size N n (at x n) (at x (N - 1 - n)) (omega arith) (get_d-all reading_limit x readings n) (get_d-all reading_limit x readings (N - 1 - n)))

  pub held-size : AllAbs rotated_limit (held N x)
  unfolding held
  held-size = all-places rotated_limit (half_width N) _ (λ n h. rotated_b-size N n (at x n) (at x (N - 1 - n)) h (get_d-all reading_limit x readings n) (get_d-all reading_limit x readings (N - 1 - n)))

  -- and so within the gate
  pub lower-gate : AllAbs folded_limit (lower N x)
  lower-gate = all-mono (lower N x) (lit≤ tt) lower-size

  pub held-gate : AllAbs folded_limit (held N x)
  held-gate = all-mono (held N x) (lit≤ tt) held-size
