-- The order in which each matrix of the stages is one list c, up to signs: matrix(place i, place j) is sign i · sign j · c(i + j). For the cosines
-- it is that of the powers of 3, since each odd number 2m+1 is ±3^i modulo 8M up to reflection.
use Rattle.std.specs.Prelude.{◌≡◌, Bool, List, [], ◌∷◌, ℕ, ◌+◌, ◌*◌, ◌/◌, ◌^◌, ◌≤◌, ◌<◌, ℤ, pos, ◌*ℤ◌, length, get_or, set}
use Rattle.integers.specs.Places.{at}
use Rattle.tables.specs.Widths.{by_width, half_width, scale}
use Rattle.tables.specs.Angles.{reflected, below_zero, signed}
use Rattle.steps.specs.Steps.{alternate}

-- 3^e·π/(4M), in parts of π/512
unfoldable pub angle_at : ℕ → ℕ → ℕ
angle_at N e = 3 ^ e * (128 / half_width N)

-- in the first quadrant it is (2m+1)π/(4M): m is its place, and its sign is that of the cosine
unfoldable pub place_in : ℕ → ℕ → ℕ
place_in N e = reflected 256 (angle_at N e) * half_width N / 256

unfoldable pub sign_in : ℕ → ℕ → ℤ
sign_in N e = signed (below_zero 256 (angle_at N e)) (pos 1)

-- where m stands in that order
unfoldable pub places_out : ℕ → List ℕ
places_out =
    by_width
    (0 ∷ 1 ∷ 3 ∷ 2 ∷ [])
    (0 ∷ 1 ∷ 11 ∷ 14 ∷ 2 ∷ 7 ∷ 5 ∷ 12 ∷ 4 ∷ 13 ∷ 15 ∷ 10 ∷ 6 ∷ 3 ∷ 9 ∷ 8 ∷ [])
    (0 ∷ 1 ∷ 11 ∷ 46 ∷ 2 ∷ 39 ∷ 5 ∷ 12 ∷ 52 ∷ 61 ∷ 47 ∷ 26 ∷ 22 ∷ 3 ∷ 9 ∷ 24 ∷ 40 ∷ 57 ∷ 19 ∷ 6 ∷ 42 ∷ 31 ∷ 13 ∷ 36 ∷ 28 ∷ 53 ∷ 55 ∷ 50 ∷ 62 ∷ 59 ∷ 17 ∷ 48 ∷ 16 ∷ 49 ∷ 27 ∷ 30 ∷ 18 ∷ 23 ∷ 21 ∷ 60 ∷ 4 ∷ 45 ∷ 63 ∷ 10 ∷ 38 ∷ 51 ∷ 25 ∷ 8 ∷ 56 ∷ 41 ∷ 35 ∷ 54 ∷ 58 ∷ 15 ∷ 29 ∷ 20 ∷ 44 ∷ 37 ∷ 7 ∷ 34 ∷ 14 ∷ 43 ∷ 33 ∷ 32 ∷ [])
    []

unfoldable pub place_out : ℕ → ℕ → ℕ
place_out N m = get_or (places_out N) m 0

-- ---- a place, its sign and its sign times d(place) at e; e and its sign at the place, the sign times 8/√M
unfoldable pub order_stored : ℕ → ℤ → ℕ → ℕ → Bool → List ℤ → List ℤ
order_stored half scale e place below_zero t =
    let sign = signed below_zero (pos 1) in
    set (set (set (set (set t (2 * half + e) (pos place)) (3 * half + e) sign) (4 * half + e) (alternate place sign)) (5 * half + place) (pos e)) (6 * half + place) (scale *ℤ sign)

-- the first e of them
pub record Ordered (N e : ℕ) (t₀ t : List ℤ) : Type 0 where
  pub long : length t ≡ length t₀
  pub places : (i : ℕ) → i < e → at t (2 * half_width N + i) ≡ pos (place_in N i)
  pub signs : (i : ℕ) → i < e → at t (3 * half_width N + i) ≡ sign_in N i
  pub alternated : (i : ℕ) → i < e → at t (4 * half_width N + i) ≡ alternate (place_in N i) (sign_in N i)
  pub places-out : (m : ℕ) → m < half_width N → place_out N m < e → at t (5 * half_width N + m) ≡ pos (place_out N m)
  pub signs-out : (m : ℕ) → m < half_width N → place_out N m < e → at t (6 * half_width N + m) ≡ pos (scale N) *ℤ sign_in N (place_out N m)
  pub before : (p : ℕ) → p < 2 * half_width N → at t p ≡ at t₀ p
  pub behind : (p : ℕ) → 7 * half_width N ≤ p → at t p ≡ at t₀ p
