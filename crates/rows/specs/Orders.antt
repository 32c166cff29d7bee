-- A list taken in an order, each number with a sign, and the order of the secants.
use Rattle.std.specs.Prelude.{◌≡◌, cond, List, ℕ, ◌-◌, ◌*◌, ◌/◌, ◌%◌, ◌<◌, eqb, ltb, ℤ, pos, neg_ℤ, ◌*ℤ◌, length}
use Rattle.integers.specs.Floor.{above}
use Rattle.integers.specs.Places.{at}

-- n places of a list of n numbers, each with a sign, which may be some times as large
pub record Order (n : ℕ) (places signs : List ℤ) : Type 0 where
  pub places-long : length places ≡ n
  pub signs-long : length signs ≡ n
  pub natural : (k : ℕ) → k < n → at places k ≡ pos (above (at places k))
  pub inside : (k : ℕ) → k < n → above (at places k) < n

-- the number at a place of an order, with its sign
abbrev pub row_at : List ℤ → List ℤ → List ℤ → ℕ → ℤ
row_at places signs x m = at signs m *ℤ at x (above (at places m))

-- ---- secants: the even places, then the odd ones from the end, with a minus; and rows so again
unfoldable pub secant_in : ℕ → (ℕ → ℤ) → ℕ → ℤ
secant_in M x j = cond (ltb (2 * j) M) (x (2 * j)) (neg_ℤ (x (2 * M - 1 - 2 * j)))

unfoldable pub secant_out : ℕ → (ℕ → ℤ) → ℕ → ℤ
secant_out M z m = cond (eqb (m % 2) 0) (z (m / 2)) (neg_ℤ (z (M - 1 - m / 2)))
