-- The row sums of the stages, and where a product leaves them.
use Rattle.std.specs.Prelude.{List, ◌≡◌, ℕ, ◌*◌, ◌^◌, ◌≤◌, ◌<◌, ℤ, pos, nat_abs, ◌*ℤ◌, length}
use Rattle.integers.specs.Places.{places, at, sum}
use Rattle.tables.specs.Widths.{half_width, scale}
use Rattle.steps.specs.Steps.{cosine, secant, alternate}
use Rattle.width_tables.specs.Orders.{sign_in, place_out}
use Rattle.rows.specs.Orders.{secant_out}

unfoldable pub cosine_sums : ℕ → List ℤ → List ℤ
cosine_sums N x = places (half_width N) (λ m. sum (half_width N) (λ n. cosine N m n *ℤ at x n))

unfoldable pub secant_sums : ℕ → List ℤ → List ℤ
secant_sums N x = places (half_width N) (λ m. sum (half_width N) (λ n. secant N m n *ℤ at x n))

-- d(n)·x(n)
abbrev pub alternated : List ℤ → List ℤ
alternated x = places (length x) (λ n. alternate n (at x n))

-- the sums in the order of the product: at their places, with their signs, they are the row sums with x; those of secants are 64/M times as large
pub record CosineRows (N : ℕ) (x y : List ℤ) : Type 0 where
  pub rows : (m : ℕ) → m < half_width N → sign_in N (place_out N m) *ℤ at y (place_out N m) ≡ at (cosine_sums N x) m
  pub small : (i : ℕ) → i < half_width N → nat_abs (at y i) ≤ 2 ^ 62

pub record SecantRows (N : ℕ) (x z : List ℤ) : Type 0 where
  pub rows : (m : ℕ) → m < half_width N → secant_out (half_width N) (at z) m ≡ pos (scale N * scale N) *ℤ at (secant_sums N x) m
  pub small : (i : ℕ) → i < half_width N → nat_abs (at z i) ≤ 2 ^ 62
