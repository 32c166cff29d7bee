-- The tables of a width as lists, the halves of a frame, and room for the products.
use Rattle.std.specs.Prelude.{◌≡◌, List, ℕ, ◌≤◌, ℤ, neg_ℤ, length}
use Rattle.integers.specs.Places.{places}
use Rattle.tables.specs.Widths.{half_width}
use Rattle.steps.specs.Steps.{tangent, sine}
use Rattle.width_tables.specs.Filled.{product_room}

-- −t(m) and s(m)
pub record Tangents (N : ℕ) (xs : List ℤ) : Type 0 where
  pub is : xs ≡ places (half_width N) (λ m. neg_ℤ (tangent N m))

pub record Sines (N : ℕ) (xs : List ℤ) : Type 0 where
  pub is : xs ≡ places (half_width N) (sine N)

-- the halves of a frame
pub record TwoHalves (N : ℕ) (top bottom : List ℤ) : Type 0 where
  pub top-long : length top ≡ half_width N
  pub bottom-long : length bottom ≡ half_width N

-- room for two products
pub record Room (N : ℕ) (y z : List ℤ) : Type 0 where
  pub y-long : product_room N ≤ length y
  pub z-long : product_room N ≤ length z
