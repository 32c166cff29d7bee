-- The lists of a table, halved level by level.
use Rattle.std.specs.Prelude.{List, ◌≡◌, ℕ, ◌+◌, ◌*◌, ◌^◌, ◌≤◌, ◌<◌, ℤ, length, take}
use Rattle.integers.specs.Places.{at, Within}
use Rattle.products.specs.Own.Products.{Lists, Laid, Power, tables}
use Rattle.products.specs.Own.Whole.{Level}

-- the middles of lists of 4q numbers: what is between their quarters
abbrev pub middles : ℕ → List ℤ → Lists
middles q room w j = at room (w * (q + q + (q + q)) + q + j)

-- a table of 2m numbers with room for its lists on every level
pub record Tabled (m : ℕ) (room : List ℤ) : Type 0 where
  pub power : Power m
  pub most : ℕ
  pub within : Within most (take (m + m) room)
  pub fits : m * most < 2 ^ 62
  pub long : 3 ^ power.levels * 8 ≤ length room

-- where the loop over levels stands
pub record TablesHalved (m : ℕ) (room₀ : List ℤ) (n k : ℕ) (room : List ℤ) : Type 0 where
  pub here : Level m n k
  pub long : length room ≡ length room₀
  pub laid : Laid (n + n) k (tables m (take (m + m) room₀) here.level) room
