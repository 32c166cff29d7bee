-- What the product is given and what it leaves on the levels.
use Rattle.std.specs.Prelude.{List, ◌≡◌, ℕ, ◌*◌, ◌^◌, ◌≤◌, ℤ, length, take}
use Rattle.integers.specs.Places.{at}
use Rattle.products.specs.Own.Products.{Power, ProductFits, Laid, tables, numbers, products, nine, wide}

-- the joined leaf lists of a table of 2m numbers: nine numbers for each of 3^levels leaves
pub record LeafLists (m : ℕ) (table lists : List ℤ) : Type 0 where
  pub power : Power m
  pub nines : Laid 9 (3 ^ power.levels) (λ v. at (nine (tables m table power.levels v))) lists

-- a room for m numbers on every level, with numbers that are small enough
pub record Roomy (m : ℕ) (table room : List ℤ) : Type 0 where
  pub power : Power m
  pub sizes : ProductFits m table (take m room)
  pub long : 3 ^ power.levels * 4 ≤ length room

-- and the leaf lists of a table
pub record ProductInput (m : ℕ) (lists room : List ℤ) : Type 0 where
  pub table : List ℤ
  pub leaves : LeafLists m table lists
  pub roomy : Roomy m table room

-- the products of the leaves stand in a room
pub record Multiplied (m : ℕ) (table a room : List ℤ) : Type 0 where
  pub power : Power m
  pub laid : Laid 4 (3 ^ power.levels) (products 4 (tables m table power.levels) (numbers m a power.levels)) room

-- there are k of them, and they are small enough
pub record Rising (m k : ℕ) (room : List ℤ) : Type 0 where
  pub table : List ℤ
  pub list : List ℤ
  pub sizes : ProductFits m table list
  pub products : Multiplied m table list room
  pub count : k ≡ 3 ^ products.power.levels

-- ---- where the loops over levels stand
-- a level has k lists of n numbers
pub record Level (m n k : ℕ) : Type 0 where
  pub power : Power m
  pub level : ℕ
  pub inside : level ≤ power.levels
  pub width : n ≡ wide m level
  pub count : k ≡ 3 ^ level

pub record Descended (m : ℕ) (room₀ : List ℤ) (n k : ℕ) (room : List ℤ) : Type 0 where
  pub here : Level m n k
  pub long : length room ≡ length room₀
  pub laid : Laid n k (numbers m (take m room₀) here.level) room

pub record Ascended (m : ℕ) (room₀ : List ℤ) (n k : ℕ) (room : List ℤ) : Type 0 where
  pub here : Level m n k
  pub long : length room ≡ length room₀
  pub laid : (table a : List ℤ) → Multiplied m table a room₀ → Laid n k (products n (tables m table here.level) (numbers m a here.level)) room
