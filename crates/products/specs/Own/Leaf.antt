-- A leaf: four numbers with a list, by nine products.
use Rattle.std.specs.Prelude.{List, [], ◌∷◌, ◌≡◌, ℕ, ◌+◌, ◌*◌, ◌^◌, ◌≤◌, ◌<◌, ℤ, nat_abs, ◌+ℤ◌, ◌*ℤ◌, length}
use Rattle.integers.specs.Places.{at}
use Rattle.products.specs.Own.Products.{Lists, Laid, BothWithin, nine, products}
use Rattle.products.specs.declared.leaf.Nine.{Nine}

abbrev pub listed_nine : Nine → List ℤ
listed_nine l = l.a ∷ l.b ∷ l.c ∷ l.d ∷ l.e ∷ l.f ∷ l.g ∷ l.h ∷ l.i ∷ []

-- the products of two numbers by a list of three fit
pub record Fit (l m n x y : ℤ) : Type 0 where
  pub sum : nat_abs (x +ℤ y) < 2 ^ 62
  pub left : nat_abs (l *ℤ x) < 2 ^ 62
  pub right : nat_abs (m *ℤ y) < 2 ^ 62
  pub middle : nat_abs (n *ℤ (x +ℤ y)) < 2 ^ 62

-- nine numbers are those of a list g, and the sums of four products fit
pub record Leaf (l x : List ℤ) : Type 0 where
  pub list : ℕ → ℤ
  pub is : l ≡ nine list
  pub limit : ℕ
  pub sized : BothWithin limit list (at x)
  pub fits : 4 * limit < 2 ^ 62

-- the same of k leaves in a room
pub record Leaves (k : ℕ) (lists room : List ℤ) : Type 0 where
  pub tables : Lists
  pub numbers : Lists
  pub nines : Laid 9 k (λ v. at (nine (tables v))) lists
  pub laid : Laid 4 k numbers room
  pub limit : ℕ
  pub sized : (v : ℕ) → BothWithin limit (tables v) (numbers v)
  pub fits : 4 * limit < 2 ^ 62

-- the first v of k leaves are multiplied, and nothing else changed
pub record Leafed (k v : ℕ) (lists room₀ room : List ℤ) : Type 0 where
  pub long : length room ≡ length room₀
  pub done : (L a : Lists) → Laid 9 k (λ v. at (nine (L v))) lists → Laid 4 k a room₀ → (w j : ℕ) → w < v → j < 4 → at room (w * 4 + j) ≡ products 4 L a w j
  pub rest : (p : ℕ) → v * 4 ≤ p → at room p ≡ at room₀ p
