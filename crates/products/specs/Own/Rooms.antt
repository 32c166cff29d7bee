-- What the steps of a level do to a room, place by place.
use Rattle.std.specs.Prelude.{List, ◌≡◌, ℕ, ◌+◌, ◌-◌, ◌*◌, ◌^◌, ◌≤◌, ◌<◌, ℤ, nat_abs, ◌+ℤ◌, length}
use Rattle.integers.specs.Places.{at}
use Rattle.products.specs.Own.Products.{Lists}

-- the numbers from place m to n are so small that the sum of two fits
pub record Small (m n : ℕ) (room : List ℤ) : Type 0 where
  pub small : (p : ℕ) → m ≤ p → p < n → nat_abs (at room p) ≤ 2 ^ 62 - 1

-- f 0, .., f (i − 1) stand from `to` on; nothing else changed
pub record Written (f : ℕ → ℤ) (to i : ℕ) (room₀ room : List ℤ) : Type 0 where
  pub long : length room ≡ length room₀
  pub rest : (p : ℕ) → (to ≤ p → to + i ≤ p) → at room p ≡ at room₀ p
  pub new : (j : ℕ) → j < i → at room (to + j) ≡ f j

-- the first v lists of h numbers of F stand from `to` on
pub record AllWritten (F : Lists) (to h v : ℕ) (room₀ room : List ℤ) : Type 0 where
  pub long : length room ≡ length room₀
  pub old : (p : ℕ) → p < to → at room p ≡ at room₀ p
  pub new : (w j : ℕ) → w < v → j < h → at room (to + w * h + j) ≡ F w j

-- the sums of the halves of lists of 2h numbers
abbrev pub half_sums : ℕ → List ℤ → Lists
half_sums h room w j = at room (w * (h + h) + j) +ℤ at room (w * (h + h) + h + j)

-- the first i numbers from `from` on were added to both halves of the list of 2h numbers at `to`, or taken off; nothing else changed
pub record Spread (op : ℤ → ℤ → ℤ) (to h from i : ℕ) (room₀ room : List ℤ) : Type 0 where
  pub long : length room ≡ length room₀
  pub first : (j : ℕ) → j < i → at room (to + j) ≡ op (at room₀ (to + j)) (at room₀ (from + j))
  pub second : (j : ℕ) → j < i → at room (to + h + j) ≡ op (at room₀ (to + h + j)) (at room₀ (from + j))
  pub rest : (p : ℕ) → (to ≤ p → to + i ≤ p) → (to + h ≤ p → to + h + i ≤ p) → at room p ≡ at room₀ p

-- the same for the first v of k lists, behind which the k lists of h numbers stand
pub record AllSpread (op : ℤ → ℤ → ℤ) (h k v : ℕ) (room₀ room : List ℤ) : Type 0 where
  pub long : length room ≡ length room₀
  pub first : (w j : ℕ) → w < v → j < h → at room (w * (h + h) + j) ≡ op (at room₀ (w * (h + h) + j)) (at room₀ (k * (h + h) + w * h + j))
  pub second : (w j : ℕ) → w < v → j < h → at room (w * (h + h) + h + j) ≡ op (at room₀ (w * (h + h) + h + j)) (at room₀ (k * (h + h) + w * h + j))
  pub rest : (p : ℕ) → v * (h + h) ≤ p → at room p ≡ at room₀ p
