-- A list by its places, sums over places, and a limit on every number of a list.
use Rattle.std.specs.Prelude.{List, [], ◌∷◌, ℕ, zero, suc, ◌+◌, ◌*◌, ◌≤◌, ℤ, pos, nat_abs, ◌+ℤ◌, get_or}

-- f i, f (i + 1), .., n numbers
unfoldable pub tab {ℓ} : {A : Type ℓ} → (ℕ → A) → ℕ → ℕ → List A
tab f zero i = []
tab f (suc n) i = f i ∷ tab f n (suc i)

-- the list of n numbers whose place m is f m
abbrev pub places : ℕ → (ℕ → ℤ) → List ℤ
places n f = tab f n 0

-- the number at a place, and 0 past the end
abbrev pub at : List ℤ → ℕ → ℤ
at xs m = get_or xs m (pos 0)

-- f 0 + .. + f (n − 1)
unfoldable pub sum : ℕ → (ℕ → ℤ) → ℤ
sum zero f = pos 0
sum (suc n) f = sum n f +ℤ f n

-- no number of a list is larger than m in size
pub record Within (m : ℕ) (xs : List ℤ) : Type 0 where
  pub size : (i : ℕ) → nat_abs (get_or xs i (pos 0)) ≤ m

-- the sizes of the products of an inner product, summed
unfoldable pub sum_products : List ℤ → List ℤ → ℕ
sum_products [] ys = 0
sum_products (x ∷ xs) [] = 0
sum_products (x ∷ xs) (y ∷ ys) = nat_abs x * nat_abs y + sum_products xs ys
