-- Lists of whole numbers: the inner product, and a matrix as the list of its rows.
use Rattle.std.specs.Prelude.{◌≡◌, Bool, false, List, [], ◌∷◌, map, ℕ, ◌+◌, ◌≤◌, eqb, ℤ, pos, negsuc, nat_abs, ◌+ℤ◌, ◌*ℤ◌, length, replicate}

-- the inner product; the shorter list decides
abbrev pub dot : List ℤ → List ℤ → ℤ
dot [] ys = pos 0
dot (x ∷ xs) [] = pos 0
dot (x ∷ xs) (y ∷ ys) = x *ℤ y +ℤ dot xs ys

abbrev pub scalar_mul : ℤ → List ℤ → List ℤ
scalar_mul c [] = []
scalar_mul c (x ∷ xs) = (c *ℤ x) ∷ scalar_mul c xs

abbrev pub plus : List ℤ → List ℤ → List ℤ
plus [] ys = []
plus (x ∷ xs) [] = []
plus (x ∷ xs) (y ∷ ys) = (x +ℤ y) ∷ plus xs ys

-- the sum of a list, and of the lists of a list
unfoldable pub sum_of : List ℤ → ℤ
sum_of [] = pos 0
sum_of (x ∷ xs) = x +ℤ sum_of xs

unfoldable pub total_of : List (List ℤ) → ℤ
total_of [] = pos 0
total_of (xs ∷ rows) = sum_of xs +ℤ total_of rows

-- whether two numbers are the same
unfoldable pub alike : ℤ → ℤ → Bool
alike (pos m) (pos n) = eqb m n
alike (pos m) (negsuc n) = false
alike (negsuc m) (pos n) = false
alike (negsuc m) (negsuc n) = eqb m n

-- the sizes' sum
abbrev pub sum_abs : List ℤ → ℕ
sum_abs [] = 0
sum_abs (x ∷ xs) = nat_abs x + sum_abs xs

-- A · x
abbrev pub mul_vec : List (List ℤ) → List ℤ → List ℤ
mul_vec A x = map (λ r. dot r x) A

-- g · A, of n entries
abbrev pub vec_mul : ℕ → List ℤ → List (List ℤ) → List ℤ
vec_mul n [] A = replicate n (pos 0)
vec_mul n (g ∷ gs) [] = replicate n (pos 0)
vec_mul n (g ∷ gs) (r ∷ A) = plus (scalar_mul g r) (vec_mul n gs A)

-- each row has n entries
abbrev pub Rows : ℕ → List (List ℤ) → Type 0
Rows n [] = Unit {0}
Rows n (r ∷ A) = (length r ≡ n) × Rows n A

-- each number is at most B in size
abbrev pub AllAbs : ℕ → List ℤ → Type 0
AllAbs B [] = Unit {0}
AllAbs B (x ∷ xs) = (nat_abs x ≤ B) × AllAbs B xs
