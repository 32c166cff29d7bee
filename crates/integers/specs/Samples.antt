-- Sums and comparisons of numbers, computed on the definitions.
use Rattle.std.specs.Prelude.{◌≡◌, refl, true, false, List, [], ◌∷◌, map, ℤ, pos, neg_ℤ}
use Rattle.integers.specs.Vectors.{sum_of, total_of, alike}

abbrev numbers : List ℤ
numbers = pos 3 ∷ pos 4 ∷ neg_ℤ (pos 3) ∷ neg_ℤ (pos 4) ∷ []

sums-given : sum_of [] ∷ sum_of (pos 100 ∷ neg_ℤ (pos 20) ∷ []) ∷ sum_of (neg_ℤ (pos 50) ∷ pos 20 ∷ pos 3 ∷ []) ∷ [] ≡ pos 0 ∷ pos 80 ∷ neg_ℤ (pos 27) ∷ []
unfolding sum_of
sums-given = refl

total-given : total_of ((pos 100 ∷ neg_ℤ (pos 20) ∷ []) ∷ [] ∷ (pos 7 ∷ neg_ℤ (pos 90) ∷ []) ∷ []) ≡ neg_ℤ (pos 3)
unfolding total_of sum_of
total-given = refl

-- 3 and −4 beside numbers of both signs
alike-given : map (alike (pos 3)) numbers ∷ map (alike (neg_ℤ (pos 4))) numbers ∷ [] ≡ (true ∷ false ∷ false ∷ false ∷ []) ∷ (false ∷ false ∷ false ∷ true ∷ []) ∷ []
unfolding alike
alike-given = refl
