-- The sums of squares and their limits.
use mathlib.Core.Path.{◌≡◌, refl, sym, subst}
use mathlib.Core.List.{List, [], ◌∷◌}
use Prim.Native.Nat.{ℕ, zero, suc, ◌+◌, ◌*◌, ◌≤◌}
use native.Mathlib.Omega.{arith}
use native.Mathlib.Nat.{mul-le-mul}
use lib.Dec.{T}
use lib.IntN.{ℤ, pos, negsuc, nat_abs, ◌+ℤ◌}
use lib.ListN.{take, replicate}
use lib.Signed.{non_neg}
use Rattle.integers.specs.Places.{at}
use Rattle.integers.specs.Vectors.{AllAbs}
use Rattle.steps.specs.Limits.{coefficient_limit}
-- what is computed comes before what is proved: a wrong definition fails first at a sample
use Rattle.reels.specs.Samples as Samples
use Rattle.reels.specs.Page.{squared}
use Rattle.reels.specs.Reel.{squares_added}
use Rattle.reels.specs.Limits.{square_limit, SumWithin, SumsWithin}

pub squared-is : (x : ℤ) → squared x ≡ pos (nat_abs x * nat_abs x)
squared-is (pos n) = refl
squared-is (negsuc n) = refl

square-size : (x : ℤ) → nat_abs x ≤ coefficient_limit → nat_abs x * nat_abs x ≤ square_limit
square-size x h = mul-le-mul h h

-- ---- more frames, greater sums
pub sum_more : (f g : ℕ) (s : ℤ) → f ≤ g → SumWithin f s → SumWithin g s
unfolding SumWithin
sum_more f g (pos n) h w = omega (arith, w)
sum_more f g (negsuc n) h w = w

pub sums-more : (f g : ℕ) (sums : List ℤ) → f ≤ g → SumsWithin f sums → SumsWithin g sums
unfolding SumsWithin
sums-more f g [] h w = tt
sums-more f g (s ∷ sums) h w = (sum_more f g s h w.0, sums-more f g sums h w.1)

sum_added : (f : ℕ) (s x : ℤ) → nat_abs x ≤ coefficient_limit → SumWithin f s → SumWithin (suc f) (s +ℤ squared x)
unfolding SumWithin
sum_added f (pos n) x h w = subst (λ (z : ℤ). SumWithin (suc f) (pos n +ℤ z)) (sym (squared-is x)) (omega (arith, w, square-size x h))
sum_added f (negsuc n) x h w = absurd w

pub squares-added : (f : ℕ) (sums frame : List ℤ) → AllAbs coefficient_limit frame → SumsWithin f sums → SumsWithin (suc f) (squares_added sums frame)
unfolding SumsWithin squares_added
squares-added f [] frame h w = tt
squares-added f (s ∷ sums) [] h w = sums-more f (suc f) (s ∷ sums) (omega arith) w
squares-added f (s ∷ sums) (x ∷ frame) h w = (sum_added f s x h.0 w.0, squares-added f sums frame h.1 w.1)

-- ---- parts
pub sums-taken : (f n : ℕ) (sums : List ℤ) → SumsWithin f sums → SumsWithin f (take n sums)
unfolding SumsWithin
sums-taken f zero sums w = tt
sums-taken f (suc n) [] w = tt
sums-taken f (suc n) (s ∷ sums) w = (w.0, sums-taken f n sums w.1)

pub no-sums : (f n : ℕ) → SumsWithin f (replicate n (pos 0))
unfolding SumsWithin SumWithin
no-sums f zero = tt
no-sums f (suc n) = (omega arith, no-sums f n)

-- the size of a sum
pub sum-size : (f : ℕ) (s : ℤ) → SumWithin f s → nat_abs s ≤ f * square_limit
unfolding SumWithin
sum-size f (pos n) w = w
sum-size f (negsuc n) w = absurd w

pub sum-at : (f : ℕ) (sums : List ℤ) (i : ℕ) → SumsWithin f sums → SumWithin f (at sums i)
unfolding SumsWithin SumWithin
sum-at f [] i w = omega arith
sum-at f (s ∷ sums) zero w = w.0
sum-at f (s ∷ sums) (suc i) w = sum-at f sums i w.1

pub sum-from-zero : (f : ℕ) (s : ℤ) → SumWithin f s → T (non_neg s)
unfolding SumWithin
sum-from-zero f (pos n) w = tt
sum-from-zero f (negsuc n) w = absurd w
