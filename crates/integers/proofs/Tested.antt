-- A test that the checker computes over a whole table is a rule at each entry.
use mathlib.Core.Path.{◌≡◌, refl, subst, sym, ◌∙◌}
use mathlib.Core.Bool.{Bool, true, false, ◌&&◌}
use mathlib.Core.List.{List, [], ◌∷◌}
use Prim.Native.Nat.{ℕ, zero, suc, ◌+◌, ◌≤◌, ◌<◌}
use native.Mathlib.Nat.{add-zero, zero-add, add-suc, suc-add}
use native.Mathlib.Omega.{arith}
use borrow.Author.Tests.{ltb-true, ltb-false, eqb-true, eqb-false}
use lib.Dec.{T, leb, leb→le, ltb, eqb}
use lib.ListN.{length, get_or, get_or-eq_default}
use Rattle.integers.specs.Tests.{every, every_below}

pub and_left : (a b : Bool) → T (a && b) → T a
and_left true b t = tt
and_left false b t = t

pub and_right : (a b : Bool) → T (a && b) → T b
and_right true b t = t
and_right false b t = absurd t

from : (f : ℕ → ℕ → Bool) (xs : List ℕ) (i : ℕ) → T (every f i xs) → (k : ℕ) → k < length xs → T (f (i + k) (get_or xs k 0))
from f [] i t k h = absurd (omega arith)
from f (x ∷ xs) i t zero h = subst (λ (m : ℕ). T (f m x)) (sym (add-zero i)) (and_left (f i x) (every f (suc i) xs) t)
from f (x ∷ xs) i t (suc k) h =
    subst (λ (m : ℕ). T (f m (get_or xs k 0))) (suc-add i k ∙ sym (add-suc i k))
    (from f xs (suc i) (and_right (f i x) (every f (suc i) xs) t) k (omega arith))

pub every-at : (f : ℕ → ℕ → Bool) (xs : List ℕ) → T (every f 0 xs) → (k : ℕ) → k < length xs → T (f k (get_or xs k 0))
every-at f xs t k h = subst (λ (m : ℕ). T (f m (get_or xs k 0))) (zero-add k) (from f xs 0 t k h)

-- no entry is above m, and what is read past the end is 0
pub every-le : (m : ℕ) (xs : List ℕ) → T (every (λ k x. leb x m) 0 xs) → (k : ℕ) → get_or xs k 0 ≤ m
every-le m xs t k = by (ltb k (length xs)) refl
  where
    by : (b : Bool) → ltb k (length xs) ≡ b → get_or xs k 0 ≤ m
    by true e = leb→le _ m (every-at (λ k x. leb x m) xs t k (ltb-true _ _ e))
    by false e = rw (get_or-eq_default xs 0 (ltb-false k (length xs) e)) (omega arith)

pub below_at : (n : ℕ) (f : ℕ → Bool) → T (every_below n f) → (i : ℕ) → i < n → T (f i)
below_at zero f t i h = absurd (omega arith)
below_at (suc n) f t i h = by (below_at n f (and_right (f n) (every_below n f) t) i) (eqb i n) refl
  where
    by : (i < n → T (f i)) → (b : Bool) → eqb i n ≡ b → T (f i)
    by before true e = rw (eqb-true i n e) (and_left (f n) (every_below n f) t)
    by before false e = before (omega (arith, eqb-false i n e))
