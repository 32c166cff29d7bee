-- The sum of a list of whole numbers, and of a list of such lists; and when two numbers are the same.
use mathlib.Core.Path.{◌≡◌, refl, sym, ap, ◌∙◌}
use mathlib.Core.Bool.{Bool, true, false, true≢false}
use mathlib.Core.List.{List, [], ◌∷◌, ◌++◌}
use Prim.Native.Nat.{ℕ, zero, suc, ◌+◌, ◌*◌, ◌≤◌}
use native.Mathlib.Numerals.{add-one}
use native.Mathlib.Omega.{arith}
use borrow.Author.Tests.{eqb-true, eq-eqb}
use lib.IntN.{ℤ, pos, negsuc, nat_abs, ◌+ℤ◌, +ℤ_assoc, +ℤ_comm, +ℤ_idl, +ℤ_idr}
use lib.ListN.{length, take, replicate}
use Rattle.integers.specs.Places.{at}
-- what is computed comes before what is proved: a wrong definition fails first at a sample
use Rattle.integers.specs.Samples as Samples
use Rattle.integers.specs.Vectors.{sum_of, total_of, alike, Rows, AllAbs}
use Rattle.integers.proofs.Order.{nat_abs-+ℤ-le}

-- ---- a sum
pub sum-none : (x : ℤ) → x +ℤ sum_of [] ≡ x
unfolding sum_of
sum-none x = +ℤ_idr x

pub sum-append : (xs ys : List ℤ) → sum_of (xs ++ ys) ≡ sum_of xs +ℤ sum_of ys
unfolding sum_of
sum-append [] ys = sym (+ℤ_idl (sum_of ys))
sum-append (x ∷ xs) ys = ap (λ (t : ℤ). x +ℤ t) (sum-append xs ys) ∙ sym (+ℤ_assoc x (sum_of xs) (sum_of ys))

pub sum_zeros : (n : ℕ) → sum_of (replicate n (pos 0)) ≡ pos 0
unfolding sum_of
sum_zeros zero = refl
sum_zeros (suc n) = +ℤ_idl (sum_of (replicate n (pos 0))) ∙ sum_zeros n

-- one more number, for a loop (past the end of a list it is 0)
sum-suc : (i : ℕ) (xs : List ℤ) → sum_of (take (suc i) xs) ≡ sum_of (take i xs) +ℤ at xs i
unfolding sum_of
sum-suc zero [] = refl
sum-suc zero (x ∷ xs) = +ℤ_comm x (pos 0)
sum-suc (suc i) [] = refl
sum-suc (suc i) (x ∷ xs) = ap (λ (t : ℤ). x +ℤ t) (sum-suc i xs) ∙ sym (+ℤ_assoc x (sum_of (take i xs)) (at xs i))

pub sum-taken : (i : ℕ) (xs : List ℤ) → sum_of (take (i + 1) xs) ≡ sum_of (take i xs) +ℤ at xs i
sum-taken i xs = rw add-one (sum-suc i xs)

pub sum-within : (B : ℕ) (xs : List ℤ) → AllAbs B xs → nat_abs (sum_of xs) ≤ length xs * B
unfolding sum_of
sum-within B [] h = omega arith
sum-within B (x ∷ xs) h = omega (arith, nat_abs-+ℤ-le x (sum_of xs) h.0 (sum-within B xs h.1))

-- ---- the sum of lists
pub total-append : (rows more : List (List ℤ)) → total_of (rows ++ more) ≡ total_of rows +ℤ total_of more
unfolding total_of
total-append [] more = sym (+ℤ_idl (total_of more))
total-append (xs ∷ rows) more = ap (λ (t : ℤ). sum_of xs +ℤ t) (total-append rows more) ∙ sym (+ℤ_assoc (sum_of xs) (total_of rows) (total_of more))

pub total-last : (rows : List (List ℤ)) (xs : List ℤ) → total_of (rows ++ xs ∷ []) ≡ total_of rows +ℤ sum_of xs
unfolding total_of
total-last rows xs = total-append rows (xs ∷ []) ∙ ap (λ (t : ℤ). total_of rows +ℤ t) (+ℤ_idr (sum_of xs))

-- each number of each row is at most B in size
abbrev pub AllRows : ℕ → List (List ℤ) → Type 0
AllRows B [] = Unit {0}
AllRows B (xs ∷ rows) = AllAbs B xs × AllRows B rows

pub total-within : (n B : ℕ) (rows : List (List ℤ)) → Rows n rows → AllRows B rows → nat_abs (total_of rows) ≤ length rows * (n * B)
unfolding total_of
total-within n B [] r h = omega arith
total-within n B (xs ∷ rows) r h =
    let s : nat_abs (sum_of xs) ≤ n * B = rw r.0 at (sum-within B xs h.0) in
    omega (arith, nat_abs-+ℤ-le (sum_of xs) (total_of rows) s (total-within n B rows r.1 h.1))

-- ---- the same number
pub alike_same : (x y : ℤ) → alike x y ≡ true → x ≡ y
unfolding alike
alike_same (pos m) (pos n) e = ap pos (eqb-true m n e)
alike_same (pos m) (negsuc n) e = absurd (true≢false (sym e))
alike_same (negsuc m) (pos n) e = absurd (true≢false (sym e))
alike_same (negsuc m) (negsuc n) e = ap negsuc (eqb-true m n e)

pub alike_refl : (x : ℤ) → alike x x ≡ true
unfolding alike
alike_refl (pos n) = eq-eqb n n refl
alike_refl (negsuc n) = eq-eqb n n refl

pub alike-other : (x y : ℤ) → (x ≡ y → ⊥) → alike x y ≡ false
alike-other x y other = by (alike x y) refl
  where
    by : (t : Bool) → alike x y ≡ t → t ≡ false
    by true e = absurd (other (alike_same x y e))
    by false e = refl
