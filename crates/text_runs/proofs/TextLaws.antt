-- The texts that are printed, in the parts that the code puts one behind the other.
use mathlib.Core.Path.{◌≡◌, refl, ap, subst, ◌∙◌}
use mathlib.Core.Bool.{true, false}
use mathlib.Core.List.{List, [], ◌∷◌, ◌++◌}
use Prim.Native.Nat.{ℕ, suc, ◌<◌}
use native.Mathlib.Omega.{arith}
use borrow.Author.Tests.{ltb-true}
use lib.Dec.{T}
use lib.IntN.{ℤ, pos, negsuc, nat_abs}
use lib.ListN.{length, drop, get_or}
use lib.Seq.{drop-cons, drop-length}
use lib.Signed.{lt_z}
use Rattle.text_runs.specs.Decimal.{decimal, printed}
use Rattle.text_runs.specs.Lines.{comma, refused_tag, end_tag, behind_commas, row, end_line, refusal}

-- ---- a number
pub printed-below : (x : ℤ) → lt_z x (pos 0) ≡ true → (45 ∷ []) ++ decimal (nat_abs x) ≡ printed x
unfolding printed
printed-below (pos n) e = absurd (omega (arith, ltb-true n 0 e))
printed-below (negsuc n) e = refl

pub printed-from : (x : ℤ) → lt_z x (pos 0) ≡ false → decimal (nat_abs x) ≡ printed x
unfolding printed
printed-from (pos n) e = refl
printed-from (negsuc n) e = absurd (subst T e tt)

-- ---- a row
pub row-none : (xs : List ℤ) → length xs ≡ 0 → [] ≡ row xs
unfolding row
row-none [] h = refl
row-none (x ∷ xs) h = absurd (omega arith)

pub row_first : (xs : List ℤ) → 0 < length xs → printed (get_or xs 0 (pos 0)) ++ behind_commas (drop 1 xs) ≡ row xs
unfolding row
row_first [] h = absurd (omega arith)
row_first (x ∷ xs) h = refl

pub commas-next : (xs : List ℤ) (i : ℕ) → i < length xs → behind_commas (drop i xs) ≡ (comma ∷ []) ++ printed (get_or xs i (pos 0)) ++ behind_commas (drop (suc i) xs)
unfolding behind_commas
commas-next xs i h = ap behind_commas (drop-cons xs i (pos 0) h)

pub commas-none : (xs : List ℤ) (i : ℕ) → i ≡ length xs → behind_commas (drop i xs) ≡ []
unfolding behind_commas
commas-none xs i h = ap (λ (n : ℕ). behind_commas (drop n xs)) h ∙ ap behind_commas (drop-length xs)

-- ---- the tags
pub end_is : (count : ℕ) (total : ℤ) → (101 ∷ 110 ∷ 100 ∷ 44 ∷ []) ++ (decimal count ++ ((44 ∷ []) ++ printed total)) ≡ end_line count total
unfolding end_line end_tag
end_is count total = refl

pub refusal_is : (number line place : ℕ)
    → (114 ∷ 101 ∷ 102 ∷ 117 ∷ 115 ∷ 101 ∷ 100 ∷ 44 ∷ []) ++ (decimal number ++ ((44 ∷ []) ++ (decimal line ++ ((44 ∷ []) ++ decimal place)))) ≡ refusal number line place
unfolding refusal refused_tag
refusal_is number line place = refl
