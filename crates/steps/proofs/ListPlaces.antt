-- What stands at a place of a list that the steps over rows are made of.
use mathlib.Core.Path.{◌≡◌, refl, sym, ◌∙◌, ap}
use mathlib.Core.Bool.{Bool, true, false, cond}
use mathlib.Core.List.{List, [], ◌∷◌, ◌++◌}
use Prim.Native.Nat.{ℕ, zero, suc, ◌+◌, ◌-◌, ◌*◌, ◌%◌, ◌<◌}
use native.Mathlib.Omega.{arith}
use native.Mathlib.Nat.{add-suc, suc-add, zero-add}
use borrow.Author.Tests.{ltb-true, ltb-false}
use lib.Dec.{eqb, ltb}
use lib.ListN.{length, get_or-append}
use lib.Seq.{get_or-append-add}
use lib.IntN.{ℤ, pos, neg_ℤ, ◌+ℤ◌, ◌*ℤ◌, zero-*ℤ, *ℤ-zero}
use Rattle.integers.specs.Floor.{round}
use Rattle.integers.specs.Vectors.{dot, mul_vec}
use Rattle.integers.proofs.PlaceLaws.{at-tab, row-sum}
use Rattle.integers.proofs.Products.{get_d-mul_vec}
use Rattle.integers.proofs.Lifts.{get_d-lift}
use Rattle.tables.specs.Angles.{signed}
use Rattle.steps.specs.Places.{tab, places, at, sum}
use Rattle.steps.specs.Steps.{alternate}
use Rattle.steps.specs.RowForm.{onto, rev, times, negated_row, alt, evens, odds, lift}
use Rattle.steps.proofs.Lists.{Len}

-- ---- two lists one behind the other
pub at-append : (xs ys : List ℤ) (n j : ℕ) → length xs ≡ n → at (xs ++ ys) j ≡ cond (ltb j n) (at xs j) (at ys (j - n))
at-append xs ys n j l = by (ltb j n) refl
  where
    by : (b : Bool) → ltb j n ≡ b → at (xs ++ ys) j ≡ cond b (at xs j) (at ys (j - n))
    by true e = get_or-append xs ys (pos 0) j (omega (arith, ltb-true j n e))
    by false e =
        let i : j ≡ length xs + (j - n) = omega (arith, ltb-false j n e) in
        ap (at (xs ++ ys)) i ∙ get_or-append-add xs ys (j - n) (pos 0)

-- ---- reversed
at-onto-past : (xs acc : List ℤ) (j : ℕ) → at (onto xs acc) (length xs + j) ≡ at acc j
unfolding onto
at-onto-past [] acc j = ap (at acc) (zero-add j)
at-onto-past (x ∷ xs) acc j = ap (at (onto xs (x ∷ acc))) (suc-add (length xs) j ∙ sym (add-suc (length xs) j)) ∙ at-onto-past xs (x ∷ acc) (suc j)

at-onto : (xs acc : List ℤ) (i : ℕ) → i < length xs → at (onto xs acc) i ≡ at xs (length xs - 1 - i)
unfolding onto
at-onto [] acc i h = let z : ⊥ = omega arith in absurd z
at-onto (x ∷ xs) acc i h = by (at-onto xs (x ∷ acc) i) (ltb i (length xs)) refl
  where
    by : (i < length xs → at (onto xs (x ∷ acc)) i ≡ at xs (length xs - 1 - i)) → (b : Bool) → ltb i (length xs) ≡ b → at (onto xs (x ∷ acc)) i ≡ at (x ∷ xs) (suc (length xs) - 1 - i)
    by ih true e =
        let l = ltb-true i (length xs) e in
        let j : suc (length xs) - 1 - i ≡ suc (length xs - 1 - i) = omega arith in
        ih l ∙ sym (ap (at (x ∷ xs)) j)
    by ih false e =
        let l = ltb-false i (length xs) e in
        let j : suc (length xs) - 1 - i ≡ 0 = omega arith in
        let k : i ≡ length xs + 0 = omega arith in
        ap (at (onto xs (x ∷ acc))) k ∙ at-onto-past xs (x ∷ acc) 0 ∙ sym (ap (at (x ∷ xs)) j)

pub at-rev : (n : ℕ) (xs : List ℤ) (i : ℕ) → length xs ≡ n → i < n → at (rev xs) i ≡ at xs (n - 1 - i)
unfolding rev
at-rev n xs i l h = at-onto xs [] i (omega arith) ∙ ap (λ k. at xs (k - 1 - i)) l

pub at-rev-back : (n : ℕ) (xs : List ℤ) (i : ℕ) → length xs ≡ n → i < n → at (rev xs) (n - 1 - i) ≡ at xs i
at-rev-back n xs i l h = let e : n - 1 - (n - 1 - i) ≡ i = omega arith in at-rev n xs (n - 1 - i) l (omega arith) ∙ ap (at xs) e

-- ---- entry by entry
pub at-times : (xs ys : List ℤ) (i : ℕ) → at (times xs ys) i ≡ at xs i *ℤ at ys i
unfolding times
at-times [] ys i = sym (zero-*ℤ (at ys i))
at-times (x ∷ xs) [] i = sym (*ℤ-zero (at (x ∷ xs) i))
at-times (x ∷ xs) (y ∷ ys) zero = refl
at-times (x ∷ xs) (y ∷ ys) (suc i) = at-times xs ys i

pub at-negative : (xs : List ℤ) (i : ℕ) → at (negated_row xs) i ≡ neg_ℤ (at xs i)
unfolding negated_row
at-negative [] i = refl
at-negative (x ∷ xs) zero = refl
at-negative (x ∷ xs) (suc i) = at-negative xs i

pub at-lift : (k n : ℕ) (y a : List ℤ) (i : ℕ) → Len n y → Len n a → i < n → at (lift k y a) i ≡ at y i +ℤ round k (at a i)
at-lift k n y a i h l z = get_d-lift (λ y a. y +ℤ round k a) y a i (h ∙ sym l) (omega arith)

-- ---- signs
none-alternate : (i : ℕ) → alternate i (pos 0) ≡ pos 0
unfolding alternate signed
none-alternate i = by (eqb (i % 2) 1)
  where
    by : (b : Bool) → signed b (pos 0) ≡ pos 0
    by true = refl
    by false = refl

next-alternate : (i : ℕ) (z : ℤ) → alternate (suc (suc i)) z ≡ alternate i z
unfolding alternate
next-alternate i z = let e : suc (suc i) % 2 ≡ i % 2 = omega arith in ap (λ r. signed (eqb r 1) z) e

pub at-alt : (xs : List ℤ) (i : ℕ) → at (alt xs) i ≡ alternate i (at xs i)
unfolding alt alternate signed
at-alt [] i = sym (none-alternate i)
at-alt (x ∷ []) zero = refl
at-alt (x ∷ []) (suc i) = sym (none-alternate (suc i))
at-alt (x ∷ y ∷ xs) zero = refl
at-alt (x ∷ y ∷ xs) (suc zero) = refl
at-alt (x ∷ y ∷ xs) (suc (suc i)) = at-alt xs i ∙ sym (next-alternate i (at xs i))

-- ---- even and odd places
pub at-evens : (xs : List ℤ) (i : ℕ) → at (evens xs) i ≡ at xs (2 * i)
unfolding evens
at-evens [] i = refl
at-evens (x ∷ []) zero = refl
at-evens (x ∷ []) (suc i) = let e : 2 * suc i ≡ suc (suc (2 * i)) = omega arith in sym (ap (at (x ∷ [])) e)
at-evens (x ∷ y ∷ xs) zero = refl
at-evens (x ∷ y ∷ xs) (suc i) = let e : 2 * suc i ≡ suc (suc (2 * i)) = omega arith in at-evens xs i ∙ sym (ap (at (x ∷ y ∷ xs)) e)

pub at-odds : (xs : List ℤ) (i : ℕ) → at (odds xs) i ≡ at xs (2 * i + 1)
unfolding odds
at-odds [] i = refl
at-odds (x ∷ []) i = let e : 2 * i + 1 ≡ suc (2 * i) = omega arith in sym (ap (at (x ∷ [])) e)
at-odds (x ∷ y ∷ xs) zero = refl
at-odds (x ∷ y ∷ xs) (suc i) = let e : 2 * suc i + 1 ≡ suc (suc (2 * i + 1)) = omega arith in at-odds xs i ∙ sym (ap (at (x ∷ y ∷ xs)) e)

-- ---- a matrix by its places
pub at_mul : (c : ℕ → ℕ → ℤ) (n : ℕ) (x : List ℤ) (m : ℕ) → m < n → at (mul_vec (tab (λ m. places n (c m)) n 0) x) m ≡ sum n (λ k. c m k *ℤ at x k)
at_mul c n x m h =
    get_d-mul_vec (tab (λ m. places n (c m)) n 0) x m
    ∙ ap (λ r. dot r x) (at-tab (λ m. places n (c m)) n 0 m [] h ∙ ap (λ m. places n (c m)) (zero-add m))
    ∙ row-sum n (c m) x
