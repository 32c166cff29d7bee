-- The lengths of the lists that the steps over rows are made of, and a list reversed twice.
use mathlib.Core.Path.{◌≡◌, refl, sym, ◌∙◌, ap}
use mathlib.Core.List.{List, [], ◌∷◌, ◌++◌}
use Prim.Native.Nat.{ℕ, zero, suc, ◌+◌}
use native.Mathlib.Omega.{arith}
use native.Mathlib.Nat.{suc_inj}
use lib.ListN.{length, take, drop, length-drop}
use lib.Seq.{length-take-le}
use lib.IntN.{ℤ, ◌+ℤ◌}
use Rattle.integers.specs.Floor.{round}
use Rattle.integers.specs.Vectors.{scalar_mul, plus, mul_vec, Rows}
use Rattle.integers.proofs.PlaceLaws.{length-tab}
use Rattle.integers.proofs.Products.{length-scale, length-plus, length-mul_vec}
use Rattle.integers.proofs.Lifts.{length-lift}
use Rattle.steps.specs.Places.{tab}
use Rattle.steps.specs.RowForm.{onto, rev, times, negated_row, alt, evens, odds, weave, lift}

abbrev pub Len : ℕ → List ℤ → Type 0
Len n xs = length xs ≡ n

pub len-lift : {n : ℕ} (k : ℕ) (y a : List ℤ) → Len n y → Len n a → Len n (lift k y a)
len-lift k y a h l = length-lift (λ y a. y +ℤ round k a) y a (h ∙ sym l) ∙ h

pub len-scale : {n : ℕ} (c : ℤ) (xs : List ℤ) → Len n xs → Len n (scalar_mul c xs)
len-scale c xs h = length-scale c xs ∙ h

pub len-plus : {n : ℕ} (xs ys : List ℤ) → Len n xs → Len n ys → Len n (plus xs ys)
len-plus xs ys h l = length-plus xs ys (h ∙ sym l) ∙ h

pub len-mul : {n : ℕ} (A : List (List ℤ)) (x : List ℤ) → length A ≡ n → Len n (mul_vec A x)
len-mul A x h = length-mul_vec A x ∙ h

-- ---- reversed
len-onto : (xs acc : List ℤ) → length (onto xs acc) ≡ length xs + length acc
unfolding onto
len-onto [] acc = omega arith
len-onto (x ∷ xs) acc = omega (arith, len-onto xs (x ∷ acc))

pub len-rev : {n : ℕ} (xs : List ℤ) → Len n xs → Len n (rev xs)
unfolding rev
len-rev xs h = omega (arith, len-onto xs [])

nil-right : (xs : List ℤ) → xs ++ [] ≡ xs
nil-right [] = refl
nil-right (x ∷ xs) = ap (λ l. x ∷ l) (nil-right xs)

onto-onto : (xs acc bs : List ℤ) → onto (onto xs acc) bs ≡ onto acc (xs ++ bs)
unfolding onto
onto-onto [] acc bs = refl
onto-onto (x ∷ xs) acc bs = onto-onto xs (x ∷ acc) bs

pub rev-rev : (xs : List ℤ) → rev (rev xs) ≡ xs
unfolding rev onto
rev-rev xs = onto-onto xs [] [] ∙ nil-right xs

-- ---- entry by entry
pub len-times : {n : ℕ} (xs ys : List ℤ) → Len n xs → Len n ys → Len n (times xs ys)
unfolding times
len-times [] ys h l = h
len-times (x ∷ xs) [] h l = l
len-times {n = zero} (x ∷ xs) (y ∷ ys) h l = let z : ⊥ = omega arith in absurd z
len-times {n = suc n} (x ∷ xs) (y ∷ ys) h l = ap suc (len-times xs ys (suc_inj h) (suc_inj l))

-- ---- signs
same-alt : (xs : List ℤ) → length (alt xs) ≡ length xs
unfolding alt
same-alt [] = refl
same-alt (x ∷ []) = refl
same-alt (x ∷ y ∷ xs) = ap (λ k. suc (suc k)) (same-alt xs)

pub len-alt : {n : ℕ} (xs : List ℤ) → Len n xs → Len n (alt xs)
len-alt xs h = same-alt xs ∙ h

same-negative : (xs : List ℤ) → length (negated_row xs) ≡ length xs
unfolding negated_row
same-negative [] = refl
same-negative (x ∷ xs) = ap suc (same-negative xs)

pub len-negative : {n : ℕ} (xs : List ℤ) → Len n xs → Len n (negated_row xs)
len-negative xs h = same-negative xs ∙ h

-- ---- even and odd places
parted : {n : ℕ} (xs : List ℤ) → length xs ≡ n + n → Len n (evens xs) × Len n (odds xs)
unfolding evens odds
parted {n} [] h = (omega arith, omega arith)
parted {n} (x ∷ []) h = let z : ⊥ = omega arith in absurd z
parted {n = zero} (x ∷ y ∷ xs) h = let z : ⊥ = omega arith in absurd z
parted {n = suc n} (x ∷ y ∷ xs) h = let p = parted {n = n} xs (omega arith) in (ap suc p.0, ap suc p.1)

pub len-evens : {n : ℕ} (xs : List ℤ) → length xs ≡ n + n → Len n (evens xs)
len-evens xs h = (parted xs h).0

pub len-odds : {n : ℕ} (xs : List ℤ) → length xs ≡ n + n → Len n (odds xs)
len-odds xs h = (parted xs h).1

pub len-weave : {n : ℕ} (xs ys : List ℤ) → Len n xs → Len n ys → length (weave xs ys) ≡ n + n
unfolding weave
len-weave [] ys h l = omega arith
len-weave (x ∷ xs) [] h l = omega arith
len-weave {n = zero} (x ∷ xs) (y ∷ ys) h l = let z : ⊥ = omega arith in absurd z
len-weave {n = suc n} (x ∷ xs) (y ∷ ys) h l = omega (arith, len-weave {n = n} xs ys (suc_inj h) (suc_inj l))

-- ---- two halves
pub len_take : {n : ℕ} (xs : List ℤ) → length xs ≡ n + n → Len n (take n xs)
len_take {n} xs h = length-take-le n xs (omega arith)

pub len-drop : {n : ℕ} (xs : List ℤ) → length xs ≡ n + n → Len n (drop n xs)
len-drop {n} xs h = omega (arith, length-drop n xs)

-- ---- a table of rows
pub rows-tab : (f : ℕ → ℕ → ℤ) (n m i : ℕ) → Rows n (tab (λ j. tab (f j) n 0) m i)
unfolding tab
rows-tab f n zero i = tt
rows-tab f n (suc m) i = (length-tab (f i) n 0, rows-tab f n m (suc i))
