-- A matrix read by its columns, and two products that the checker computes faster: the same lists.
use mathlib.Core.Path.{◌≡◌, refl, sym, ◌∙◌, ap}
use mathlib.Core.List.{List, [], ◌∷◌}
use Prim.Native.Nat.{ℕ, zero, suc, ◌+◌, ◌*◌}
use native.Mathlib.Omega.{arith}
use native.Mathlib.Nat.{suc_inj}
use lib.ListN.{length, replicate, length-replicate}
use lib.IntN.{ℤ, pos, negsuc, neg_ℤ, sub_ℕ, ◌+ℤ◌, ◌*ℤ◌, +ℤ_idr, +ℤ_assoc, *ℤ_comm}
use Rattle.integers.specs.Vectors.{dot, scalar_mul, plus, mul_vec, vec_mul, Rows}
use Rattle.integers.proofs.Differences.{◌⊖◌, dif, zs, sub⊖}
use Rattle.integers.proofs.Ring.{ring}
use Rattle.integers.proofs.Products.{dot-mul_vec, length-vec_mul}
use Rattle.steps.proofs.Lists.{Len, len-mul}
use Rattle.distance.proofs.Transposed.{zeros}

-- ---- the columns of a list of rows
unfoldable pub cons_each : List ℤ → List (List ℤ) → List (List ℤ)
cons_each [] C = []
cons_each (x ∷ xs) [] = []
cons_each (x ∷ xs) (c ∷ C) = (x ∷ c) ∷ cons_each xs C

unfoldable pub cols : ℕ → List (List ℤ) → List (List ℤ)
unfolding cons_each
cols n [] = replicate n []
cols n (r ∷ A) = cons_each r (cols n A)

len-cons : (r : List ℤ) (C : List (List ℤ)) → length r ≡ length C → length (cons_each r C) ≡ length r
unfolding cons_each
len-cons [] C h = refl
len-cons (x ∷ xs) [] h = sym h
len-cons (x ∷ xs) (c ∷ C) h = ap suc (len-cons xs C (suc_inj h))

pub len-cols : (n : ℕ) (A : List (List ℤ)) → Rows n A → length (cols n A) ≡ n
unfolding cols
len-cols n [] h = length-replicate n []
len-cols n (r ∷ A) h = len-cons r (cols n A) (h.0 ∙ sym (len-cols n A h.1)) ∙ h.0

mul-cons : (r : List ℤ) (C : List (List ℤ)) (g : ℤ) (gs : List ℤ) → mul_vec (cons_each r C) (g ∷ gs) ≡ plus (scalar_mul g r) (mul_vec C gs)
unfolding cons_each
mul-cons [] C g gs = refl
mul-cons (x ∷ xs) [] g gs = refl
mul-cons (x ∷ xs) (c ∷ C) g gs = rw (mul-cons xs C g gs, *ℤ_comm x g)

mul-empty : (n : ℕ) (g : List ℤ) → mul_vec (replicate n []) g ≡ zeros n
mul-empty zero g = refl
mul-empty (suc n) g = ap (λ l. pos 0 ∷ l) (mul-empty n g)

vec_mul-cols : (n : ℕ) (g : List ℤ) (A : List (List ℤ)) → length g ≡ length A → vec_mul n g A ≡ mul_vec (cols n A) g
unfolding cols
vec_mul-cols n [] [] h = sym (mul-empty n [])
vec_mul-cols n [] (r ∷ A) h = let z : ⊥ = omega arith in absurd z
vec_mul-cols n (g ∷ gs) [] h = let z : ⊥ = omega arith in absurd z
vec_mul-cols n (g ∷ gs) (r ∷ A) h = ap (λ l. plus (scalar_mul g r) l) (vec_mul-cols n gs A (suc_inj h)) ∙ sym (mul-cons r (cols n A) g gs)

-- transposition of a dense matrix: no product of two matrices is ever made
pub dot-cols : (n : ℕ) (g : List ℤ) (A : List (List ℤ)) (x : List ℤ) → Rows n A → length g ≡ length A → dot g (mul_vec A x) ≡ dot (mul_vec (cols n A) g) x
dot-cols n g A x h l = dot-mul_vec n g A x h ∙ ap (λ r. dot r x) (vec_mul-cols n g A l)

-- ---- the positive products and the others summed apart, and one difference at the end
unfoldable pub dot_parts : List ℤ → List ℤ → ℕ → ℕ → ℤ
dot_parts [] ys p n = sub_ℕ p n
dot_parts (x ∷ xs) [] p n = sub_ℕ p n
dot_parts (pos a ∷ xs) (pos b ∷ ys) p n = dot_parts xs ys (p + a * b) n
dot_parts (pos a ∷ xs) (negsuc b ∷ ys) p n = dot_parts xs ys p (n + a * suc b)
dot_parts (negsuc a ∷ xs) (pos b ∷ ys) p n = dot_parts xs ys p (n + suc a * b)
dot_parts (negsuc a ∷ xs) (negsuc b ∷ ys) p n = dot_parts xs ys (p + suc a * suc b) n

ends-here : (p n : ℕ) → sub_ℕ p n ≡ (p ⊖ n) +ℤ pos 0
ends-here p n = sub⊖ p n ∙ sym (+ℤ_idr (p ⊖ n))

step-p : (p n m : ℕ) (d : ℤ) → ((p + m) ⊖ n) +ℤ d ≡ (p ⊖ n) +ℤ (pos m +ℤ d)
step-p p n m d = ap (λ t. t +ℤ d) (more p n m) ∙ +ℤ_assoc (p ⊖ n) (pos m) d
  where
    more : (p n m : ℕ) → (p + m) ⊖ n ≡ (p ⊖ n) +ℤ pos m
    more p n m = simp zs (omega arith)

step-n : (p n m : ℕ) (d : ℤ) → (p ⊖ (n + m)) +ℤ d ≡ (p ⊖ n) +ℤ (neg_ℤ (pos m) +ℤ d)
step-n p n m d = ap (λ t. t +ℤ d) (less p n m) ∙ +ℤ_assoc (p ⊖ n) (neg_ℤ (pos m)) d
  where
    less : (p n m : ℕ) → p ⊖ (n + m) ≡ (p ⊖ n) +ℤ neg_ℤ (pos m)
    less p n m = simp zs (omega arith)

dot_parts-is : (xs ys : List ℤ) (p n : ℕ) → dot_parts xs ys p n ≡ (p ⊖ n) +ℤ dot xs ys
unfolding dot_parts
dot_parts-is [] ys p n = ends-here p n
dot_parts-is (x ∷ xs) [] p n = ends-here p n
dot_parts-is (pos a ∷ xs) (pos b ∷ ys) p n = dot_parts-is xs ys (p + a * b) n ∙ step-p p n (a * b) (dot xs ys)
dot_parts-is (pos a ∷ xs) (negsuc b ∷ ys) p n = dot_parts-is xs ys p (n + a * suc b) ∙ step-n p n (a * suc b) (dot xs ys)
dot_parts-is (negsuc a ∷ xs) (pos b ∷ ys) p n = dot_parts-is xs ys p (n + suc a * b) ∙ step-n p n (suc a * b) (dot xs ys)
dot_parts-is (negsuc a ∷ xs) (negsuc b ∷ ys) p n = dot_parts-is xs ys (p + suc a * suc b) n ∙ step-p p n (suc a * suc b) (dot xs ys)

none_yet : (d : ℤ) → (0 ⊖ 0) +ℤ d ≡ d
none_yet d = rw (dif d) (simp zs (omega arith))

unfoldable pub mul_parts : List (List ℤ) → List ℤ → List ℤ
unfolding dot_parts
mul_parts [] x = []
mul_parts (r ∷ A) x = dot_parts r x 0 0 ∷ mul_parts A x

pub mul_parts-is : (A : List (List ℤ)) (x : List ℤ) → mul_parts A x ≡ mul_vec A x
unfolding mul_parts
mul_parts-is [] x = refl
mul_parts-is (r ∷ A) x = rw (dot_parts-is r x 0 0, none_yet (dot r x), mul_parts-is A x)

-- a row times a matrix where most of the row is 0
unfoldable pub mul_sparse : ℕ → List ℤ → List (List ℤ) → List ℤ
mul_sparse n [] A = zeros n
mul_sparse n (g ∷ gs) [] = zeros n
mul_sparse n (pos zero ∷ gs) (r ∷ A) = mul_sparse n gs A
mul_sparse n (pos (suc m) ∷ gs) (r ∷ A) = plus (scalar_mul (pos (suc m)) r) (mul_sparse n gs A)
mul_sparse n (negsuc m ∷ gs) (r ∷ A) = plus (scalar_mul (negsuc m) r) (mul_sparse n gs A)

skipped : (x y : ℤ) → y ≡ pos 0 *ℤ x +ℤ y
skipped x y = simp ring

plus_none : (r v : List ℤ) → length r ≡ length v → v ≡ plus (scalar_mul (pos 0) r) v
plus_none [] [] h = refl
plus_none [] (y ∷ v) h = let z : ⊥ = omega arith in absurd z
plus_none (x ∷ r) [] h = let z : ⊥ = omega arith in absurd z
plus_none (x ∷ r) (y ∷ v) h = ap (λ l. y ∷ l) (plus_none r v (suc_inj h)) ∙ ap (λ z. z ∷ plus (scalar_mul (pos 0) r) v) (skipped x y)

pub mul_sparse-is : (n : ℕ) (g : List ℤ) (A : List (List ℤ)) → Rows n A → mul_sparse n g A ≡ vec_mul n g A
unfolding mul_sparse
mul_sparse-is n [] A h = refl
mul_sparse-is n (g ∷ gs) [] h = refl
mul_sparse-is n (pos zero ∷ gs) (r ∷ A) h = mul_sparse-is n gs A h.1 ∙ plus_none r (vec_mul n gs A) (h.0 ∙ sym (length-vec_mul n gs A h.1))
mul_sparse-is n (pos (suc m) ∷ gs) (r ∷ A) h = ap (λ l. plus (scalar_mul (pos (suc m)) r) l) (mul_sparse-is n gs A h.1)
mul_sparse-is n (negsuc m ∷ gs) (r ∷ A) h = ap (λ l. plus (scalar_mul (negsuc m) r) l) (mul_sparse-is n gs A h.1)

pub len-sparse : (n : ℕ) (g : List ℤ) (A : List (List ℤ)) → Rows n A → Len n (mul_sparse n g A)
len-sparse n g A h = ap length (mul_sparse-is n g A h) ∙ length-vec_mul n g A h

pub dot-sparse : (n : ℕ) (g : List ℤ) (A : List (List ℤ)) (x : List ℤ) → Rows n A → dot g (mul_vec A x) ≡ dot (mul_sparse n g A) x
dot-sparse n g A x h = dot-mul_vec n g A x h ∙ ap (λ r. dot r x) (sym (mul_sparse-is n g A h))

pub len-parts : {n : ℕ} (A : List (List ℤ)) (x : List ℤ) → length A ≡ n → Len n (mul_parts A x)
len-parts A x h = ap length (mul_parts-is A x) ∙ len-mul A x h

pub dot-parts : (n : ℕ) (g : List ℤ) (A : List (List ℤ)) (x : List ℤ) → Rows n A → length g ≡ length A → dot g (mul_vec A x) ≡ dot (mul_parts (cols n A) g) x
dot-parts n g A x h l = dot-cols n g A x h l ∙ ap (λ r. dot r x) (sym (mul_parts-is (cols n A) g))
