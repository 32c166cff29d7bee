-- The inner product of lists of whole numbers: linear in both arguments, transposed by a matrix, bounded by sizes, one more term at a time.
use mathlib.Core.Path.{◌≡◌, refl, sym, ◌∙◌, ap}
use mathlib.Core.List.{List, [], ◌∷◌, ◌++◌}
use Prim.Native.Nat.{ℕ, zero, suc, ◌+◌, ◌*◌, ◌-◌, ◌≤◌, ◌<◌}
use native.Mathlib.Omega.{arith}
use native.Mathlib.Nat.{suc_inj, le_refl, le_of_suc-le-suc}
use lib.ListN.{length, take, get_or, set, replicate, length-replicate, length-map}
use lib.IntN.{ℤ, pos, nat_abs, ◌+ℤ◌, ◌-ℤ◌, ◌*ℤ◌, +ℤ_assoc, +ℤ_comm, +ℤ_idl, *ℤ-zero, *ℤ_comm, zero-*ℤ}
use Rattle.integers.specs.Vectors.{dot, scalar_mul, plus, sum_abs, mul_vec, vec_mul, Rows, AllAbs}
use Rattle.integers.proofs.Ring.{ring}
use Rattle.integers.proofs.Order.{nat_abs-+ℤ, nat_abs-*ℤ, nat_abs-*ℤ-le}

-- ---- lengths
pub length-scale : (c : ℤ) (xs : List ℤ) → length (scalar_mul c xs) ≡ length xs
length-scale c [] = refl
length-scale c (x ∷ xs) = ap suc (length-scale c xs)

pub length-plus : (xs ys : List ℤ) → length xs ≡ length ys → length (plus xs ys) ≡ length xs
length-plus [] ys h = refl
length-plus (x ∷ xs) [] h = sym h
length-plus (x ∷ xs) (y ∷ ys) h = ap suc (length-plus xs ys (suc_inj h))

pub length-vec_mul : (n : ℕ) (g : List ℤ) (A : List (List ℤ)) → Rows n A → length (vec_mul n g A) ≡ n
length-vec_mul n [] A h = length-replicate n (pos 0)
length-vec_mul n (g ∷ gs) [] h = length-replicate n (pos 0)
length-vec_mul n (g ∷ gs) (r ∷ A) h = length-plus (scalar_mul g r) (vec_mul n gs A) (omega (arith, length-scale g r, length-vec_mul n gs A h.1)) ∙ length-scale g r ∙ h.0

-- ---- the scalar product
pub dot-nil : (xs : List ℤ) → dot xs [] ≡ pos 0
dot-nil [] = refl
dot-nil (x ∷ xs) = refl

pub dot-comm : (xs ys : List ℤ) → dot xs ys ≡ dot ys xs
dot-comm [] ys = sym (dot-nil ys)
dot-comm (x ∷ xs) [] = refl
dot-comm (x ∷ xs) (y ∷ ys) = rw (dot-comm xs ys, *ℤ_comm x y)

scaled : (c x y t : ℤ) → c *ℤ x *ℤ y +ℤ c *ℤ t ≡ c *ℤ (x *ℤ y +ℤ t)
scaled c x y t = simp ring

added : (x y z s t : ℤ) → (x +ℤ y) *ℤ z +ℤ (s +ℤ t) ≡ (x *ℤ z +ℤ s) +ℤ (y *ℤ z +ℤ t)
added x y z s t = simp ring

pub dot-scale : (c : ℤ) (xs ys : List ℤ) → dot (scalar_mul c xs) ys ≡ c *ℤ dot xs ys
dot-scale c [] ys = sym (*ℤ-zero c)
dot-scale c (x ∷ xs) [] = sym (*ℤ-zero c)
dot-scale c (x ∷ xs) (y ∷ ys) = ap (λ t. c *ℤ x *ℤ y +ℤ t) (dot-scale c xs ys) ∙ scaled c x y (dot xs ys)

pub dot-plus : (xs ys zs : List ℤ) → length xs ≡ length ys → dot (plus xs ys) zs ≡ dot xs zs +ℤ dot ys zs
dot-plus [] [] zs h = refl
dot-plus [] (y ∷ ys) zs h = let z : ⊥ = omega arith in absurd z
dot-plus (x ∷ xs) [] zs h = let z : ⊥ = omega arith in absurd z
dot-plus (x ∷ xs) (y ∷ ys) [] h = refl
dot-plus (x ∷ xs) (y ∷ ys) (z ∷ zs) h = ap (λ t. (x +ℤ y) *ℤ z +ℤ t) (dot-plus xs ys zs (suc_inj h)) ∙ added x y z (dot xs zs) (dot ys zs)

pub dot-plus-r : (xs ys zs : List ℤ) → length ys ≡ length zs → dot xs (plus ys zs) ≡ dot xs ys +ℤ dot xs zs
dot-plus-r xs ys zs h = dot-comm xs (plus ys zs) ∙ dot-plus ys zs xs h ∙ rw (dot-comm ys xs, dot-comm zs xs)

pub dot-zeros : (n : ℕ) (xs : List ℤ) → dot (replicate n (pos 0)) xs ≡ pos 0
dot-zeros zero xs = refl
dot-zeros (suc n) [] = refl
dot-zeros (suc n) (x ∷ xs) = rw (dot-zeros n xs, zero-*ℤ x)

pub dot-append : (xs ys xs' ys' : List ℤ) → length xs ≡ length ys → dot (xs ++ xs') (ys ++ ys') ≡ dot xs ys +ℤ dot xs' ys'
dot-append [] [] xs' ys' h = sym (+ℤ_idl (dot xs' ys'))
dot-append [] (y ∷ ys) xs' ys' h = let z : ⊥ = omega arith in absurd z
dot-append (x ∷ xs) [] xs' ys' h = let z : ⊥ = omega arith in absurd z
dot-append (x ∷ xs) (y ∷ ys) xs' ys' h = ap (λ t. x *ℤ y +ℤ t) (dot-append xs ys xs' ys' (suc_inj h)) ∙ sym (+ℤ_assoc (x *ℤ y) (dot xs ys) (dot xs' ys'))

none-l : (z : ℤ) → pos 0 ≡ pos 0 +ℤ pos 0 *ℤ z
none-l z = simp (zero-*ℤ)

none-r : (z : ℤ) → pos 0 ≡ pos 0 +ℤ z *ℤ pos 0
none-r z = simp (*ℤ-zero)

-- one more term, for a loop's invariant (past the end of a list the term is 0)
pub dot-take-suc-l : (n : ℕ) (xs ys : List ℤ) → dot (take (suc n) xs) ys ≡ dot (take n xs) ys +ℤ get_or xs n (pos 0) *ℤ get_or ys n (pos 0)
dot-take-suc-l zero [] ys = none-l (get_or ys 0 (pos 0))
dot-take-suc-l zero (x ∷ xs) [] = none-r x
dot-take-suc-l zero (x ∷ xs) (y ∷ ys) = +ℤ_comm (x *ℤ y) (pos 0)
dot-take-suc-l (suc n) [] ys = none-l (get_or ys (suc n) (pos 0))
dot-take-suc-l (suc n) (x ∷ xs) [] = none-r (get_or xs n (pos 0))
dot-take-suc-l (suc n) (x ∷ xs) (y ∷ ys) = ap (λ t. x *ℤ y +ℤ t) (dot-take-suc-l n xs ys) ∙ sym (+ℤ_assoc (x *ℤ y) (dot (take n xs) ys) (get_or xs n (pos 0) *ℤ get_or ys n (pos 0)))

-- the first list decides: the second may be cut to the same length or not
pub dot-take : (n : ℕ) (xs ys : List ℤ) → dot (take n xs) (take n ys) ≡ dot (take n xs) ys
dot-take zero xs ys = refl
dot-take (suc n) [] ys = refl
dot-take (suc n) (x ∷ xs) [] = refl
dot-take (suc n) (x ∷ xs) (y ∷ ys) = ap (λ t. x *ℤ y +ℤ t) (dot-take n xs ys)

-- ---- a row of the left and a column of the right
pub dot-mul_vec : (n : ℕ) (g : List ℤ) (A : List (List ℤ)) (x : List ℤ) → Rows n A → dot g (mul_vec A x) ≡ dot (vec_mul n g A) x
dot-mul_vec n [] A x h = sym (dot-zeros n x)
dot-mul_vec n (g ∷ gs) [] x h = sym (dot-zeros n x)
dot-mul_vec n (g ∷ gs) (r ∷ A) x h =
    rw (dot-plus (scalar_mul g r) (vec_mul n gs A) x (omega (arith, length-scale g r, length-vec_mul n gs A h.1)), dot-scale g r x, dot-mul_vec n gs A x h.1)

-- ---- bounds
pub nat_abs-dot : (g e : List ℤ) (B : ℕ) → AllAbs B e → nat_abs (dot g e) ≤ sum_abs g * B
nat_abs-dot [] e B h = omega arith
nat_abs-dot (g ∷ gs) [] B h = omega arith
nat_abs-dot (g ∷ gs) (e ∷ es) B h = omega (arith, nat_abs-+ℤ (g *ℤ e) (dot gs es), nat_abs-*ℤ-le g e (le_refl (nat_abs g)) h.0, nat_abs-dot gs es B h.1)

pub all_get_d : (B : ℕ) (e : List ℤ) → ((i : ℕ) → i < length e → nat_abs (get_or e i (pos 0)) ≤ B) → AllAbs B e
all_get_d B [] h = tt
all_get_d B (x ∷ xs) h = (h 0 (omega arith), all_get_d B xs (λ i l. h (suc i) (omega arith)))

pub get_d-all : (B : ℕ) (e : List ℤ) → AllAbs B e → (i : ℕ) → nat_abs (get_or e i (pos 0)) ≤ B
get_d-all B [] h i = omega arith
get_d-all B (x ∷ xs) h zero = h.0
get_d-all B (x ∷ xs) h (suc i) = get_d-all B xs h.1 i

pub all_set : (B : ℕ) (e : List ℤ) (i : ℕ) (v : ℤ) → AllAbs B e → nat_abs v ≤ B → AllAbs B (set e i v)
all_set B [] i v h k = tt
all_set B (x ∷ xs) zero v h k = (k, h.1)
all_set B (x ∷ xs) (suc i) v h k = (h.0, all_set B xs i v h.1 k)

pub all_append : (B : ℕ) (xs ys : List ℤ) → AllAbs B xs → AllAbs B ys → AllAbs B (xs ++ ys)
all_append B [] ys h k = k
all_append B (x ∷ xs) ys h k = (h.0, all_append B xs ys h.1 k)

pub all-mono : {B C : ℕ} (e : List ℤ) → B ≤ C → AllAbs B e → AllAbs C e
all-mono [] l h = tt
all-mono (x ∷ xs) l h = (omega arith, all-mono xs l h.1)

-- ---- Σ|x|
pub sum_abs-scale : (c : ℤ) (xs : List ℤ) → sum_abs (scalar_mul c xs) ≡ nat_abs c * sum_abs xs
sum_abs-scale c [] = omega arith
sum_abs-scale c (x ∷ xs) = omega (arith, nat_abs-*ℤ c x, sum_abs-scale c xs)

pub sum_abs-plus : (xs ys : List ℤ) → sum_abs (plus xs ys) ≤ sum_abs xs + sum_abs ys
sum_abs-plus [] ys = omega arith
sum_abs-plus (x ∷ xs) [] = omega arith
sum_abs-plus (x ∷ xs) (y ∷ ys) = omega (arith, nat_abs-+ℤ x y, sum_abs-plus xs ys)

pub sum_abs-append : (xs ys : List ℤ) → sum_abs (xs ++ ys) ≡ sum_abs xs + sum_abs ys
sum_abs-append [] ys = omega arith
sum_abs-append (x ∷ xs) ys = omega (arith, sum_abs-append xs ys)

pub sum_abs-take-suc : (n : ℕ) (xs : List ℤ) → sum_abs (take (suc n) xs) ≡ sum_abs (take n xs) + nat_abs (get_or xs n (pos 0))
sum_abs-take-suc zero [] = omega arith
sum_abs-take-suc zero (x ∷ xs) = omega arith
sum_abs-take-suc (suc n) [] = omega arith
sum_abs-take-suc (suc n) (x ∷ xs) = omega (arith, sum_abs-take-suc n xs)

-- ---- one entry changed: for a loop that writes in place
changed : (g v y t : ℤ) → g *ℤ v +ℤ t ≡ (g *ℤ y +ℤ t) +ℤ g *ℤ (v -ℤ y)
changed g v y t = simp ring

pub dot-set : (g y : List ℤ) (i : ℕ) (v : ℤ) → i < length y → dot g (set y i v) ≡ dot g y +ℤ get_or g i (pos 0) *ℤ (v -ℤ get_or y i (pos 0))
dot-set g [] i v h = let z : ⊥ = omega arith in absurd z
dot-set [] (y ∷ ys) i v h = none-l (v -ℤ get_or (y ∷ ys) i (pos 0))
dot-set (g ∷ gs) (y ∷ ys) zero v h = changed g v y (dot gs ys)
dot-set (g ∷ gs) (y ∷ ys) (suc i) v h =
    ap (λ t. g *ℤ y +ℤ t) (dot-set gs ys i v (le_of_suc-le-suc h)) ∙ sym (+ℤ_assoc (g *ℤ y) (dot gs ys) (get_or gs i (pos 0) *ℤ (v -ℤ get_or ys i (pos 0))))

-- ---- by index
pub length-mul_vec : (A : List (List ℤ)) (x : List ℤ) → length (mul_vec A x) ≡ length A
length-mul_vec A x = length-map A (λ r. dot r x)

pub get_d-mul_vec : (A : List (List ℤ)) (x : List ℤ) (i : ℕ) → get_or (mul_vec A x) i (pos 0) ≡ dot (get_or A i []) x
get_d-mul_vec [] x i = refl
get_d-mul_vec (r ∷ A) x zero = refl
get_d-mul_vec (r ∷ A) x (suc i) = get_d-mul_vec A x i

pub get_d-scale : (c : ℤ) (xs : List ℤ) (i : ℕ) → get_or (scalar_mul c xs) i (pos 0) ≡ c *ℤ get_or xs i (pos 0)
get_d-scale c [] i = sym (*ℤ-zero c)
get_d-scale c (x ∷ xs) zero = refl
get_d-scale c (x ∷ xs) (suc i) = get_d-scale c xs i

pub get_d-plus : (xs ys : List ℤ) (i : ℕ) → length xs ≡ length ys → get_or (plus xs ys) i (pos 0) ≡ get_or xs i (pos 0) +ℤ get_or ys i (pos 0)
get_d-plus [] [] i h = refl
get_d-plus [] (y ∷ ys) i h = let z : ⊥ = omega arith in absurd z
get_d-plus (x ∷ xs) [] i h = let z : ⊥ = omega arith in absurd z
get_d-plus (x ∷ xs) (y ∷ ys) zero h = refl
get_d-plus (x ∷ xs) (y ∷ ys) (suc i) h = get_d-plus xs ys i (suc_inj h)
