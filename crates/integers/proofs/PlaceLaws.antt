-- Laws of lists by their places, of sums over places, and of limits on every number.
use mathlib.Core.Path.{◌≡◌, refl, sym, ap, ap₂, ◌∙◌}
use mathlib.Core.List.{List, [], ◌∷◌}
use Prim.Native.Nat.{ℕ, zero, suc, ◌+◌, ◌*◌, ◌≤◌, ◌<◌}
use native.Mathlib.Nat.{mul-le-mul_left, suc-mul}
use native.Mathlib.Numerals.{add-one}
use native.Mathlib.Omega.{arith}
use borrow.Author.Tests.{ltb-true, ltb-false, eqb-true, eqb-false}
use mathlib.Core.Bool.{Bool, true, false}
use lib.Dec.{eqb, ltb}
use lib.IntN.{ℤ, pos, nat_abs, ◌+ℤ◌, ◌*ℤ◌, +ℤ_assoc, +ℤ_comm, +ℤ_idl, +ℤ_idr}
use lib.ListN.{length, get_or, take, get_or-eq_default}
use lib.Seq.{ext_get_or, take_all}
use Rattle.integers.specs.Places.{tab, places, at, sum, Within, sum_products}
use Rattle.integers.specs.Vectors.{dot, sum_abs, AllAbs}
use Rattle.integers.proofs.Order.{nat_abs-+ℤ, nat_abs-*ℤ}
use Rattle.integers.proofs.Products.{dot-take-suc-l, all_get_d, get_d-all}

pub length-tab {ℓ} : {A : Type ℓ} (f : ℕ → A) (n i : ℕ) → length (tab f n i) ≡ n
unfolding tab
length-tab f zero i = refl
length-tab f (suc n) i = ap suc (length-tab f n (suc i))

pub length-places : (n : ℕ) (f : ℕ → ℤ) → length (places n f) ≡ n
length-places n f = length-tab f n 0

pub at-tab {ℓ} : {A : Type ℓ} (f : ℕ → A) (n i j : ℕ) (d : A) → j < n → get_or (tab f n i) j d ≡ f (i + j)
unfolding tab
at-tab f zero i j d h = absurd (omega arith)
at-tab f (suc n) i zero d h = ap f (omega arith)
at-tab f (suc n) i (suc j) d h = at-tab f n (suc i) j d (omega arith) ∙ ap f (omega arith)

pub at_places : (n : ℕ) (f : ℕ → ℤ) (i : ℕ) → i < n → at (places n f) i ≡ f i
at_places n f i h = at-tab f n 0 i (pos 0) h ∙ ap f (omega arith)

-- a list is what stands at its places
pub by-places : (n : ℕ) (xs : List ℤ) (f : ℕ → ℤ) → length xs ≡ n → ((i : ℕ) → i < n → at xs i ≡ f i) → xs ≡ places n f
by-places n xs f l h = ext_get_or (pos 0) xs (places n f) (l ∙ sym (length-places n f)) (λ i k. h i (omega arith) ∙ sym (at_places n f i (omega arith)))

pub places-ext : (n : ℕ) (f g : ℕ → ℤ) → ((i : ℕ) → i < n → f i ≡ g i) → places n f ≡ places n g
places-ext n f g h = by-places n (places n f) g (length-places n f) (λ i l. at_places n f i l ∙ h i l)

pub places-at : (n : ℕ) (xs : List ℤ) → length xs ≡ n → places n (at xs) ≡ xs
places-at n xs l = sym (by-places n xs (at xs) l (λ i h. refl))

pub places_is : (n : ℕ) (f : ℕ → ℤ) (xs : List ℤ) → length xs ≡ n → ((i : ℕ) → i < n → f i ≡ at xs i) → places n f ≡ xs
places_is n f xs l h = sym (by-places n xs f l (λ i k. sym (h i k)))

pub all-places : (B n : ℕ) (f : ℕ → ℤ) → ((i : ℕ) → i < n → nat_abs (f i) ≤ B) → AllAbs B (places n f)
all-places B n f h = all_get_d B (places n f) (λ i k. let j : i < n = omega (arith, length-places n f) in rw (at_places n f i j) (h i j))

-- a step that changes each place by what does not depend on the changed list is undone by its inverse at each place
pub undone : (n : ℕ) (step back : ℕ → ℤ → ℤ) → ((i : ℕ) (z : ℤ) → back i (step i z) ≡ z)
    → (xs : List ℤ) → length xs ≡ n → places n (λ i. back i (at (places n (λ j. step j (at xs j))) i)) ≡ xs
undone n step back u xs l = places_is n _ xs l (λ i h. ap (back i) (at_places n (λ j. step j (at xs j)) i h) ∙ u i (at xs i))

-- ---- sums
pub sum-ext : (n : ℕ) (f g : ℕ → ℤ) → ((i : ℕ) → i < n → f i ≡ g i) → sum n f ≡ sum n g
unfolding sum
sum-ext zero f g h = refl
sum-ext (suc n) f g h = ap₂ ◌+ℤ◌ (sum-ext n f g (λ i l. h i (omega arith))) (h n (omega arith))

-- the first term apart
pub sum-front : (n : ℕ) (f : ℕ → ℤ) → sum (suc n) f ≡ f 0 +ℤ sum n (λ i. f (suc i))
unfolding sum
sum-front zero f = +ℤ_comm (pos 0) (f 0)
sum-front (suc n) f = ap (λ z. z +ℤ f (suc n)) (sum-front n f) ∙ +ℤ_assoc (f 0) (sum n (λ i. f (suc i))) (f (suc n))

-- all terms are 0, and all but one
sum-none : (n : ℕ) (f : ℕ → ℤ) → ((i : ℕ) → i < n → f i ≡ pos 0) → sum n f ≡ pos 0
unfolding sum
sum-none zero f e = refl
sum-none (suc n) f e = ap₂ ◌+ℤ◌ (sum-none n f (λ i h. e i (omega arith))) (e n (omega arith))

pub sum-only : (n j : ℕ) (f : ℕ → ℤ) → j < n → ((i : ℕ) → i < n → (i ≡ j → ⊥) → f i ≡ pos 0) → sum n f ≡ f j
unfolding sum
sum-only zero j f h e = absurd (omega arith)
sum-only (suc n) j f h e = by (sum-only n j f) (eqb n j) refl
  where
    by : (j < n → ((i : ℕ) → i < n → (i ≡ j → ⊥) → f i ≡ pos 0) → sum n f ≡ f j) → (b : Bool) → eqb n j ≡ b → sum n f +ℤ f n ≡ f j
    by ih true t =
        let d = eqb-true n j t in
        ap₂ ◌+ℤ◌ (sum-none n f (λ i l. e i (omega arith) (λ q. omega arith))) (ap f d) ∙ +ℤ_idl (f j)
    by ih false t =
        let d = eqb-false n j t in
        ap₂ ◌+ℤ◌ (ih (omega (arith, d)) (λ i l q. e i (omega arith) q)) (e n (omega arith) d) ∙ +ℤ_idr (f j)

sum-take : (n : ℕ) (xs ys : List ℤ) → dot (take n xs) ys ≡ sum n (λ k. at xs k *ℤ at ys k)
unfolding sum
sum-take zero xs ys = refl
sum-take (suc n) xs ys = dot-take-suc-l n xs ys ∙ ap (λ t. t +ℤ at xs n *ℤ at ys n) (sum-take n xs ys)

pub dot-sum : (n : ℕ) (xs ys : List ℤ) → length xs ≡ n → dot xs ys ≡ sum n (λ k. at xs k *ℤ at ys k)
dot-sum n xs ys e = ap (λ l. dot l ys) (sym (take_all n xs (omega arith))) ∙ sum-take n xs ys

-- a row times a list
pub row-sum : (M : ℕ) (f : ℕ → ℤ) (x : List ℤ) → dot (places M f) x ≡ sum M (λ n. f n *ℤ at x n)
row-sum M f x = dot-sum M (places M f) x (length-places M f) ∙ sum-ext M _ _ (λ n l. ap (λ z. z *ℤ at x n) (at_places M f n l))

pub next_multiple : (f e s : ℕ) → f + e * s + s ≡ f + (e + 1) * s
next_multiple f e s = let d : (e + 1) * s ≡ e * s + s = rw add-one (suc-mul e s) in omega arith

-- ---- sizes
pub dot-size : (xs ys : List ℤ) → nat_abs (dot xs ys) ≤ sum_products xs ys
unfolding sum_products
dot-size [] ys = omega arith
dot-size (x ∷ xs) [] = omega arith
dot-size (x ∷ xs) (y ∷ ys) = omega (arith, nat_abs-+ℤ (x *ℤ y) (dot xs ys), nat_abs-*ℤ x y, dot-size xs ys)

pub products-take : (n : ℕ) (xs ys : List ℤ) → sum_products (take n xs) ys ≤ sum_products xs ys
unfolding sum_products
products-take zero xs ys = omega arith
products-take (suc n) [] ys = omega arith
products-take (suc n) (x ∷ xs) [] = omega arith
products-take (suc n) (x ∷ xs) (y ∷ ys) = omega (arith, products-take n xs ys)

pub products_at : (n : ℕ) (xs ys : List ℤ) → nat_abs (at xs n) * nat_abs (at ys n) ≤ sum_products xs ys
unfolding sum_products
products_at n [] ys = omega arith
products_at n (x ∷ xs) [] = omega arith
products_at zero (x ∷ xs) (y ∷ ys) = omega arith
products_at (suc n) (x ∷ xs) (y ∷ ys) = omega (arith, products_at n xs ys)

-- a row's sizes times a limit on the numbers
pub products-le : (xs ys : List ℤ) (B : ℕ) → Within B ys → sum_products xs ys ≤ sum_abs xs * B
unfolding sum_products
products-le [] ys B h = omega arith
products-le (x ∷ xs) [] B h = omega arith
products-le (x ∷ xs) (y ∷ ys) B h = omega (arith, mul-le-mul_left (nat_abs x) (h.size 0), products-le xs ys B (record { size = λ i. h.size (suc i) }))

sum_abs-tab : (f : ℕ → ℤ) (n i B : ℕ) → ((j : ℕ) → j < n → nat_abs (f (i + j)) ≤ B) → sum_abs (tab f n i) ≤ n * B
unfolding tab
sum_abs-tab f zero i B h = omega arith
sum_abs-tab f (suc n) i B h =
    let e : i + 0 ≡ i = omega arith in
    let z = rw e at (h 0 (omega arith)) in
    omega (arith, sum_abs-tab f n (suc i) B (λ j l. let e : suc i + j ≡ i + suc j = omega arith in rw e (h (suc j) (omega arith))))

-- ---- limits
pub within-places : (n B : ℕ) (f : ℕ → ℤ) → ((i : ℕ) → i < n → nat_abs (f i) ≤ B) → Within B (places n f)
within-places n B f h = record { size = λ i. by i (ltb i n) refl }
  where
    by : (i : ℕ) (t : Bool) → ltb i n ≡ t → nat_abs (at (places n f) i) ≤ B
    by i true e = let l = ltb-true i n e in rw (at_places n f i l) (h i l)
    by i false e = rw (get_or-eq_default (places n f) (pos 0) {n = i} (omega (arith, ltb-false i n e, length-places n f))) (omega arith)

pub within-up : {m n : ℕ} {xs : List ℤ} → Within m xs → m ≤ n → Within n xs
within-up h l = record { size = λ i. omega (arith, h.size i) }

pub within_all : (B : ℕ) (xs : List ℤ) → AllAbs B xs → Within B xs
within_all B xs h = record { size = get_d-all B xs h }
