-- A row read through the lists that the steps are made of: each operation on the list is one on the row.
use mathlib.Core.Path.{◌≡◌, refl, sym, ◌∙◌, ap}
use mathlib.Core.List.{List, [], ◌∷◌, ◌++◌}
use Prim.Native.Nat.{ℕ, zero, suc, ◌+◌}
use native.Mathlib.Omega.{arith}
use native.Mathlib.Nat.{suc_inj}
use lib.ListN.{length, take, drop, get_or, replicate, length-replicate, take-append-drop}
use lib.IntN.{ℤ, pos, neg_ℤ, ◌+ℤ◌, ◌*ℤ◌, +ℤ_idl, +ℤ_idr}
use Rattle.integers.specs.Vectors.{dot}
use Rattle.integers.proofs.Ring.{ring}
use Rattle.integers.proofs.Products.{dot-zeros, dot-append}
use Rattle.steps.specs.RowForm.{onto, rev, times, negated_row, alt, evens, odds, weave}
use Rattle.steps.proofs.Lists.{Len, len-rev, len_take, rev-rev}

-- ---- reversed
moved : (a d t : ℤ) → d +ℤ (a +ℤ t) ≡ a +ℤ d +ℤ t
moved a d t = simp ring

dot-onto : (xs ys aa bs : List ℤ) → length xs ≡ length ys → dot (onto xs aa) (onto ys bs) ≡ dot xs ys +ℤ dot aa bs
unfolding onto
dot-onto [] [] aa bs h = sym (+ℤ_idl (dot aa bs))
dot-onto [] (y ∷ ys) aa bs h = let z : ⊥ = omega arith in absurd z
dot-onto (x ∷ xs) [] aa bs h = let z : ⊥ = omega arith in absurd z
dot-onto (x ∷ xs) (y ∷ ys) aa bs h = dot-onto xs ys (x ∷ aa) (y ∷ bs) (suc_inj h) ∙ moved (x *ℤ y) (dot xs ys) (dot aa bs)

dot-rev-both : (xs ys : List ℤ) → length xs ≡ length ys → dot (rev xs) (rev ys) ≡ dot xs ys
unfolding rev
dot-rev-both xs ys h = dot-onto xs ys [] [] h ∙ +ℤ_idr (dot xs ys)

pub dot-rev : {n : ℕ} (xs ys : List ℤ) → Len n xs → Len n ys → dot xs (rev ys) ≡ dot (rev xs) ys
dot-rev xs ys h l = sym (dot-rev-both xs (rev ys) (h ∙ sym (len-rev ys l))) ∙ ap (λ z. dot (rev xs) z) (rev-rev ys)

-- ---- entry by entry
turn : (g d x s : ℤ) → g *ℤ (d *ℤ x) +ℤ s ≡ d *ℤ g *ℤ x +ℤ s
turn g d x s = simp ring

pub dot-times : {n : ℕ} (g d x : List ℤ) → Len n g → Len n d → Len n x → dot g (times d x) ≡ dot (times d g) x
unfolding times
dot-times [] [] x h l m = refl
dot-times [] (d ∷ ds) x h l m = let z : ⊥ = omega arith in absurd z
dot-times (g ∷ gs) [] x h l m = refl
dot-times (g ∷ gs) (d ∷ ds) [] h l m = refl
dot-times {n = zero} (g ∷ gs) (d ∷ ds) (x ∷ xs) h l m = let z : ⊥ = omega arith in absurd z
dot-times {n = suc n} (g ∷ gs) (d ∷ ds) (x ∷ xs) h l m = ap (λ t. g *ℤ (d *ℤ x) +ℤ t) (dot-times gs ds xs (suc_inj h) (suc_inj l) (suc_inj m)) ∙ turn g d x (dot (times ds gs) xs)

-- ---- signs
opposite : (g x s : ℤ) → g *ℤ neg_ℤ x +ℤ s ≡ neg_ℤ g *ℤ x +ℤ s
opposite g x s = simp ring

dot-negative : (g x : List ℤ) → dot g (negated_row x) ≡ dot (negated_row g) x
unfolding negated_row
dot-negative [] [] = refl
dot-negative [] (x ∷ xs) = refl
dot-negative (g ∷ gs) [] = refl
dot-negative (g ∷ gs) (x ∷ xs) = ap (λ t. g *ℤ neg_ℤ x +ℤ t) (dot-negative gs xs) ∙ opposite g x (dot (negated_row gs) xs)

signs : (a x b y s : ℤ) → a *ℤ x +ℤ (b *ℤ neg_ℤ y +ℤ s) ≡ a *ℤ x +ℤ (neg_ℤ b *ℤ y +ℤ s)
signs a x b y s = simp ring

pub dot-alt : (g x : List ℤ) → dot g (alt x) ≡ dot (alt g) x
unfolding alt
dot-alt [] [] = refl
dot-alt [] (x ∷ []) = refl
dot-alt [] (x ∷ y ∷ xs) = refl
dot-alt (a ∷ []) [] = refl
dot-alt (a ∷ b ∷ gs) [] = refl
dot-alt (a ∷ []) (x ∷ []) = refl
dot-alt (a ∷ []) (x ∷ y ∷ xs) = refl
dot-alt (a ∷ b ∷ gs) (x ∷ []) = refl
dot-alt (a ∷ b ∷ gs) (x ∷ y ∷ xs) = ap (λ t. a *ℤ x +ℤ (b *ℤ neg_ℤ y +ℤ t)) (dot-alt gs xs) ∙ signs a x b y (dot (alt gs) xs)

alt-negative : (g : List ℤ) → alt (negated_row g) ≡ negated_row (alt g)
unfolding alt negated_row
alt-negative [] = refl
alt-negative (a ∷ []) = refl
alt-negative (a ∷ b ∷ gs) = ap (λ t. neg_ℤ a ∷ neg_ℤ (neg_ℤ b) ∷ t) (alt-negative gs)

-- −d(n) on the list is −d(n) on the row
pub dot-signs : (g x : List ℤ) → dot g (negated_row (alt x)) ≡ dot (negated_row (alt g)) x
dot-signs g x = dot-negative g (alt x) ∙ dot-alt (negated_row g) x ∙ ap (λ z. dot z x) (alt-negative g)

-- ---- even and odd places
woven : (a b s t : ℤ) → a +ℤ (b +ℤ (s +ℤ t)) ≡ (a +ℤ s) +ℤ (b +ℤ t)
woven a b s t = simp ring

pub dot-weave : {n : ℕ} (u g f : List ℤ) → Len n u → Len n g → length f ≡ n + n → dot u (evens f) +ℤ dot g (odds f) ≡ dot (weave u g) f
unfolding evens odds weave
dot-weave [] [] f h l m = refl
dot-weave [] (g ∷ gs) f h l m = let z : ⊥ = omega arith in absurd z
dot-weave (u ∷ us) [] f h l m = let z : ⊥ = omega arith in absurd z
dot-weave (u ∷ us) (g ∷ gs) [] h l m = refl
dot-weave (u ∷ us) (g ∷ gs) (x ∷ []) h l m = let z : ⊥ = omega arith in absurd z
dot-weave {n = zero} (u ∷ us) (g ∷ gs) (x ∷ y ∷ f) h l m = let z : ⊥ = omega arith in absurd z
dot-weave {n = suc n} (u ∷ us) (g ∷ gs) (x ∷ y ∷ f) h l m =
    sym (woven (u *ℤ x) (g *ℤ y) (dot us (evens f)) (dot gs (odds f))) ∙ ap (λ t. u *ℤ x +ℤ (g *ℤ y +ℤ t)) (dot-weave {n = n} us gs f (suc_inj h) (suc_inj l) (omega arith))

-- ---- two halves
pub dot-halves : {n : ℕ} (f xs ys : List ℤ) → length f ≡ n + n → Len n xs → dot f (xs ++ ys) ≡ dot (take n f) xs +ℤ dot (drop n f) ys
dot-halves {n} f xs ys h l = ap (λ z. dot z (xs ++ ys)) (sym (take-append-drop n f)) ∙ dot-append (take n f) xs (drop n f) ys (len_take f h ∙ sym l)

pub dot-joined : {n : ℕ} (xs ys f : List ℤ) → length f ≡ n + n → Len n xs → dot xs (take n f) +ℤ dot ys (drop n f) ≡ dot (xs ++ ys) f
dot-joined {n} xs ys f h l = sym (dot-append xs (take n f) ys (drop n f) (l ∙ sym (len_take f h))) ∙ ap (λ z. dot (xs ++ ys) z) (take-append-drop n f)

-- ---- the entry at place k as a row
abbrev pub zeros : ℕ → List ℤ
zeros n = replicate n (pos 0)

unfoldable pub unit : ℕ → ℕ → List ℤ
unit zero k = []
unit (suc m) zero = pos 1 ∷ zeros m
unit (suc m) (suc k) = pos 0 ∷ unit m k

pub len-unit : (n k : ℕ) → Len n (unit n k)
unfolding unit
len-unit zero k = refl
len-unit (suc n) zero = ap suc (length-replicate n (pos 0))
len-unit (suc n) (suc k) = ap suc (len-unit n k)

first : (x s : ℤ) → s ≡ pos 0 → pos 1 *ℤ x +ℤ s ≡ x
first x s h = rw h (simp ring)

later : (x s : ℤ) → pos 0 *ℤ x +ℤ s ≡ s
later x s = simp ring

pub dot-unit : (n k : ℕ) (xs : List ℤ) → Len n xs → dot (unit n k) xs ≡ get_or xs k (pos 0)
unfolding unit
dot-unit zero k [] h = refl
dot-unit zero k (x ∷ xs) h = let z : ⊥ = omega arith in absurd z
dot-unit (suc n) zero [] h = let z : ⊥ = omega arith in absurd z
dot-unit (suc n) (suc k) [] h = let z : ⊥ = omega arith in absurd z
dot-unit (suc n) zero (x ∷ xs) h = first x (dot (zeros n) xs) (dot-zeros n xs)
dot-unit (suc n) (suc k) (x ∷ xs) h = later x (dot (unit n k) xs) ∙ dot-unit n k xs (suc_inj h)
