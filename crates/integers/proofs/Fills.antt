-- A loop that stores f 0, f 1, .. at the places 0, 1, .. of a list: the invariant's part, and what it comes to.
use mathlib.Core.Path.{◌≡◌, refl, ap, subst, ◌∙◌}
use mathlib.Core.List.{List, [], ◌∷◌}
use Prim.Native.Nat.{ℕ, zero, suc, ◌+◌, ◌≤◌, ◌<◌}
use native.Mathlib.Numerals.{add-one}
use native.Mathlib.Omega.{arith}
use lib.IntN.{ℤ}
use lib.ListN.{length, set, length-set}
use Rattle.integers.specs.Places.{places, at}
use Rattle.integers.proofs.PlaceLaws.{by-places}

-- d with its first n numbers replaced by f 0, f 1, .., f (n − 1)
filled : (ℕ → ℤ) → ℕ → List ℤ → List ℤ
filled f zero d = d
filled f (suc n) [] = []
filled f (suc n) (x ∷ d) = f 0 ∷ filled (λ k. f (suc k)) n d

filled-suc : (f : ℕ → ℤ) (i : ℕ) (d : List ℤ) → set (filled f i d) i (f i) ≡ filled f (suc i) d
unfolding filled
filled-suc f zero [] = refl
filled-suc f (suc i) [] = refl
filled-suc f zero (x ∷ d) = refl
filled-suc f (suc i) (x ∷ d) = ap (λ (t : List ℤ). f 0 ∷ t) (filled-suc (λ k. f (suc k)) i d)

filled_next : (f : ℕ → ℤ) (i : ℕ) (d d' : List ℤ) (v : ℤ) → d' ≡ filled f i d → v ≡ f i → set d' i v ≡ filled f (i + 1) d
filled_next f i d d' v e q = rw (add-one, e, q) (filled-suc f i d)

filled-after : (f : ℕ → ℤ) (n i : ℕ) (d : List ℤ) → n ≤ i → at (filled f n d) i ≡ at d i
unfolding filled
filled-after f zero i d l = refl
filled-after f (suc n) i [] l = refl
filled-after f (suc n) zero (x ∷ d) l = absurd (omega arith)
filled-after f (suc n) (suc i) (x ∷ d) l = filled-after (λ k. f (suc k)) n i d (omega arith)

filled_at : (f : ℕ → ℤ) (n i : ℕ) (d : List ℤ) → i < n → i < length d → at (filled f n d) i ≡ f i
unfolding filled
filled_at f zero i d l m = absurd (omega arith)
filled_at f (suc n) i [] l m = absurd (omega arith)
filled_at f (suc n) zero (x ∷ d) l m = refl
filled_at f (suc n) (suc i) (x ∷ d) l m = filled_at (λ k. f (suc k)) n i d (omega arith) (omega arith)

-- the invariant's part; `omega` finds the length in it by itself
pub record Filling (f : ℕ → ℤ) (d₀ : List ℤ) (i : ℕ) (d : List ℤ) : Type 0 where
  is : d ≡ filled f i d₀
  pub long : length d ≡ length d₀

pub filling-none : (f : ℕ → ℤ) (d : List ℤ) → Filling f d 0 d
unfolding filled
filling-none f d = record { is = refl; long = refl }

-- a turn stores v, which is f i, at i
pub filling-next : {f : ℕ → ℤ} {d₀ : List ℤ} {i : ℕ} {d : List ℤ} {v : ℤ} → Filling f d₀ i d → v ≡ f i → Filling f d₀ (i + 1) (set d i v)
filling-next {f = f} {d₀ = d₀} {i = i} {d = d} {v = v} h q = record { is = filled_next f i d₀ d v h.is q; long = length-set d i v ∙ h.long }

-- or four at a time
pub filling-four : {f : ℕ → ℤ} {d₀ : List ℤ} {i : ℕ} {d : List ℤ} {u v w z : ℤ} → Filling f d₀ i d → u ≡ f i → v ≡ f (i + 1) → w ≡ f (i + 2) → z ≡ f (i + 3)
    → Filling f d₀ (i + 4) (set (set (set (set d i u) (i + 1) v) (i + 2) w) (i + 3) z)
filling-four {f = f} {d₀ = d₀} {i = i} {d = d} {u = u} {v = v} {w = w} {z = z} h p q r s =
    let two : i + 1 + 1 ≡ i + 2 = omega arith in
    let three : i + 2 + 1 ≡ i + 3 = omega arith in
    let four : i + 3 + 1 ≡ i + 4 = omega arith in
    let second = subst (λ n. Filling f d₀ n (set (set d i u) (i + 1) v)) two (filling-next (filling-next h p) q) in
    let third = subst (λ n. Filling f d₀ n (set (set (set d i u) (i + 1) v) (i + 2) w)) three (filling-next second r) in
    subst (λ n. Filling f d₀ n (set (set (set (set d i u) (i + 1) v) (i + 2) w) (i + 3) z)) four (filling-next third s)

-- what a turn finds at i is what stood there at the start
pub filling-here : {f : ℕ → ℤ} {d₀ : List ℤ} {i : ℕ} {d : List ℤ} → Filling f d₀ i d → at d i ≡ at d₀ i
filling-here {f = f} {d₀ = d₀} {i = i} h = ap (λ l. at l i) h.is ∙ filled-after f i i d₀ (omega arith)

-- at the loop's end
pub filling-all : {f : ℕ → ℤ} {d₀ : List ℤ} {i : ℕ} {d : List ℤ} → Filling f d₀ i d → i ≡ length d₀ → d ≡ places (length d₀) f
filling-all {f = f} {d₀ = d₀} {i = i} {d = d} h e =
    by-places (length d₀) d f h.long (λ k l. ap (λ t. at t k) h.is ∙ filled_at f i k d₀ (omega arith) l)
