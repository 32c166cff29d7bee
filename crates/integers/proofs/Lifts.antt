-- The lift step: y becomes y + the rounded z / 2^k. Against the exact step, a row g is off by at most half a unit for each unit of g.
use mathlib.Core.Path.{◌≡◌, refl, sym, ◌∙◌, ap}
use mathlib.Core.List.{List, [], ◌∷◌, zip_with}
use Prim.Native.Nat.{ℕ, zero, suc, ◌*◌, ◌-◌, ◌^◌, ◌≤◌, ◌<◌}
use native.Mathlib.Omega.{arith}
use native.Mathlib.Nat.{suc_inj, le_refl}
use lib.ListN.{length, get_or}
use lib.IntN.{ℤ, pos, nat_abs, ◌+ℤ◌, ◌-ℤ◌, ◌*ℤ◌}
use Rattle.integers.specs.Floor.{round}
use Rattle.integers.specs.Vectors.{dot, scalar_mul, plus, sum_abs}
use Rattle.integers.proofs.Ring.{ring}
use Rattle.integers.proofs.Order.{nat_abs-+ℤ, nat_abs-*ℤ-le}
use Rattle.integers.proofs.Rounding.{round-near}
use Rattle.integers.proofs.Products.{dot-plus, dot-scale, length-scale}

split-term : (p g y r a d s t : ℤ) → p *ℤ (g *ℤ (y +ℤ r) +ℤ d) -ℤ ((p *ℤ g *ℤ y +ℤ s) +ℤ (g *ℤ a +ℤ t)) ≡ g *ℤ (p *ℤ r -ℤ a) +ℤ (p *ℤ d -ℤ (s +ℤ t))
split-term p g y r a d s t = simp ring

-- for every row g: | p · g(y + f a) − (p g y + g a) | ≤ h · Σ|g|, where | p · f a − a | ≤ h
module _ (p h : ℕ) (f : ℤ → ℤ) (near : (a : ℤ) → nat_abs (pos p *ℤ f a -ℤ a) ≤ h) where
  pub lift-row : (g y a : List ℤ) → length y ≡ length a
      → nat_abs (pos p *ℤ dot g (zip_with (λ y a. y +ℤ f a) y a) -ℤ (dot (scalar_mul (pos p) g) y +ℤ dot g a)) ≤ h * sum_abs g
  unfolding zip_with
  lift-row [] y a e = omega arith
  lift-row (g ∷ gs) [] [] e = omega arith
  lift-row (g ∷ gs) [] (a ∷ bs) e = let z : ⊥ = omega arith in absurd z
  lift-row (g ∷ gs) (y ∷ ys) [] e = let z : ⊥ = omega arith in absurd z
  lift-row (g ∷ gs) (y ∷ ys) (a ∷ bs) e =
      let d = dot gs (zip_with (λ y a. y +ℤ f a) ys bs) in
      let s = dot (scalar_mul (pos p) gs) ys in
      let t = dot gs bs in
      rw (split-term (pos p) g y (f a) a d s t)
      (omega (arith, nat_abs-+ℤ (g *ℤ (pos p *ℤ f a -ℤ a)) (pos p *ℤ d -ℤ (s +ℤ t)), nat_abs-*ℤ-le g (pos p *ℤ f a -ℤ a) (le_refl (nat_abs g)) (near a), lift-row gs ys bs (suc_inj e)))

-- the whole state, x kept and y lifted by amounts z whose row g is a row gs of x: (u, g) after the step is (2 ^ k u + gs, 2 ^ k g) before it
kept : (p u d v s : ℤ) → p *ℤ (u +ℤ d) -ℤ ((p *ℤ u +ℤ v) +ℤ s) ≡ p *ℤ d -ℤ (s +ℤ v)
kept p u d v s = simp ring

pub lift-known : (k : ℕ) (u g gs x y z : List ℤ) → length y ≡ length z → dot g z ≡ dot gs x → length u ≡ length gs
    → nat_abs (pos (2 ^ k) *ℤ (dot u x +ℤ dot g (zip_with (λ y a. y +ℤ round k a) y z)) -ℤ (dot (plus (scalar_mul (pos (2 ^ k)) u) gs) x +ℤ dot (scalar_mul (pos (2 ^ k)) g) y)) ≤ 2 ^ (k - 1) * sum_abs g
lift-known k u g gs x y z e d l =
    rw (
      dot-plus (scalar_mul (pos (2 ^ k)) u) gs x (length-scale (pos (2 ^ k)) u ∙ l),
      dot-scale (pos (2 ^ k)) u x,
      ← d,
      kept (pos (2 ^ k)) (dot u x) (dot g (zip_with (λ y a. y +ℤ round k a) y z)) (dot g z) (dot (scalar_mul (pos (2 ^ k)) g) y),
    )
    (lift-row (2 ^ k) (2 ^ (k - 1)) (round k) (round-near k) g y z e)

-- what one operation makes of a list with another of its length, its inverse undoes: a lift's step back, and the step after it
pub zip-undo : (op back : ℤ → ℤ → ℤ) → ((y a : ℤ) → back (op y a) a ≡ y) → (y a : List ℤ) → length y ≡ length a → zip_with back (zip_with op y a) a ≡ y
unfolding zip_with
zip-undo op back u [] a e = refl
zip-undo op back u (y ∷ ys) [] e = let z : ⊥ = omega arith in absurd z
zip-undo op back u (y ∷ ys) (a ∷ bs) e = rw (u y a, zip-undo op back u ys bs (suc_inj e))

pub length-lift : (op : ℤ → ℤ → ℤ) (y a : List ℤ) → length y ≡ length a → length (zip_with op y a) ≡ length y
unfolding zip_with
length-lift op [] a e = refl
length-lift op (y ∷ ys) [] e = sym e
length-lift op (y ∷ ys) (a ∷ bs) e = ap suc (length-lift op ys bs (suc_inj e))

pub get_d-lift : (op : ℤ → ℤ → ℤ) (y a : List ℤ) (i : ℕ) → length y ≡ length a → i < length y → get_or (zip_with op y a) i (pos 0) ≡ op (get_or y i (pos 0)) (get_or a i (pos 0))
unfolding zip_with
get_d-lift op [] a i e h = let z : ⊥ = omega arith in absurd z
get_d-lift op (y ∷ ys) [] i e h = let z : ⊥ = omega arith in absurd z
get_d-lift op (y ∷ ys) (a ∷ bs) zero e h = refl
get_d-lift op (y ∷ ys) (a ∷ bs) (suc i) e h = get_d-lift op ys bs i (suc_inj e) (omega arith)
