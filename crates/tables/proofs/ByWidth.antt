-- What belongs to a width.
use mathlib.Core.Path.{◌≡◌, refl, sym, subst₂}
use mathlib.Core.Bool.{Bool, true, false}
use mathlib.Core.Logic.{inl, inr}
use Prim.Native.Nat.{ℕ, ◌≤◌, ◌<◌, zero-le}
use native.Mathlib.Omega.{arith}
use borrow.Author.Tests.{ne_eqb, eqb-true, eqb-false}
use lib.Dec.{eqb, lit≤}
use Rattle.tables.specs.Widths.{RunWidth, by_width, half_width}

module _ {A : Type 0} (a b c other : A) {n : ℕ} where
  pub at_8 : n ≡ 8 → by_width a b c other n ≡ a
  unfolding by_width
  at_8 e = rw e

  pub at-32 : n ≡ 32 → by_width a b c other n ≡ b
  unfolding by_width
  at-32 e = rw e

  pub at-128 : n ≡ 128 → by_width a b c other n ≡ c
  unfolding by_width
  at-128 e = rw e

  pub at_other : (n ≡ 8 → ⊥) → (n ≡ 32 → ⊥) → (n ≡ 128 → ⊥) → by_width a b c other n ≡ other
  unfolding by_width
  at_other f g h = rw (ne_eqb n 8 f, ne_eqb n 32 g, ne_eqb n 128 h)

-- what holds at each width of what belongs to it, and at any other number of the other thing
module _ {A : Type 0} (P : ℕ → A → Type 0) (a b c other : A) where
  pub at_each : P 8 a → P 32 b → P 128 c → ((n : ℕ) → (n ≡ 8 → ⊥) → (n ≡ 32 → ⊥) → (n ≡ 128 → ⊥) → P n other) → (n : ℕ) → P n (by_width a b c other n)
  at_each h8 h32 h128 h n = by (eqb n 8) (eqb n 32) (eqb n 128) refl refl refl
    where
      is : {k : ℕ} {x y : A} → n ≡ k → y ≡ x → P k x → P n y
      is e f p = subst₂ P (sym e) (sym f) p

      by : (s t u : Bool) → eqb n 8 ≡ s → eqb n 32 ≡ t → eqb n 128 ≡ u → P n (by_width a b c other n)
      by true t u d e f = let w = eqb-true n 8 d in is w (at_8 a b c other w) h8
      by false true u d e f = let w = eqb-true n 32 e in is w (at-32 a b c other w) h32
      by false false true d e f = let w = eqb-true n 128 f in is w (at-128 a b c other w) h128
      by false false false d e f =
          let x = eqb-false n 8 d in
          let y = eqb-false n 32 e in
          let z = eqb-false n 128 f in
          is refl (at_other a b c other x y z) (h n x y z)

-- two things that belong to a width
pub at_both : {A B : Type 0} (P : A → B → Type 0) (a b c other : A) (d e f rest : B) → P a d → P b e → P c f → P other rest → (n : ℕ) → P (by_width a b c other n) (by_width d e f rest n)
at_both P a b c other d e f rest h8 h32 h128 h =
    at_each (λ n x. P x (by_width d e f rest n)) a b c other (rw (at_8 d e f rest refl) h8) (rw (at-32 d e f rest refl) h32) (rw (at-128 d e f rest refl) h128)
    (λ n x y z. rw (at_other d e f rest x y z) h)

pub half-width-le : (n : ℕ) → half_width n ≤ 64
unfolding half_width
half-width-le = at_each (λ n m. m ≤ 64) 4 16 64 0 (lit≤ tt) (lit≤ tt) (lit≤ tt) (λ n x y z. zero-le)

pub half-width-ge : (n : ℕ) → 0 < half_width n → 4 ≤ half_width n
unfolding half_width
half-width-ge = at_each (λ n m. 0 < m → 4 ≤ m) 4 16 64 0 (λ z. lit≤ tt) (λ z. lit≤ tt) (λ z. lit≤ tt) (λ n x y w z. absurd (omega arith))

pub no_other : (n : ℕ) → 0 < half_width n → (n ≡ 8 → ⊥) → (n ≡ 32 → ⊥) → (n ≡ 128 → ⊥) → ⊥
unfolding half_width
no_other n z f g h = let e : half_width n ≡ 0 = at_other 4 16 64 0 f g h in omega arith

pub run-width : (n : ℕ) → RunWidth n → 0 < half_width n
unfolding half_width by_width
run-width n (inl e) = rw e (omega arith)
run-width n (inr (inl e)) = rw e (omega arith)
run-width n (inr (inr e)) = rw e (omega arith)

pub width-run : (n : ℕ) → 0 < half_width n → RunWidth n
width-run n w = by (eqb n 8) (eqb n 32) (eqb n 128) refl refl refl
  where
    by : (s t u : Bool) → eqb n 8 ≡ s → eqb n 32 ≡ t → eqb n 128 ≡ u → RunWidth n
    by true t u d e f = inl (eqb-true n 8 d)
    by false true u d e f = inr (inl (eqb-true n 32 e))
    by false false true d e f = inr (inr (eqb-true n 128 f))
    by false false false d e f = absurd (no_other n w (eqb-false n 8 d) (eqb-false n 32 e) (eqb-false n 128 f))
