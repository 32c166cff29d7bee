-- A move and a place of interleaved lists, by their tests.
use mathlib.Core.Path.{◌≡◌}
use mathlib.Core.Bool.{Bool, true, false}
use mathlib.Core.List.{List}
use Prim.Native.Nat.{ℕ, ◌+◌, ◌*◌, ◌/◌, ◌%◌, ◌≤◌}
use native.Mathlib.Omega.{arith}
use borrow.Author.Tests.{eq-eqb, ne_eqb}
use lib.IntN.{ℤ, nat_abs}
use Rattle.integers.specs.Places.{at}
use Rattle.integers.proofs.Order.{nat_abs-+ℤ, nat_abs--ℤ}
use Rattle.slices.specs.Own.Moves.{moved, woven_at}

pub moved-size : (undo : Bool) (y a : ℤ) {B A : ℕ} → nat_abs y ≤ B → nat_abs a ≤ A → nat_abs (moved undo y a) ≤ B + A
unfolding moved
moved-size true y a h k = omega (arith, nat_abs--ℤ y a)
moved-size false y a h k = omega (arith, nat_abs-+ℤ y a)

module _ (top bottom : List ℤ) (i : ℕ) where
  pub woven-even : woven_at top bottom (2 * i) ≡ at top i
  unfolding woven_at
  woven-even =
      let e : (2 * i) % 2 ≡ 0 = omega arith in
      let h : (2 * i) / 2 ≡ i = omega arith in
      rw (eq-eqb ((2 * i) % 2) 0 e, h)

  pub woven-odd : woven_at top bottom (2 * i + 1) ≡ at bottom i
  unfolding woven_at
  woven-odd =
      let e : (2 * i + 1) % 2 ≡ 0 → ⊥ = (λ e. omega arith) in
      let h : (2 * i + 1) / 2 ≡ i = omega arith in
      rw (ne_eqb ((2 * i + 1) % 2) 0 e, h)
