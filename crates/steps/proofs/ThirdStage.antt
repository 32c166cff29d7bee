-- The three sums of stage 3 are one sum, with the entries that the rows hold.
use mathlib.Core.Path.{◌≡◌, sym, ◌∙◌, ap, ap₂}
use mathlib.Core.Bool.{Bool, true, false, cond}
use Prim.Native.Nat.{ℕ, zero, suc, ◌+◌, ◌-◌, ◌*◌, ◌^◌, ◌<◌}
use native.Mathlib.Omega.{arith}
use borrow.Author.Tests.{eq-eqb, ne_eqb}
use lib.Dec.{eqb}
use lib.IntN.{ℤ, pos, neg_ℤ, ◌+ℤ◌, ◌-ℤ◌, ◌*ℤ◌}
use Rattle.integers.proofs.Ring.{ring}
use Rattle.integers.proofs.PlaceLaws.{sum-only}
use Rattle.steps.specs.Places.{sum}
use Rattle.steps.specs.RowForm.{stage3_entry}

module _ (M l m : ℕ) (sec cos tan : ℕ → ℤ) (x : ℕ → ℤ) where
  diagonal : ℕ → ℤ
  diagonal n = cond (eqb (m + n + 1) M) (pos M *ℤ (tan n *ℤ x n)) (pos 0)

  entry : (n : ℕ) → stage3_entry M l m n (sec n) (cos n) (tan n) *ℤ x n ≡ neg_ℤ (sec n *ℤ x n) -ℤ pos (2 * 2 ^ l) *ℤ (cos n *ℤ x n) -ℤ diagonal n
  unfolding stage3_entry diagonal
  entry n = by (pos (2 * 2 ^ l)) (pos M) (eqb (m + n + 1) M)
    where
      by : (p q : ℤ) (b : Bool)
          → neg_ℤ (sec n +ℤ p *ℤ cos n +ℤ cond b (q *ℤ tan n) (pos 0)) *ℤ x n ≡ neg_ℤ (sec n *ℤ x n) -ℤ p *ℤ (cos n *ℤ x n) -ℤ cond b (q *ℤ (tan n *ℤ x n)) (pos 0)
      by p q true = simp ring
      by p q false = simp ring

  parts : (p a b d r s t : ℤ) → (neg_ℤ a -ℤ p *ℤ b -ℤ d) +ℤ (neg_ℤ r -ℤ p *ℤ s -ℤ t) ≡ neg_ℤ (a +ℤ r) -ℤ p *ℤ (b +ℤ s) -ℤ (d +ℤ t)
  parts p a b d r s t = simp ring

  none : (p : ℤ) → pos 0 ≡ neg_ℤ (pos 0) -ℤ p *ℤ pos 0 -ℤ pos 0
  none p = simp ring

  sums : (n : ℕ) → sum n (λ n. stage3_entry M l m n (sec n) (cos n) (tan n) *ℤ x n)
      ≡ neg_ℤ (sum n (λ n. sec n *ℤ x n)) -ℤ pos (2 * 2 ^ l) *ℤ sum n (λ n. cos n *ℤ x n) -ℤ sum n diagonal
  unfolding sum
  sums zero = none (pos (2 * 2 ^ l))
  sums (suc n) =
      ap₂ ◌+ℤ◌ (sums n) (entry n)
      ∙ parts (pos (2 * 2 ^ l)) (sum n (λ n. sec n *ℤ x n)) (sum n (λ n. cos n *ℤ x n)) (sum n diagonal) (sec n *ℤ x n) (cos n *ℤ x n) (diagonal n)

  on-diagonal : m < M → sum M diagonal ≡ pos M *ℤ (tan (M - 1 - m) *ℤ x (M - 1 - m))
  unfolding diagonal
  on-diagonal h =
      sum-only M (M - 1 - m) diagonal (omega arith) (λ i l q. ap (λ b. cond b (pos M *ℤ (tan i *ℤ x i)) (pos 0)) (ne_eqb (m + i + 1) M (λ e. q (omega arith))))
      ∙ ap (λ b. cond b (pos M *ℤ (tan (M - 1 - m) *ℤ x (M - 1 - m))) (pos 0)) (eq-eqb (m + (M - 1 - m) + 1) M (omega arith))

  pub third-sum : m < M → neg_ℤ (sum M (λ n. sec n *ℤ x n)) -ℤ pos (2 * 2 ^ l) *ℤ sum M (λ n. cos n *ℤ x n) -ℤ pos M *ℤ (tan (M - 1 - m) *ℤ x (M - 1 - m))
      ≡ sum M (λ n. stage3_entry M l m n (sec n) (cos n) (tan n) *ℤ x n)
  third-sum h =
      ap (λ d. neg_ℤ (sum M (λ n. sec n *ℤ x n)) -ℤ pos (2 * 2 ^ l) *ℤ sum M (λ n. cos n *ℤ x n) -ℤ d) (sym (on-diagonal h))
      ∙ sym (sums M)
