-- A turn of `in_order` puts four numbers more.
use lib.Signed.{mag}
use Rattle.std.proofs.Common.{◌≡◌, refl, ◌∙◌, ℕ, ◌+◌, ◌^◌, ◌<◌, List, ℤ, w64, to_z, of_z, arith}
use Rattle.integers.proofs.Held.{held-ok}
use Rattle.integers.proofs.Fills.{Filling, filling-none, filling-four, filling-all}
use Rattle.slices.specs.declared.fours.Four.{Four}
use Rattle.slices.specs.Own.Fours.{stored}
use Rattle.rows.proofs.order.in_order.Goals as goal

-- a row's result
given : {r z : ℤ} → mag r < 2 ^ 63 → r ≡ z → to_z w64 (of_z w64 r) ≡ z
given {r} ok e = (held-ok w64 r ok).is ∙ e

four-more : {f : ℕ → ℤ} {out₀ out out' : List ℤ} {k : ℕ} → Filling f out₀ k out → {p q r s : ℤ}
    → mag p < 2 ^ 63 → p ≡ f k → mag q < 2 ^ 63 → q ≡ f (k + 1) → mag r < 2 ^ 63 → r ≡ f (k + 2) → mag s < 2 ^ 63 → s ≡ f (k + 3)
    → out' ≡ stored out k (record { a = to_z w64 (of_z w64 p); b = to_z w64 (of_z w64 q); c = to_z w64 (of_z w64 r); d = to_z w64 (of_z w64 s) }) → Filling f out₀ (k + 4) out'
unfolding stored
four-more h a p b q c r d s e = rw e (filling-four h (given a p) (given b q) (given c r) (given d s))

pub loop-k-init : goal.loop-k-init
loop-k-init c = (omega arith, refl, filling-none _ _)

pub loop-k-preserved : goal.loop-k-preserved
loop-k-preserved c = (
  omega arith,
  omega arith,
  four-more c.loop-k.invariant.2 c.row_at.type_inv c.row_at.ensures c.row_at-in-loop-k.type_inv c.row_at-in-loop-k.ensures
      c.row_at-in-loop-k-2.type_inv c.row_at-in-loop-k-2.ensures c.row_at-in-loop-k-3.type_inv c.row_at-in-loop-k-3.ensures c.put.ensures,
)

pub returns : goal.returns
returns c = filling-all c.loop-k.invariant.2 (omega arith)

pub returns-2 : goal.returns-2
returns-2 c =
    filling-all
    (four-more c.loop-k.invariant.2 c.row_at.type_inv c.row_at.ensures c.row_at-in-loop-k.type_inv c.row_at-in-loop-k.ensures
    c.row_at-in-loop-k-2.type_inv c.row_at-in-loop-k-2.ensures c.row_at-in-loop-k-3.type_inv c.row_at-in-loop-k-3.ensures c.put.ensures)
    (omega arith)
