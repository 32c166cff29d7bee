-- The squares of a frame added one after another.
use mathlib.Core.Path.{◌≡◌, refl, sym, ap}
use mathlib.Core.List.{List, [], ◌∷◌}
use Prim.Native.Nat.{ℕ, zero, suc, ◌*◌, ◌^◌, ◌≤◌, ◌<◌}
use native.Mathlib.Omega.{arith}
use lib.IntN.{ℤ, nat_abs, ◌+ℤ◌}
use lib.ListN.{length, take, set, length-take}
use mir.Syntax.{w64}
use mir.Val.{SFits}
use Rattle.integers.specs.Places.{at, Within}
use Rattle.integers.proofs.Order.{nat_abs-+ℤ, nat_abs-*ℤ-le}
use Rattle.integers.proofs.Words.{small}
use Rattle.steps.specs.Limits.{coefficient_limit}
use Rattle.runs.specs.Record.{frame_limit}
use Rattle.reels.specs.Limits.{SumsWithin}
use Rattle.reels.proofs.SumLaws.{sum-size, sum-at}
use Rattle.reels.specs.Page.{squared}
use Rattle.reels.specs.Reel.{run_limit, squares_added}

pub none-added : (sums frame : List ℤ) → squares_added sums (take 0 frame) ≡ sums
unfolding squares_added
none-added [] frame = refl
none-added (s ∷ sums) frame = refl

-- behind the frame's squares a sum is as it was
added-behind : (sums frame : List ℤ) (i : ℕ) → length frame ≤ i → at (squares_added sums frame) i ≡ at sums i
unfolding squares_added
added-behind [] frame i h = refl
added-behind (s ∷ sums) [] i h = refl
added-behind (s ∷ sums) (x ∷ frame) zero h = absurd (omega arith)
added-behind (s ∷ sums) (x ∷ frame) (suc i) h = added-behind sums frame i (omega arith)

added_next : (sums frame : List ℤ) (i : ℕ) → i < length frame
    → set (squares_added sums (take i frame)) i (at sums i +ℤ squared (at frame i)) ≡ squares_added sums (take (suc i) frame)
unfolding squares_added
added_next sums [] i h = absurd (omega arith)
added_next [] (x ∷ frame) zero h = refl
added_next [] (x ∷ frame) (suc i) h = refl
added_next (s ∷ sums) (x ∷ frame) zero h = ap (λ (t : List ℤ). (s +ℤ squared x) ∷ t) (sym (none-added sums frame))
added_next (s ∷ sums) (x ∷ frame) (suc i) h = ap (λ (t : List ℤ). (s +ℤ squared x) ∷ t) (added_next sums frame i (omega arith))

pub added-step : (sums frame : List ℤ) (i : ℕ) → i < length frame
    → set (squares_added sums (take i frame)) i (at (squares_added sums (take i frame)) i +ℤ squared (at frame i)) ≡ squares_added sums (take (suc i) frame)
added-step sums frame i h = rw (added-behind sums (take i frame) i (omega (arith, length-take i frame))) (added_next sums frame i h)

-- a sum and the square that is added to it fit 64 bits
pub added-fits : (sums frame : List ℤ) (i : ℕ) → i < length frame → Within coefficient_limit frame → SumsWithin (run_limit * frame_limit) sums
    → SFits w64 (at (squares_added sums (take i frame)) i +ℤ squared (at frame i))
added-fits sums frame i h within sums-within =
    let behind = added-behind sums (take i frame) i (omega (arith, length-take i frame)) in
    let a : nat_abs (at sums i) ≤ 6553700 * 2 ^ 40 = sum-size (run_limit * frame_limit) (at sums i) (sum-at (run_limit * frame_limit) sums i sums-within) in
    let b : nat_abs (squared (at frame i)) ≤ 2 ^ 40 = nat_abs-*ℤ-le (at frame i) (at frame i) (within.size i) (within.size i) in
    rw behind (small w64 (at sums i +ℤ squared (at frame i)) (omega (arith, nat_abs-+ℤ (at sums i) (squared (at frame i)), a, b)))
