-- Four places a turn: what stands there is moved by its rounded product.
use Rattle.std.proofs.Common.{ℕ, ◌-◌, length}
use Rattle.slices.specs.Own.Moves.{moved}
use Rattle.lifts.proofs.FourLaws.{Turns, product_at}
use Rattle.lifts.proofs.lifts.fifth.Given as goal

-- where c is read
abbrev pub place : ℕ → ℕ → ℕ
place n j = n - 1 - j

abbrev pub invariant-loop-i : goal.invariant-loop-i
invariant-loop-i l = Turns (λ n j z. moved l.undo z (product_at place l.c l.x n j)) l.fn.y l.i l.y

abbrev pub decreases-loop-i : goal.decreases-loop-i
decreases-loop-i l = length l.fn.y - l.i
