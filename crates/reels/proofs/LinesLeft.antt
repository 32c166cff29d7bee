-- How many lines a reel still takes: each counts, in every state.
use mathlib.Core.Path.{◌≡◌, refl, sym}
use mathlib.Core.Logic.{⊎_elim}
use mathlib.Core.Bool.{false, false≢true}
use mathlib.Core.List.{List}
use Rattle.std.specs.Prelude.{Option, None, Some}
use Prim.Native.Nat.{ℕ, suc, ◌-◌, ◌<◌}
use native.Mathlib.Omega.{arith}
use borrow.Author.Tests.{eqb-true}
use lib.Dec.{eqb}
use lib.IntN.{ℤ, pos, negsuc}
use Rattle.text_runs.specs.Decimal.{number_in}
use Rattle.text_runs.specs.Lines.{numbers_in, end_total}
use Rattle.text_runs.proofs.UpToLaws.{tested}
use Rattle.feeding.specs.Budget.{Bounded}
use Rattle.feeding.proofs.BudgetLaws.{over-within-budget}
use Rattle.reels.specs.declared.reel.ReelPhase.{ReelPhase}
use Rattle.reels.specs.declared.reel.ReelPhase.TheVariants.{FirstRun, Frames, NextRun, Whole, Refused}
use Rattle.reels.specs.declared.reel.Reel.{Reel}
use Rattle.reels.specs.Reel.{run_limit, reel_begun, reel_over, to_phase, reel_refused, taken_or, run_begun, width_line, frame_added, frame_line, run_line_by, run_line, reel_taken, reel_given}
use Rattle.reels.specs.Program.{reel_is_over, reel_line, reel_program, reel_left_in, reel_lines_left}
use Rattle.reels.specs.EveryReel.{ReelOverWithin}
use Rattle.reels.proofs.LimitsKept.{width-passed, frame-passed}

refused-falls : (s : Reel) (told : ℕ × ℕ) → 0 < reel_lines_left s → reel_lines_left (reel_refused s told) < reel_lines_left s
unfolding reel_refused to_phase reel_left_in
refused-falls s told h = h

taken-falls : (s : Reel) (told : ℕ × ℕ) (next : Reel) → 0 < reel_lines_left s → (told.0 ≡ 0 → reel_lines_left next < reel_lines_left s) → reel_lines_left (taken_or s told next) < reel_lines_left s
unfolding taken_or
taken-falls s told next l h = ⊎_elim (λ e. rw e (h (eqb-true told.0 0 e))) (λ e. rw e (refused-falls s told l)) (tested (eqb told.0 0))

-- where a run may begin
module _ (s : Reel) (left : 0 < reel_lines_left s) where
  width-falls : (s.runs < run_limit → reel_left_in Frames (suc s.runs) 0 < reel_lines_left s) → (field : Option ℤ) → reel_lines_left (width_line s field) < reel_lines_left s
  unfolding width_line run_begun
  width-falls h (Some (pos N)) = taken-falls s _ (run_begun s N) left (λ e. h (width-passed N s.width s.runs e).0)
  width-falls h (Some (negsuc n)) = refused-falls s _ left
  width-falls h None = refused-falls s _ left

  module _ (p : s.phase ≡ Frames) where
    frame-falls : (read : Option (List ℤ)) → reel_lines_left (frame_line s read) < reel_lines_left s
    unfolding frame_line frame_added reel_left_in
    frame-falls None = refused-falls s _ left
    frame-falls (Some frame) = taken-falls s _ (frame_added s frame) left (λ e. rw p (omega (arith, (frame-passed s.width s.count frame e).0)))

    line-falls : (bytes : List ℕ) (field : Option ℤ) → reel_lines_left (run_line_by s bytes field) < reel_lines_left s
    unfolding run_line_by to_phase reel_left_in
    line-falls bytes (Some total) = taken-falls s _ (to_phase NextRun s) left (λ _. rw p (omega arith))
    line-falls bytes None = frame-falls (numbers_in bytes)

lines-fall : (s : Reel) (bytes : List ℕ) → reel_is_over s ≡ false → reel_lines_left (reel_line s bytes).0 < reel_lines_left s
unfolding reel_line reel_given reel_taken run_line reel_over reel_left_in
lines-fall s bytes on = by s.phase refl on
  where
    by : (phase : ReelPhase) → s.phase ≡ phase → reel_over phase ≡ false → reel_lines_left (reel_taken phase s bytes) < reel_lines_left s
    by FirstRun p on = width-falls s (rw p (omega arith)) (λ h. rw p (omega (arith, h))) (number_in bytes)
    by Frames p on = line-falls s (rw p (omega arith)) p bytes (end_total s.count bytes)
    by NextRun p on = width-falls s (rw p (omega arith)) (λ h. rw p (omega (arith, h))) (number_in bytes)
    by Whole p on = absurd (false≢true (sym on))
    by (Refused number line place) p on = absurd (false≢true (sym on))

pub reel-bounded : Bounded reel_program
reel-bounded = record { left = reel_lines_left; counts = lines-fall }

pub reel-over-within : ReelOverWithin
unfolding reel-bounded reel_left_in reel_begun
reel-over-within input h = over-within-budget reel_program reel-bounded reel_begun input h
