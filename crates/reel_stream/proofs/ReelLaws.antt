-- What the step on a line gives, as the letters say it.
use mathlib.Core.Path.{◌≡◌, refl, sym, ap, subst, ◌∙◌}
use mathlib.Core.Logic.{⊎_elim}
use mathlib.Core.Bool.{Bool, true, false, cond, false≢true}
use mathlib.Core.List.{List, []}
use Rattle.std.specs.Prelude.{Option, None, Some}
use Prim.Native.Nat.{ℕ}
use lib.Dec.{eqb}
use lib.IntN.{ℤ, pos, negsuc}
use Rattle.text_runs.specs.Decimal.{number_in}
use Rattle.text_runs.specs.Lines.{numbers_in, end_total}
use Rattle.text_runs.proofs.UpToLaws.{tested}
use Rattle.feeding.specs.Program.{handed}
use Rattle.reels.specs.declared.reel.Reel.{Reel}
use Rattle.reels.specs.declared.reel.ReelPhase.{ReelPhase}
use Rattle.reels.specs.declared.reel.ReelPhase.TheVariants.{FirstRun, Frames, NextRun, Whole, Refused}
use Rattle.reels.specs.Reel.{reel_over, to_phase, reel_refused, taken_or, run_begun, width_line, frame_added, frame_line, run_line_by, run_line, reel_taken, reel_broken, reel_ended, reel_says, reel_given}
use Rattle.reels.specs.Limits.{WithinLimits}
use Rattle.reels.specs.Program.{reel_is_over, reel_line, reel_cut, reel_last, reel_program}
use Rattle.reels.proofs.LimitsKept.{limits-kept}
use Rattle.reel_page.specs.Own.Refusal.{refusal_in}

-- ---- what is said, once
pub over-says : (before after : Reel) → reel_is_over before ≡ true → [] ≡ (reel_given before after).1
unfolding reel_given
over-says before after e = rw e

pub going-says : (before after : Reel) → reel_is_over before ≡ false → reel_says after.phase after ≡ (reel_given before after).1
unfolding reel_given
going-says before after e = rw e

-- ---- a line, whole or broken
pub line-given : (s : Reel) (whole : Bool) (bytes : List ℕ) {r : Reel} → r ≡ cond whole (reel_taken s.phase s bytes) (reel_broken s.phase s)
    → reel_given s r ≡ handed reel_program s whole bytes
unfolding handed reel_line reel_cut
line-given s true bytes e = ap (reel_given s) e
line-given s false bytes e = ap (reel_given s) e

-- ---- a line comes to no page
is_whole : ReelPhase → Bool
is_whole FirstRun = false
is_whole Frames = false
is_whole NextRun = false
is_whole Whole = true
is_whole (Refused number line place) = false

taken-no-page : (s : Reel) (told : ℕ × ℕ) (next : Reel) → is_whole next.phase ≡ false → is_whole (taken_or s told next).phase ≡ false
unfolding is_whole taken_or reel_refused to_phase
taken-no-page s told next e = ⊎_elim (λ t. rw t e) (λ t. rw t) (tested (eqb told.0 0))

width-no-page : (s : Reel) (field : Option ℤ) → is_whole (width_line s field).phase ≡ false
unfolding is_whole width_line run_begun reel_refused to_phase
width-no-page s (Some (pos N)) = taken-no-page s _ (run_begun s N) refl
width-no-page s (Some (negsuc n)) = refl
width-no-page s None = refl

frame-no-page : (s : Reel) (read : Option (List ℤ)) → is_whole (frame_line s read).phase ≡ false
unfolding is_whole frame_line frame_added reel_refused to_phase
frame-no-page s None = refl
frame-no-page s (Some frame) = taken-no-page s _ (frame_added s frame) refl

run-no-page : (s : Reel) (bytes : List ℕ) (field : Option ℤ) → is_whole (run_line_by s bytes field).phase ≡ false
unfolding is_whole run_line_by to_phase
run-no-page s bytes (Some total) = taken-no-page s _ (to_phase NextRun s) refl
run-no-page s bytes None = frame-no-page s (numbers_in bytes)

line-no-page : (phase : ReelPhase) (s : Reel) (whole : Bool) (bytes : List ℕ) → reel_over phase ≡ false → is_whole (cond whole (reel_taken phase s bytes) (reel_broken phase s)).phase ≡ false
unfolding is_whole reel_taken run_line reel_broken reel_refused to_phase reel_over
line-no-page FirstRun s true bytes on = width-no-page s (number_in bytes)
line-no-page FirstRun s false bytes on = refl
line-no-page Frames s true bytes on = run-no-page s bytes (end_total s.count bytes)
line-no-page Frames s false bytes on = refl
line-no-page NextRun s true bytes on = width-no-page s (number_in bytes)
line-no-page NextRun s false bytes on = refl
line-no-page Whole s whole bytes on = absurd (false≢true (sym on))
line-no-page (Refused number line place) s whole bytes on = absurd (false≢true (sym on))

refusal-alone : (phase : ReelPhase) (s : Reel) → is_whole phase ≡ false → refusal_in phase ≡ reel_says phase s
unfolding is_whole refusal_in reel_says
refusal-alone FirstRun s e = refl
refusal-alone Frames s e = refl
refusal-alone NextRun s e = refl
refusal-alone Whole s e = absurd (false≢true (sym e))
refusal-alone (Refused number line place) s e = refl

-- so its refusal is what it gives
pub line-says : (s : Reel) (whole : Bool) (bytes : List ℕ) {r : Reel} → reel_is_over s ≡ false → r ≡ cond whole (reel_taken s.phase s bytes) (reel_broken s.phase s)
    → refusal_in r.phase ≡ (reel_given s r).1
line-says s whole bytes {r} on e = refusal-alone r.phase r (ap (λ (x : Reel). is_whole x.phase) e ∙ line-no-page s.phase s whole bytes on) ∙ going-says s r on

-- ---- the end
pub end-given : (s : Reel) {r : Reel} → r ≡ reel_ended s.phase s → reel_given s r ≡ reel_last s
unfolding reel_last
end-given s e = ap (reel_given s) e

pub end_kept : (s : Reel) {r : Reel} → r ≡ reel_ended s.phase s → WithinLimits s → WithinLimits r
end_kept s e w = subst WithinLimits (sym e) (limits-kept.ended s w)
