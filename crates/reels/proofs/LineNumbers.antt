-- The number of the line that comes is one more than the line feeds that came.
use mathlib.Core.Path.{◌≡◌, refl, sym, ap, ◌∙◌}
use mathlib.Core.Logic.{⊎_elim}
use mathlib.Core.Bool.{true, false, false≢true}
use mathlib.Core.List.{List, [], ◌∷◌}
use Prim.Native.Nat.{ℕ, suc, ◌+◌}
use native.Mathlib.Omega.{arith}
use borrow.Author.Tests.{ne_eqb}
use Rattle.text_runs.specs.Lines.{line_feed}
use Rattle.feeding.specs.Program.{handed}
use Rattle.feeding.specs.Feed.{Reader, reader_begun, handed_on, gathered, fed}
use Rattle.feeding.proofs.FeedLaws.{by_byte, fed-over}
use Rattle.reels.specs.declared.reel.ReelPhase.{ReelPhase}
use Rattle.reels.specs.declared.reel.ReelPhase.TheVariants.{FirstRun, Frames, NextRun, Whole, Refused}
use Rattle.reels.specs.declared.reel.Reel.{Reel}
use Rattle.reels.specs.Reel.{reel_begun, reel_over, reel_line_number, to_phase, reel_refused, run_begun, frame_added, reel_taken, reel_given}
use Rattle.reels.specs.Program.{reel_is_over, reel_line, stops, reel_program}
use Rattle.reels.specs.EveryReel.{feeds_in}
use Rattle.reels.proofs.AnyReelLine.{RefusedTo, width_is, run-line-is}

abbrev pub number_of : Reel → ℕ
number_of s = reel_line_number s.phase s.runs s.frames

-- ---- a line that is taken counts
refused_over : {A : Type 0} (s after : Reel) → RefusedTo s after → reel_is_over after ≡ false → A
unfolding reel_refused to_phase reel_over
refused_over s after r on = absurd (false≢true (sym on ∙ ap reel_is_over r.after_is))

line-counted : (phase : ReelPhase) (s : Reel) (bytes : List ℕ) → reel_over phase ≡ false → reel_is_over (reel_taken phase s bytes) ≡ false
    → number_of (reel_taken phase s bytes) ≡ suc (reel_line_number phase s.runs s.frames)
unfolding reel_taken reel_over reel_line_number run_begun to_phase frame_added
line-counted FirstRun s bytes on next = ⊎_elim (λ f. rw f.after_is (omega arith)) (λ r. refused_over s _ r next) (width_is s bytes)
line-counted Frames s bytes on next =
    ⊎_elim (λ f. rw f.after_is (omega arith)) (⊎_elim (λ f. rw f.after_is (omega arith)) (λ r. refused_over s _ r next)) (run-line-is s bytes)
line-counted NextRun s bytes on next = ⊎_elim (λ f. rw f.after_is (omega arith)) (λ r. refused_over s _ r next) (width_is s bytes)
line-counted Whole s bytes on next = absurd (false≢true (sym on))
line-counted (Refused number line place) s bytes on next = absurd (false≢true (sym on))

-- ---- byte by byte
abbrev Counted : Reader reel_program → ℕ → Type 0
Counted r n = reel_is_over r.state ≡ false → number_of r.state ≡ suc n

fed-counted : (r : Reader reel_program) (bytes : List ℕ) (n : ℕ) → Counted r n → Counted (fed reel_program r bytes) (n + feeds_in bytes)
unfolding fed gathered handed_on handed feeds_in reel_line reel_given
fed-counted r [] n h = λ on. omega (arith, h on)
fed-counted r (b ∷ bytes) n h =
    by_byte reel_program r b (λ x _. Counted (fed reel_program x bytes) (n + feeds_in (b ∷ bytes)))
    (λ o k. absurd (false≢true (sym k ∙ ap (λ (x : Reader reel_program). reel_is_over x.state) (fed-over reel_program r bytes o) ∙ o)))
    (λ on e k. rw e (omega (arith, fed-counted (handed_on reel_program true r) bytes (suc n) (λ next. line-counted r.state.phase r.state r.had on next ∙ ap suc (h on)) k)))
    (λ on other l. rw (ne_eqb b line_feed other) (fed-counted (gathered reel_program r b) bytes n h))
    (λ on other l. rw (ne_eqb b line_feed other) (fed-counted (handed_on reel_program false r) bytes n (λ next. absurd (false≢true (sym next ∙ stops r.state)))))

pub feeds-counted : (text : List ℕ) → reel_is_over (fed reel_program (reader_begun reel_program reel_begun) text).state ≡ false
    → number_of (fed reel_program (reader_begun reel_program reel_begun) text).state ≡ suc (feeds_in text)
unfolding reader_begun reel_begun reel_line_number
feeds-counted text on = omega (arith, fed-counted (reader_begun reel_program reel_begun) text 0 (λ _. refl) on)
