-- What is printed for one line of a reel: nothing where the reel goes on, one refusal where it is refused, and then nothing more.
use mathlib.Core.Path.{◌≡◌, refl, sym, ap, ◌∙◌}
use mathlib.Core.Logic.{⊎_elim}
use mathlib.Core.Bool.{true, false, false≢true}
use mathlib.Core.List.{List, [], ◌∷◌, append-nil}
use Prim.Native.Nat.{ℕ, ◌≤◌}
use borrow.Author.Tests.{le-leb}
use lib.IntN.{ℤ}
use lib.ListN.{length}
use Rattle.text_runs.specs.Line.{line_limit}
use Rattle.text_runs.specs.Input.{Line}
use Rattle.text_runs.specs.EveryInput.{refusal_line}
use Rattle.text_runs.proofs.UpToLaws.{tested}
use Rattle.feeding.specs.Program.{handed}
use Rattle.feeding.specs.Lines.{line_handed, printed_from}
use Rattle.feeding.proofs.LineLaws.{printed-over}
use Rattle.reels.specs.declared.reel.ReelPhase.{ReelPhase}
use Rattle.reels.specs.declared.reel.ReelPhase.TheVariants.{FirstRun, Frames, NextRun, Whole, Refused}
use Rattle.reels.specs.declared.reel.Reel.{Reel}
use Rattle.reels.specs.Reel.{reel_over, reel_line_number, to_phase, reel_refused, reel_taken, reel_says, reel_given}
use Rattle.reels.specs.Program.{reel_is_over, reel_line, reel_last, reel_program}

abbrev pub reel_at : ReelPhase → ℕ → ℕ → ℕ → ℕ → List ℤ → Reel
reel_at phase N runs count frames sums = record { phase = phase; width = N; runs = runs; count = count; frames = frames; sums = sums }

-- ---- a reel that goes on says nothing
says_nothing : (phase : ReelPhase) (s : Reel) → reel_over phase ≡ false → reel_says phase s ≡ []
unfolding reel_over reel_says
says_nothing FirstRun s on = refl
says_nothing Frames s on = refl
says_nothing NextRun s on = refl
says_nothing Whole s on = absurd (false≢true (sym on))
says_nothing (Refused number line place) s on = absurd (false≢true (sym on))

pub given_nothing : (before after : Reel) → reel_is_over after ≡ false → reel_given before after ≡ (after, [])
unfolding reel_given
given_nothing before after on =
    ⊎_elim (λ e. rw e) (λ e. rw e (ap (λ (text : List ℕ). (after, text)) (says_nothing after.phase after on))) (tested (reel_over before.phase))

-- a whole line that is not too long
pub whole-line : (s : Reel) (bytes : List ℕ) → length bytes ≤ line_limit → line_handed reel_program s (true, bytes) ≡ reel_given s (reel_taken s.phase s bytes)
unfolding line_handed handed reel_line
whole-line s bytes h = rw (le-leb (length bytes) line_limit h)

pub goes_on : (s after : Reel) (bytes : List ℕ) (lines : List Line) → length bytes ≤ line_limit → reel_taken s.phase s bytes ≡ after → reel_is_over after ≡ false
    → printed_from reel_program s ((true, bytes) ∷ lines) ≡ printed_from reel_program after lines
unfolding printed_from
goes_on s after bytes lines h e on = rw (whole-line s bytes h ∙ ap (reel_given s) e ∙ given_nothing s after on)

-- ---- a reel that is over says no more
nothing-follows : (s : Reel) (lines : List Line) → reel_is_over s ≡ true → printed_from reel_program s lines ≡ []
unfolding reel_last reel_given
nothing-follows s lines o = printed-over reel_program s lines o ∙ rw o

pub refused-alone : (s : Reel) (told : ℕ × ℕ) (line : Line) (lines : List Line) → reel_is_over s ≡ false → line_handed reel_program s line ≡ reel_given s (reel_refused s told)
    → printed_from reel_program s (line ∷ lines) ≡ refusal_line told.0 (reel_line_number s.phase s.runs s.frames) told.1
unfolding printed_from reel_given reel_refused to_phase reel_says reel_over
refused-alone s told line lines on e = rw (e, on, nothing-follows (reel_refused s told) lines refl) (append-nil _)
