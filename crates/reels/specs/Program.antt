-- The squares over a reel as one of the programs over lines.
use Rattle.std.specs.Prelude.{◌≡◌, refl, Bool, true, List, [], ℕ, ◌+◌, ◌-◌, ◌*◌}
use Rattle.std.proofs.lemmas.Bool.{false≢true}
use Rattle.runs.specs.Record.{frame_limit}
use Rattle.feeding.specs.Program.{Program}
use Rattle.feeding.specs.Lines.{printed_of}
use Rattle.reels.specs.declared.reel.ReelPhase.{ReelPhase}
use Rattle.reels.specs.declared.reel.ReelPhase.TheVariants.{FirstRun, Frames, NextRun, Whole, Refused}
use Rattle.reels.specs.declared.reel.Reel.{Reel}
use Rattle.reels.specs.Reel.{run_limit, reel_begun, reel_over, reel_refused, to_phase, reel_taken, reel_broken, reel_ended, reel_given}

abbrev pub reel_is_over : Reel → Bool
reel_is_over s = reel_over s.phase

unfoldable pub reel_line : Reel → List ℕ → Reel × List ℕ
reel_line s bytes = reel_given s (reel_taken s.phase s bytes)

unfoldable pub reel_cut : Reel → Reel × List ℕ
reel_cut s = reel_given s (reel_broken s.phase s)

unfoldable pub reel_last : Reel → Reel × List ℕ
reel_last s = reel_given s (reel_ended s.phase s)

-- ---- with a broken line it is over, and over it is quiet
broken-over : (phase : ReelPhase) (s : Reel) → s.phase ≡ phase → reel_over (reel_broken phase s).phase ≡ true
unfolding reel_broken reel_refused to_phase reel_over
broken-over FirstRun s e = refl
broken-over Frames s e = refl
broken-over NextRun s e = refl
broken-over Whole s e = rw e
broken-over (Refused number line place) s e = rw e

pub stops : (s : Reel) → reel_is_over (reel_cut s).0 ≡ true
unfolding reel_cut reel_given
stops s = broken-over s.phase s refl

taken-quiet : (phase : ReelPhase) (s : Reel) (bytes : List ℕ) → reel_over phase ≡ true → reel_taken phase s bytes ≡ s
unfolding reel_taken reel_over
taken-quiet FirstRun s bytes o = absurd (false≢true o)
taken-quiet Frames s bytes o = absurd (false≢true o)
taken-quiet NextRun s bytes o = absurd (false≢true o)
taken-quiet Whole s bytes o = refl
taken-quiet (Refused number line place) s bytes o = refl

broken-quiet : (phase : ReelPhase) (s : Reel) → reel_over phase ≡ true → reel_broken phase s ≡ s
unfolding reel_broken reel_over
broken-quiet FirstRun s o = absurd (false≢true o)
broken-quiet Frames s o = absurd (false≢true o)
broken-quiet NextRun s o = absurd (false≢true o)
broken-quiet Whole s o = refl
broken-quiet (Refused number line place) s o = refl

given-quiet : (s after : Reel) → reel_is_over s ≡ true → after ≡ s → reel_given s after ≡ (s, [])
unfolding reel_given
given-quiet s after o e = rw (o, e)

pub quiet : (s : Reel) → reel_is_over s ≡ true → ((bytes : List ℕ) → reel_line s bytes ≡ (s, [])) × (reel_cut s ≡ (s, []))
unfolding reel_line reel_cut
quiet s o = ((λ bytes. given-quiet s _ o (taken-quiet s.phase s bytes o)), given-quiet s _ o (broken-quiet s.phase s o))

abbrev pub reel_program : Program
reel_program = record { State = Reel; line = reel_line; broken = reel_cut; end = reel_last; over = reel_is_over; stops = stops; quiet = quiet }

-- all that is printed for an input
abbrev pub reel_printed : List ℕ → List ℕ
reel_printed input = printed_of reel_program reel_begun input

-- ---- the lines that a reel still takes: 100 runs of a width, 65,537 frames and an end line, and one that is refused
abbrev pub run_lines : ℕ
run_lines = 65539

unfoldable pub reel_left_in : ReelPhase → ℕ → ℕ → ℕ
reel_left_in FirstRun runs count = 6553901
reel_left_in Frames runs count = 2 + (frame_limit - count) + (run_limit - runs) * run_lines
reel_left_in NextRun runs count = 1 + (run_limit - runs) * run_lines
reel_left_in Whole runs count = 0
reel_left_in (Refused number line place) runs count = 0

abbrev pub reel_lines_left : Reel → ℕ
reel_lines_left s = reel_left_in s.phase s.runs s.count
