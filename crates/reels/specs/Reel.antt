-- One line of a reel, and the end of its input: request 1. A reel is up to 100 runs of frames as text, one behind the other.
use Rattle.std.specs.Prelude.{Ok, Err, Bool, true, false, cond, List, [], ◌∷◌, ℕ, suc, ◌+◌, ◌*◌, eqb, ltb, ℤ, pos, negsuc, ◌+ℤ◌, length, take, Option, Some, None}
use Rattle.tables.specs.Widths.{half_width}
use Rattle.steps.specs.Limits.{coefficient_limit}
use Rattle.runs.specs.Answers.{first_beyond}
use Rattle.runs.specs.Record.{frame_limit, zeros}
use Rattle.text_runs.specs.Decimal.{number_in}
use Rattle.text_runs.specs.Lines.{numbers_in, end_total}
use Rattle.text_runs.specs.EveryInput.{refusal_line}
use Rattle.reels.specs.declared.verdict.Refusal.TheVariants.{Width, Full, Empty, Length, Range, Form, OtherWidth, RunTooMany}
use Rattle.reels.specs.declared.reel.ReelPhase.{ReelPhase}
use Rattle.reels.specs.declared.reel.ReelPhase.TheVariants.{FirstRun, Frames, NextRun, Whole, Refused}
use Rattle.reels.specs.declared.reel.Reel.{Reel}
use Rattle.reels.specs.Verdicts.{Verdict, verdict_told}
use Rattle.reels.specs.Page.{squared, page}

-- the most runs of a reel
abbrev pub run_limit : ℕ
run_limit = 100

unfoldable pub reel_begun : Reel
reel_begun = record { phase = FirstRun; width = 0; runs = 0; count = 0; frames = 0; sums = zeros 128 }

unfoldable pub reel_over : ReelPhase → Bool
reel_over FirstRun = false
reel_over Frames = false
reel_over NextRun = false
reel_over Whole = true
reel_over (Refused number line place) = true

-- The number of the line that comes, through the whole input: every run has two lines besides its frames, and one of the last has not come
-- while its frames come.
unfoldable pub reel_line_number : ReelPhase → ℕ → ℕ → ℕ
reel_line_number FirstRun runs frames = suc (2 * runs + frames)
reel_line_number Frames runs frames = 2 * runs + frames
reel_line_number NextRun runs frames = suc (2 * runs + frames)
reel_line_number Whole runs frames = suc (2 * runs + frames)
reel_line_number (Refused number line place) runs frames = suc (2 * runs + frames)

unfoldable pub to_phase : ReelPhase → Reel → Reel
to_phase phase s = record { phase = phase; width = s.width; runs = s.runs; count = s.count; frames = s.frames; sums = s.sums }

-- a refused line: its number, which line it is, and the place
unfoldable pub reel_refused : Reel → ℕ × ℕ → Reel
reel_refused s told = to_phase (Refused told.0 (reel_line_number s.phase s.runs s.frames) told.1) s

-- a line that is taken leads on to `next`, any other one is refused
unfoldable pub taken_or : Reel → ℕ × ℕ → Reel → Reel
taken_or s told next = cond (eqb told.0 0) next (reel_refused s told)

-- ---- the width line of a run: 1, then 14 and 15 where it is not the first
unfoldable pub width_asked : ℕ → ℕ → ℕ → Verdict
width_asked N first runs =
    cond (eqb (half_width N) 0) (Err Width)
    (cond (eqb runs 0) (Ok tt)
    (cond (eqb N first) (cond (ltb runs run_limit) (Ok tt) (Err RunTooMany)) (Err OtherWidth)))

unfoldable pub run_begun : Reel → ℕ → Reel
run_begun s N = record { phase = Frames; width = N; runs = suc s.runs; count = 0; frames = s.frames; sums = s.sums }

unfoldable pub width_line : Reel → Option ℤ → Reel
width_line s (Some (pos N)) = taken_or s (verdict_told (width_asked N s.width s.runs)) (run_begun s N)
width_line s (Some (negsuc n)) = reel_refused s (verdict_told (Err Width))
width_line s None = reel_refused s (verdict_told (Err Form))

-- ---- a frame: 4, 6 and 9
unfoldable pub range_asked : Option ℕ → Verdict
range_asked (Some place) = Err (Range place)
range_asked None = (Ok tt)

unfoldable pub frame_asked : ℕ → ℕ → List ℤ → Verdict
frame_asked N count frame =
    cond (ltb count frame_limit) (cond (eqb (length frame) N) (range_asked (first_beyond (pos coefficient_limit) frame 0)) (Err Length)) (Err Full)

-- its squares are added, each to the sum of its own number
unfoldable pub squares_added : List ℤ → List ℤ → List ℤ
squares_added [] frame = []
squares_added (s ∷ sums) [] = s ∷ sums
squares_added (s ∷ sums) (x ∷ frame) = (s +ℤ squared x) ∷ squares_added sums frame

unfoldable pub frame_added : Reel → List ℤ → Reel
frame_added s frame = record {
  phase = Frames;
  width = s.width;
  runs = s.runs;
  count = suc s.count;
  frames = suc s.frames;
  sums = squares_added s.sums frame;
}

unfoldable pub frame_line : Reel → Option (List ℤ) → Reel
frame_line s None = reel_refused s (verdict_told (Err Form))
frame_line s (Some frame) = taken_or s (verdict_told (frame_asked s.width s.count frame)) (frame_added s frame)

-- ---- the end line, with its run's count: 5. Its total is any number of 64 bits.
unfoldable pub end_asked : ℕ → Verdict
end_asked count = cond (eqb count 0) (Err Empty) (Ok tt)

unfoldable pub run_line_by : Reel → List ℕ → Option ℤ → Reel
run_line_by s bytes (Some total) = taken_or s (verdict_told (end_asked s.count)) (to_phase NextRun s)
run_line_by s bytes None = frame_line s (numbers_in bytes)

unfoldable pub run_line : Reel → List ℕ → Reel
run_line s bytes = run_line_by s bytes (end_total s.count bytes)

-- ---- a whole line, a broken one, and the end of the input, by what should come
unfoldable pub reel_taken : ReelPhase → Reel → List ℕ → Reel
reel_taken FirstRun s bytes = width_line s (number_in bytes)
reel_taken Frames s bytes = run_line s bytes
reel_taken NextRun s bytes = width_line s (number_in bytes)
reel_taken Whole s bytes = s
reel_taken (Refused number line place) s bytes = s

unfoldable pub reel_broken : ReelPhase → Reel → Reel
reel_broken FirstRun s = reel_refused s (verdict_told (Err Form))
reel_broken Frames s = reel_refused s (verdict_told (Err Form))
reel_broken NextRun s = reel_refused s (verdict_told (Err Form))
reel_broken Whole s = s
reel_broken (Refused number line place) s = s

-- the input may stop behind an end line alone; else text is missing
unfoldable pub reel_ended : ReelPhase → Reel → Reel
reel_ended FirstRun s = reel_refused s (verdict_told (Err Form))
reel_ended Frames s = reel_refused s (verdict_told (Err Form))
reel_ended NextRun s = to_phase Whole s
reel_ended Whole s = s
reel_ended (Refused number line place) s = s

-- ---- what is printed where a reel has come to its end: the page, or the refusal alone; before, nothing
unfoldable pub reel_says : ReelPhase → Reel → List ℕ
reel_says FirstRun s = []
reel_says Frames s = []
reel_says NextRun s = []
reel_says Whole s = page (take s.width s.sums) s.frames
reel_says (Refused number line place) s = refusal_line number line place

-- what a line or the end gives: the reel afterwards, and what is printed, once
unfoldable pub reel_given : Reel → Reel → Reel × List ℕ
reel_given before after = (after, cond (reel_over before.phase) [] (reel_says after.phase after))
