-- The texts of the runs of a reel, line by line: each is taken, and at the end the page of all frames is printed.
use Rattle.std.specs.Prelude.{Ok, None}
use mathlib.Core.Path.{◌≡◌, refl, ap, ◌∙◌}
use mathlib.Core.Bool.{true}
use mathlib.Core.List.{List, [], ◌∷◌, ◌++◌}
use Prim.Native.Nat.{ℕ, suc, ◌+◌, ◌≤◌, ◌<◌}
use native.Mathlib.Omega.{arith}
use borrow.Author.Tests.{lt-ltb, eq-eqb, ne_eqb}
use lib.IntN.{ℤ, pos}
use lib.ListN.{length, take, length-append}
use Rattle.integers.specs.Vectors.{AllAbs, Rows}
use Rattle.tables.specs.Widths.{half_width}
use Rattle.steps.specs.Limits.{coefficient_limit}
use Rattle.distance.specs.Statement.{IsWidth}
use Rattle.runs.specs.Record.{frame_limit, zeros}
use Rattle.runs.specs.Answers.{first_beyond}
use Rattle.runs.specs.Gate.{inside}
use Rattle.runs.proofs.Searches.{inside-all, nothing_is}
use Rattle.runs.proofs.RecordLaws.{width-le, width-pos}
use Rattle.text_runs.specs.Decimal.{decimal, printed, number_in, fits, bits64, all_bits}
use Rattle.text_runs.specs.Lines.{row, end_line}
use Rattle.text_runs.specs.Input.{Line, lines_of}
use Rattle.text_runs.proofs.DecimalLaws.{decimal-within}
use Rattle.text_runs.proofs.RowLaws.{row-length}
use Rattle.text_runs.proofs.Inverse.{read-printed}
use Rattle.text_runs.proofs.EndRead.{end-length, end_read, row-not-end}
use Rattle.text_runs.proofs.LineLaws.{lines_between, text-lines-front}
use Rattle.text_runs.proofs.OneLine.{some_read}
use Rattle.text_runs.proofs.RunRows.{within-bits}
use Rattle.feeding.specs.Lines.{printed_from, printed_of}
use Rattle.reels.specs.declared.reel.ReelPhase.TheVariants.{Frames, NextRun}
use Rattle.reels.specs.declared.reel.Reel.{Reel}
use Rattle.reels.specs.Verdicts.{verdict_told}
use Rattle.reels.specs.Page.{page, page_of}
use Rattle.reels.specs.Reel.{run_limit, reel_begun, reel_over, to_phase, taken_or, width_asked, run_begun, width_line, range_asked, frame_asked, squares_added, frame_added, frame_line, end_asked, run_line_by, run_line, reel_taken, reel_ended, reel_says, reel_given}
use Rattle.reels.specs.Program.{reel_last, reel_program}
use Rattle.reels.specs.EveryReel.{FramesAndTotal, FramesInRange, RunOf, EachRun, texts_of, all_frames, EveryReelPrinted}
use Rattle.reels.proofs.FrameSums.{frames_added, added-behind, sums-are}
use Rattle.reels.proofs.ReelSteps.{reel_at, goes_on}

-- ---- a width line
module _ (s : Reel) (N : ℕ) (w : IsWidth N) (asked : width_asked N s.width s.runs ≡ (Ok tt)) where
  width-taken : width_line s (number_in (decimal N)) ≡ run_begun s N
  unfolding width_line taken_or verdict_told printed fits
  width-taken = rw (read-printed (pos N) (omega (arith, width-le N w)), asked)

  pub width-goes-on : reel_taken s.phase s (decimal N) ≡ width_line s (number_in (decimal N)) → (lines : List Line)
      → printed_from reel_program s ((true, decimal N) ∷ lines) ≡ printed_from reel_program (run_begun s N) lines
  unfolding run_begun reel_over
  width-goes-on e lines = goes_on s (run_begun s N) (decimal N) lines (omega (arith, decimal-within N)) (e ∙ width-taken) refl

-- ---- a frame
frame-bits : (frame : List ℤ) → AllAbs coefficient_limit frame → all_bits frame
frame-bits frame h = within-bits coefficient_limit frame (omega arith) h

none-beyond : (frame : List ℤ) → AllAbs coefficient_limit frame → first_beyond (pos coefficient_limit) frame 0 ≡ None
unfolding inside
none-beyond frame h = nothing_is _ (inside-all coefficient_limit frame h)

module _ (N runs count frames : ℕ) (sums : List ℤ) where
  frame-goes-on : IsWidth N → count < frame_limit → (frame : List ℤ) → length frame ≡ N → AllAbs coefficient_limit frame → (lines : List Line)
      → printed_from reel_program (reel_at Frames N runs count frames sums) ((true, row frame) ∷ lines)
      ≡ printed_from reel_program (reel_at Frames N runs (suc count) (suc frames) (squares_added sums frame)) lines
  unfolding reel_taken run_line run_line_by frame_line taken_or frame_asked range_asked verdict_told frame_added reel_over
  frame-goes-on w h frame l within lines =
      goes_on (reel_at Frames N runs count frames sums) (reel_at Frames N runs (suc count) (suc frames) (squares_added sums frame)) (row frame) lines
      (omega (arith, row-length frame (frame-bits frame within), width-le N w))
      (rw (row-not-end frame count, some_read frame (omega (arith, width-pos N w)) (frame-bits frame within), lt-ltb count frame_limit h, eq-eqb (length frame) N l, none-beyond frame within))
      refl

  end-goes-on : (total : ℤ) → bits64 total → 1 ≤ count → count ≤ frame_limit → (lines : List Line)
      → printed_from reel_program (reel_at Frames N runs count frames sums) ((true, end_line count total) ∷ lines) ≡ printed_from reel_program (reel_at NextRun N runs count frames sums) lines
  unfolding reel_taken run_line run_line_by taken_or end_asked verdict_told to_phase reel_over
  end-goes-on total bits h l lines =
      goes_on (reel_at Frames N runs count frames sums) (reel_at NextRun N runs count frames sums) (end_line count total) lines (omega (arith, end-length count total bits))
      (rw (end_read count total (omega arith) bits, ne_eqb count 0 (λ e. omega arith))) refl

-- ---- a run
module _ (N runs : ℕ) (w : IsWidth N) where
  frames-go-on : (run : List (List ℤ)) (count frames last all : ℕ) (sums : List ℤ) → Rows N run → FramesInRange run
      → last ≡ count + length run → all ≡ frames + length run → last ≤ frame_limit → (lines : List Line)
      → printed_from reel_program (reel_at Frames N runs count frames sums) (lines_between run lines) ≡ printed_from reel_program (reel_at Frames N runs last all (frames_added sums run)) lines
  unfolding lines_between FramesInRange frames_added
  frames-go-on [] count frames last all sums rows within t a h lines =
      let d : last ≡ count = omega arith in
      let e : all ≡ frames = omega arith in
      rw (d, e)
  frames-go-on (frame ∷ run) count frames last all sums rows within t a h lines =
      frame-goes-on N runs count frames sums w (omega arith) frame rows.0 within.0 (lines_between run lines)
      ∙ frames-go-on run (suc count) (suc frames) last all (squares_added sums frame) rows.1 within.1 (omega arith) (omega arith) h lines

  run-goes-on : (run : List (List ℤ)) (total : ℤ) (frames all : ℕ) (sums : List ℤ) → RunOf N run → bits64 total → all ≡ frames + length run → (lines : List Line)
      → printed_from reel_program (reel_at Frames N runs 0 frames sums) (lines_between run ((true, end_line (length run) total) ∷ lines))
      ≡ printed_from reel_program (reel_at NextRun N runs (length run) all (frames_added sums run)) lines
  run-goes-on run total frames all sums r bits a lines =
      frames-go-on run 0 frames (length run) all sums r.rows r.within (omega arith) a r.few ((true, end_line (length run) total) ∷ lines)
      ∙ end-goes-on N runs (length run) all (frames_added sums run) total bits r.some r.few lines

-- ---- all runs
first-asked : (N : ℕ) → IsWidth N → width_asked N 0 0 ≡ (Ok tt)
unfolding width_asked
first-asked N w = rw (ne_eqb (half_width N) 0 (λ e. omega arith))

next-asked : (N runs : ℕ) → IsWidth N → 1 ≤ runs → runs < run_limit → width_asked N N runs ≡ (Ok tt)
unfolding width_asked
next-asked N runs w h l = rw (ne_eqb (half_width N) 0 (λ e. omega arith), ne_eqb runs 0 (λ e. omega arith), eq-eqb N N refl, lt-ltb runs run_limit l)

-- the lines of the texts of runs, the first of which is there
pub texts-lines : (N : ℕ) (run : FramesAndTotal) (runs : List FramesAndTotal)
    → lines_of (texts_of N (run ∷ runs)) ≡ (true, decimal N) ∷ lines_between run.0 ((true, end_line (length run.0) run.1) ∷ lines_of (texts_of N runs))
unfolding texts_of
texts-lines N run runs = text-lines-front N run.0 run.1 (texts_of N runs)

module _ (N : ℕ) (w : IsWidth N) where
  first_run : (s : Reel) (run : FramesAndTotal) (more : List FramesAndTotal) → RunOf N run.0 → bits64 run.1 → width_asked N s.width s.runs ≡ (Ok tt)
      → reel_taken s.phase s (decimal N) ≡ width_line s (number_in (decimal N))
      → printed_from reel_program s (lines_of (texts_of N (run ∷ more)))
      ≡ printed_from reel_program (reel_at NextRun N (suc s.runs) (length run.0) (s.frames + length run.0) (frames_added s.sums run.0)) (lines_of (texts_of N more))
  unfolding run_begun
  first_run s run more r bits asked e =
      ap (printed_from reel_program s) (texts-lines N run more)
      ∙ width-goes-on s N w asked e (lines_between run.0 ((true, end_line (length run.0) run.1) ∷ lines_of (texts_of N more)))
      ∙ run-goes-on N (suc s.runs) w run.0 run.1 s.frames (s.frames + length run.0) s.sums r bits refl (lines_of (texts_of N more))

  runs-printed : (more : List FramesAndTotal) (runs count frames all : ℕ) (sums : List ℤ) → EachRun N more → 1 ≤ runs → runs + length more ≤ run_limit
      → all ≡ frames + length (all_frames more)
      → printed_from reel_program (reel_at NextRun N runs count frames sums) (lines_of (texts_of N more)) ≡ page (take N (frames_added sums (all_frames more))) all
  unfolding printed_from EachRun texts_of lines_of all_frames frames_added reel_taken reel_last reel_given reel_ended to_phase reel_says reel_over
  runs-printed [] runs count frames all sums each h l a = let e : all ≡ frames = omega arith in rw e
  runs-printed (run ∷ more) runs count frames all sums each h l a =
      first_run (reel_at NextRun N runs count frames sums) run more each.0 each.1 (next-asked N runs w h (omega arith)) refl
      ∙ runs-printed more (suc runs) (length run.0) (frames + length run.0) all (frames_added sums run.0) each.2 (omega arith) (omega arith)
      (omega (arith, length-append run.0 (all_frames more)))
      ∙ ap (λ (ss : List ℤ). page (take N ss) all) (added-behind sums run.0 (all_frames more))

  reel-printed : (runs : List FramesAndTotal) → EachRun N runs → 1 ≤ length runs → length runs ≤ run_limit
      → printed_from reel_program reel_begun (lines_of (texts_of N runs)) ≡ page (take N (frames_added (zeros 128) (all_frames runs))) (length (all_frames runs))
  unfolding EachRun all_frames reel_taken reel_begun
  reel-printed [] each h l = absurd (omega arith)
  reel-printed (run ∷ more) each h l =
      first_run reel_begun run more each.0 each.1 (first-asked N w) refl
      ∙ runs-printed more 1 (length run.0) (0 + length run.0) (length (run.0 ++ all_frames more)) (frames_added (zeros 128) run.0) each.2 (omega arith) (omega arith)
      (omega (arith, length-append run.0 (all_frames more)))
      ∙ ap (λ (ss : List ℤ). page (take N ss) (length (run.0 ++ all_frames more))) (added-behind (zeros 128) run.0 (all_frames more))

pub every-reel-printed : EveryReelPrinted
unfolding printed_of page_of
every-reel-printed N runs r =
    reel-printed N r.wide runs r.each r.some r.few
    ∙ ap (λ (sums : List ℤ). page sums (length (all_frames runs))) (sums-are 128 N (all_frames runs) (width-le N r.wide))
