-- A verdict on a line, and what it leads to.
use Rattle.std.specs.Prelude.{Ok, Err, Option, Some, None}
use mathlib.Core.Path.{◌≡◌, refl, sym, ap, ◌∙◌}
use mathlib.Core.Bool.{true, false, cond}
use mathlib.Core.List.{List}
use Prim.Native.Nat.{ℕ, ◌≤◌, ◌<◌}
use borrow.Author.Tests.{eq-eqb, ne_eqb, lt-ltb, le-ltb}
use lib.IntN.{ℤ, pos}
use lib.ListN.{length}
use Rattle.tables.specs.Widths.{half_width}
use Rattle.steps.specs.Limits.{coefficient_limit}
use Rattle.runs.specs.Answers.{first_beyond}
use Rattle.runs.specs.Record.{frame_limit}
use Rattle.text_runs.specs.Lines.{numbers_in, end_total}
use Rattle.reels.specs.declared.verdict.Refusal.{Refusal}
use native.Mathlib.Omega.{arith}
use Rattle.reels.specs.declared.verdict.Refusal.TheVariants.{Width, Full, Empty, Length, Range, Form, OtherWidth, RunTooMany}
use Rattle.reels.specs.declared.reel.ReelPhase.TheVariants.{NextRun}
use Rattle.reels.specs.declared.reel.Reel.{Reel}
use Rattle.reels.specs.Verdicts.{Verdict, verdict_told}
use Rattle.reels.specs.Reel.{run_limit, to_phase, reel_refused, taken_or, width_asked, range_asked, frame_asked, frame_line, end_asked, run_line_by, run_line}
use Rattle.std.specs.Option.{is_some}

refusal-numbered : (refusal : Refusal) → (verdict_told (Err refusal)).0 ≡ 0 → ⊥
unfolding verdict_told
refusal-numbered Width e = omega arith
refusal-numbered Full e = omega arith
refusal-numbered Empty e = omega arith
refusal-numbered Length e = omega arith
refusal-numbered (Range place) e = omega arith
refusal-numbered Form e = omega arith
refusal-numbered OtherWidth e = omega arith
refusal-numbered RunTooMany e = omega arith

-- a line that is taken, and one that is not
pub taken-on : (s : Reel) (told : ℕ × ℕ) (next : Reel) → told.0 ≡ 0 → taken_or s told next ≡ next
unfolding taken_or
taken-on s told next e = rw (eq-eqb told.0 0 e)

pub not_taken : (s : Reel) (told : ℕ × ℕ) (next : Reel) → (told.0 ≡ 0 → ⊥) → taken_or s told next ≡ reel_refused s told
unfolding taken_or
not_taken s told next e = rw (ne_eqb told.0 0 e)

-- as the code has it: the verdict, known
module _ (s next : Reel) (w : Verdict) where
  pub refused-by : (refusal : Refusal) → Err refusal ≡ w → reel_refused s (verdict_told (Err refusal)) ≡ taken_or s (verdict_told w) next
  refused-by refusal is = rw (← is) (sym (not_taken s (verdict_told (Err refusal)) next (refusal-numbered refusal)))

  pub goes_on : Ok tt ≡ w → taken_or s (verdict_told w) next ≡ next
  unfolding verdict_told
  goes_on is = rw (← is) (taken-on s (0, 0) next refl)

pub passed-told : (w : Verdict) → Ok tt ≡ w → (verdict_told w).0 ≡ 0
unfolding verdict_told
passed-told w is = rw (← is)

-- ---- the questions to a width
module _ (N first runs : ℕ) where
  pub no-width : half_width N ≡ 0 → width_asked N first runs ≡ (Err Width)
  unfolding width_asked
  no-width e = rw (eq-eqb (half_width N) 0 e)

  module _ (wide : half_width N ≡ 0 → ⊥) where
    pub first_width : runs ≡ 0 → width_asked N first runs ≡ (Ok tt)
    unfolding width_asked
    first_width r = rw (ne_eqb (half_width N) 0 wide, eq-eqb runs 0 r)

    module _ (some : runs ≡ 0 → ⊥) where
      pub other_width : (N ≡ first → ⊥) → width_asked N first runs ≡ (Err OtherWidth)
      unfolding width_asked
      other_width e = rw (ne_eqb (half_width N) 0 wide, ne_eqb runs 0 some, ne_eqb N first e)

      pub run-too-many : N ≡ first → run_limit ≤ runs → width_asked N first runs ≡ (Err RunTooMany)
      unfolding width_asked
      run-too-many e h = rw (ne_eqb (half_width N) 0 wide, ne_eqb runs 0 some, eq-eqb N first e, le-ltb runs run_limit h)

      pub next-width : N ≡ first → runs < run_limit → width_asked N first runs ≡ (Ok tt)
      unfolding width_asked
      next-width e h = rw (ne_eqb (half_width N) 0 wide, ne_eqb runs 0 some, eq-eqb N first e, lt-ltb runs run_limit h)

-- ---- the questions to a frame
module _ (N count : ℕ) (frame : List ℤ) where
  pub run-full : frame_limit ≤ count → frame_asked N count frame ≡ (Err Full)
  unfolding frame_asked
  run-full h = rw (le-ltb count frame_limit h)

  module _ (room : count < frame_limit) where
    pub wrong-length : (length frame ≡ N → ⊥) → frame_asked N count frame ≡ (Err Length)
    unfolding frame_asked
    wrong-length e = rw (lt-ltb count frame_limit room, ne_eqb (length frame) N e)

    pub right-length : length frame ≡ N → frame_asked N count frame ≡ range_asked (first_beyond (pos coefficient_limit) frame 0)
    unfolding frame_asked
    right-length e = rw (lt-ltb count frame_limit room, eq-eqb (length frame) N e)

-- ---- the end line
pub none-ended : (s next : Reel) → s.count ≡ 0 → taken_or s (verdict_told (end_asked s.count)) next ≡ reel_refused s (verdict_told (Err Empty))
unfolding end_asked taken_or verdict_told
none-ended s next e = rw (eq-eqb s.count 0 e)

pub some-ended : (s next : Reel) → (s.count ≡ 0 → ⊥) → taken_or s (verdict_told (end_asked s.count)) next ≡ next
unfolding end_asked taken_or verdict_told
some-ended s next e = rw (ne_eqb s.count 0 e)

-- ---- a line behind the width, by whether it has a total, and whether it is whole
module _ (s : Reel) (bytes : List ℕ) where
  run-line : (end : Option ℤ) → run_line_by s bytes end ≡ cond (is_some end) (taken_or s (verdict_told (end_asked s.count)) (to_phase NextRun s)) (frame_line s (numbers_in bytes))
  unfolding run_line_by
  run-line (Some total) = refl
  run-line None = refl

  pub end_read : is_some (end_total s.count bytes) ≡ true → run_line s bytes ≡ taken_or s (verdict_told (end_asked s.count)) (to_phase NextRun s)
  unfolding run_line
  end_read e = run-line (end_total s.count bytes) ∙ rw e

  pub frame-read : is_some (end_total s.count bytes) ≡ false → run_line s bytes ≡ frame_line s (numbers_in bytes)
  unfolding run_line
  frame-read e = run-line (end_total s.count bytes) ∙ rw e

  -- as the code has it: the total asked for, and what the reel is then
  module _ {next : Reel} {end : Option ℤ} (asked : end ≡ end_total s.count bytes) where
    pub run_ended : {total : ℤ} → end ≡ Some total → next ≡ taken_or s (verdict_told (end_asked s.count)) (to_phase NextRun s) → next ≡ run_line s bytes
    run_ended is by = by ∙ sym (end_read (ap is_some (sym asked ∙ is)))

    pub frame_taken : end ≡ None → next ≡ frame_line s (numbers_in bytes) → next ≡ run_line s bytes
    frame_taken is by = by ∙ sym (frame-read (ap is_some (sym asked ∙ is)))
