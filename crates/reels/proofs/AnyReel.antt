-- What any lines of a reel are: those of the texts of runs that it takes; or what is printed for them is one refusal.
use mathlib.Core.Path.{◌≡◌, refl, sym, ap, ap₂, ◌∙◌}
use mathlib.Core.Logic.{◌⊎◌, inl, inr, ⊎_elim}
use mathlib.Core.Bool.{true, false}
use mathlib.Core.List.{List, [], ◌∷◌}
use Prim.Native.Nat.{ℕ, suc, ◌+◌, ◌≤◌, ◌<◌}
use native.Mathlib.Omega.{arith}
use lib.IntN.{ℤ}
use lib.ListN.{length}
use Rattle.integers.specs.Vectors.{Rows}
use Rattle.distance.specs.Statement.{IsWidth}
use Rattle.runs.specs.Record.{frame_limit}
use Rattle.runs.proofs.RecordLaws.{width-le}
use Rattle.text_runs.specs.Decimal.{decimal, bits64}
use Rattle.text_runs.specs.Lines.{end_line}
use Rattle.text_runs.specs.Input.{Line, lines_of}
use Rattle.text_runs.proofs.RowLaws.{row-no-feed}
use Rattle.text_runs.proofs.LineLaws.{decimal-no-feed, end-no-feed, lines_between}
use Rattle.reels.specs.declared.reel.ReelPhase.TheVariants.{Frames, NextRun}
use Rattle.reels.specs.declared.reel.Reel.{Reel}
use Rattle.reels.specs.Verdicts.{verdict_told}
use Rattle.reels.specs.Reel.{run_limit, reel_begun, reel_over, to_phase, run_begun, squares_added, frame_added, reel_taken, reel_broken, reel_ended}
use Rattle.reels.specs.Program.{reel_is_over}
use Rattle.reels.specs.EveryReel.{FramesAndTotal, FramesInRange, EachRun, texts_of}
use Rattle.reels.proofs.ReelSteps.{reel_at}
use Rattle.reels.proofs.ReelTexts.{texts-lines}
use Rattle.reels.proofs.AnyReelLine.{WholeLine, width_is, FrameIs, run-line-is}
use Rattle.reels.proofs.ReelRefusals.{Refuses, refused_end, whole-are, refused-behind, whole-refused, by_whole}

-- ---- the lines of runs, behind so many; and those of the other frames of a run, behind so many of its frames, and of the runs behind
pub record RunsAre (N runs : ℕ) (lines : List Line) : Type 0 where
  pub more : List FramesAndTotal
  pub each : EachRun N more
  pub few : runs + length more ≤ run_limit
  pub lines_are : lines ≡ lines_of (texts_of N more)

pub record FramesAre (N runs count : ℕ) (lines : List Line) : Type 0 where
  pub frames : List (List ℤ)
  pub total : ℤ
  pub bits : bits64 total
  pub all : ℕ
  pub counted : all ≡ count + length frames
  pub rows : Rows N frames
  pub within : FramesInRange frames
  pub some : 1 ≤ all
  pub few : all ≤ frame_limit
  pub behind : List Line
  pub runs-are : RunsAre N runs behind
  pub lines_are : lines ≡ lines_between frames ((true, end_line all total) ∷ behind)

-- a line in front: the end line, a frame, a width
module _ (N runs count : ℕ) (lines : List Line) where
  end-front : (total : ℤ) → bits64 total → 1 ≤ count → count ≤ frame_limit → RunsAre N runs lines → FramesAre N runs count ((true, end_line count total) ∷ lines)
  unfolding FramesInRange lines_between
  end-front total bits h l r = record {
    frames = [];
    total = total;
    bits = bits;
    all = count;
    counted = omega arith;
    rows = tt;
    within = tt;
    some = h;
    few = l;
    behind = lines;
    runs-are = r;
    lines_are = refl;
  }

  frame-front : (s : Reel) (bytes : List ℕ) (after : Reel) → s.width ≡ N → FrameIs s bytes after → FramesAre N runs (suc count) lines → FramesAre N runs count ((true, bytes) ∷ lines)
  unfolding FramesInRange lines_between
  frame-front s bytes after w f r = record {
    frames = f.frame ∷ r.frames;
    total = r.total;
    bits = r.bits;
    all = r.all;
    counted = omega (arith, r.counted);
    rows = (f.long ∙ w, r.rows);
    within = (f.within, r.within);
    some = r.some;
    few = r.few;
    behind = r.behind;
    runs-are = r.runs-are;
    lines_are = ap₂ (λ (b : List ℕ) (ls : List Line). (true, b) ∷ ls) f.bytes-are r.lines_are;
  }

width-front : (N runs : ℕ) (lines : List Line) → FramesAre N (suc runs) 0 lines → RunsAre N runs ((true, decimal N) ∷ lines)
unfolding EachRun
width-front N runs lines r =
    let t : r.all ≡ length r.frames = omega (arith, r.counted) in
    record {
      more = (r.frames, r.total) ∷ r.runs-are.more;
      each = (record { rows = r.rows; within = r.within; some = omega (arith, r.some); few = omega (arith, r.few) }, r.bits, r.runs-are.each);
      few = omega (arith, r.runs-are.few);
      lines_are =
          ap (λ (ls : List Line). (true, decimal N) ∷ ls)
          (r.lines_are ∙ ap₂ (λ (n : ℕ) (ls : List Line). lines_between r.frames ((true, end_line n r.total) ∷ ls)) t r.runs-are.lines_are)
          ∙ sym (texts-lines N (r.frames, r.total) r.runs-are.more);
    }

-- ---- line by line
abbrev FramesOrNot : List Line → Type 0
FramesOrNot lines =
    (N runs count frames : ℕ) (sums : List ℤ) → N ≤ 128 → 1 ≤ runs → runs ≤ run_limit → count ≤ frame_limit → FramesAre N runs count lines ⊎ Refuses (reel_at Frames N runs count frames sums) lines

abbrev RunsOrNot : List Line → Type 0
RunsOrNot lines = (N runs count frames : ℕ) (sums : List ℤ) → N ≤ 128 → 1 ≤ runs → runs ≤ run_limit → RunsAre N runs lines ⊎ Refuses (reel_at NextRun N runs count frames sums) lines

-- a width, where a run may come
width-line : (s : Reel) (line : Line) (lines : List Line) (w : WholeLine line) (N : ℕ) → FramesOrNot lines → reel_is_over s ≡ false → s.runs < run_limit → N ≤ 128
    → w.bytes ≡ decimal N → reel_taken s.phase s w.bytes ≡ run_begun s N → RunsAre N s.runs (line ∷ lines) ⊎ Refuses s (line ∷ lines)
unfolding run_begun reel_over
width-line s line lines w N all on l n b e =
    ⊎_elim
    (λ r. inl (whole-are line lines w (RunsAre N s.runs) b (width-front N s.runs lines r)))
    (λ r. inr (refused-behind s on line lines w (run_begun s N) (rw b (decimal-no-feed N)) e refl r))
    (all N (suc s.runs) 0 s.frames s.sums n (omega arith) (omega arith) (omega arith))

module _ (N runs count frames : ℕ) (sums : List ℤ) (n : N ≤ 128) (h : 1 ≤ runs) (l : runs ≤ run_limit) (line : Line) (lines : List Line) where
  next-line : FramesOrNot lines → RunsAre N runs (line ∷ lines) ⊎ Refuses (reel_at NextRun N runs count frames sums) (line ∷ lines)
  unfolding reel_taken reel_broken verdict_told reel_over
  next-line all =
      let s : Reel = reel_at NextRun N runs count frames sums in
      by_whole s refl line lines (RunsAre N runs (line ∷ lines)) refl
      (λ w. ⊎_elim
      (λ f. ⊎_elim
      (λ z. absurd (omega (arith, z)))
      (λ same. width-line s line lines w N all refl same.1 n (f.bytes-are ∙ ap decimal same.0) (f.after_is ∙ ap (run_begun s) same.0))
      f.next)
      (λ r. inr (whole-refused s refl line lines w n r))
      (width_is s w.bytes))

  frames-line : count ≤ frame_limit → RunsOrNot lines → FramesOrNot lines → FramesAre N runs count (line ∷ lines) ⊎ Refuses (reel_at Frames N runs count frames sums) (line ∷ lines)
  unfolding reel_taken reel_broken verdict_told reel_over to_phase frame_added
  frames-line c next all =
      let s : Reel = reel_at Frames N runs count frames sums in
      by_whole s refl line lines (FramesAre N runs count (line ∷ lines)) refl
      (λ w. ⊎_elim
      (λ f. ⊎_elim
      (λ r. inl (whole-are line lines w (FramesAre N runs count) f.bytes-are (end-front N runs count lines f.total f.bits f.some c r)))
      (λ r. inr (refused-behind s refl line lines w (to_phase NextRun s) (rw f.bytes-are (end-no-feed count f.total)) f.after_is refl r))
      (next N runs count frames sums n h l))
      (⊎_elim
      (λ f. ⊎_elim
      (λ r. inl (whole-are line lines w (FramesAre N runs count) refl (frame-front N runs count lines s w.bytes _ refl f r)))
      (λ r. inr (refused-behind s refl line lines w (frame_added s f.frame) (rw f.bytes-are (row-no-feed f.frame)) f.after_is refl r))
      (all N runs (suc count) (suc frames) (squares_added sums f.frame) n h l f.below))
      (λ r. inr (whole-refused s refl line lines w n r)))
      (run-line-is s w.bytes))

any-lines : (lines : List Line) → RunsOrNot lines × FramesOrNot lines
unfolding EachRun texts_of lines_of reel_ended reel_over verdict_told
any-lines [] = (
  (λ N runs count frames sums n h l. inl (record { more = []; each = tt; few = omega arith; lines_are = refl })),
  (λ N runs count frames sums n h l c. inr (refused_end (reel_at Frames N runs count frames sums) refl refl)),
)
any-lines (line ∷ lines) =
    let both = any-lines lines in (
      (λ N runs count frames sums n h l. next-line N runs count frames sums n h l line lines both.1),
      (λ N runs count frames sums n h l c. frames-line N runs count frames sums n h l line lines c both.0 both.1),
    )

-- ---- from the beginning
pub record ReelIs (lines : List Line) : Type 0 where
  pub width : ℕ
  pub wide : IsWidth width
  pub runs-are : RunsAre width 0 lines
  pub some : 1 ≤ length runs-are.more

lines-some : (N : ℕ) (line : Line) (lines : List Line) (more : List FramesAndTotal) → line ∷ lines ≡ lines_of (texts_of N more) → 1 ≤ length more
unfolding texts_of lines_of
lines-some N line lines [] e = absurd (let z : ◌≡◌ {A = ℕ} 0 1 = cc in omega arith)
lines-some N line lines (run ∷ more) e = omega arith

pub reel-is : (lines : List Line) → ReelIs lines ⊎ Refuses reel_begun lines
unfolding reel_begun reel_taken reel_broken reel_ended verdict_told reel_over
reel-is [] = inr (refused_end reel_begun refl refl)
reel-is (line ∷ lines) =
    by_whole reel_begun refl line lines (ReelIs (line ∷ lines)) refl
    (λ w. ⊎_elim
    (λ f. ⊎_elim
    (λ r. inl (record { width = f.width; wide = f.wide; runs-are = r; some = lines-some f.width line lines r.more r.lines_are }))
    inr
    (width-line reel_begun line lines w f.width (any-lines lines).1 refl (omega arith) (width-le f.width f.wide) f.bytes-are f.after_is))
    (λ r. inr (whole-refused reel_begun refl line lines w (omega arith) r))
    (width_is reel_begun w.bytes))
