-- Every input, whatever its bytes and however it is cut: it is the texts of the runs of a reel, and the page of all their frames is printed;
-- or one refusal is printed, and nothing else. `proofs/EveryReel` proves it.
use Rattle.std.specs.Prelude.{◌≡◌, ◌⊎◌, true, false, cond, List, [], ◌∷◌, ◌++◌, ℕ, suc, ◌*◌, ◌≤◌, ◌<◌, eqb, ℤ, length}
use Rattle.integers.specs.Vectors.{AllAbs, Rows}
use Rattle.steps.specs.Limits.{coefficient_limit}
use Rattle.distance.specs.Statement.{IsWidth}
use Rattle.runs.specs.Record.{frame_limit}
use Rattle.text_runs.specs.Decimal.{bits64}
use Rattle.text_runs.specs.Lines.{line_feed}
use Rattle.text_runs.specs.Return.{text_of}
use Rattle.text_runs.specs.EveryInput.{refusal_line, among}
use Rattle.feeding.specs.Feed.{reader_begun, fed, fed_pieces, reader_ended}
use Rattle.feeding.specs.Budget.{line_bytes}
use Rattle.feeding.specs.Theorems.{joined}
use Rattle.reels.specs.Page.{page_of}
use Rattle.reels.specs.Reel.{run_limit, reel_begun}
use Rattle.reels.specs.Program.{reel_is_over, reel_program, reel_printed}

-- ---- the runs of a reel: each from 1 to 65,537 frames of N coefficients within ±1,048,576, with any total of 64 bits, and 1 to 100 of them.
-- Frames that do not go back have no total, so its value is not asked.
abbrev pub FramesAndTotal : Type 0
FramesAndTotal = List (List ℤ) × ℤ

unfoldable pub FramesInRange : List (List ℤ) → Type 0
FramesInRange [] = Unit {0}
FramesInRange (frame ∷ frames) = AllAbs coefficient_limit frame × FramesInRange frames

pub record RunOf (N : ℕ) (frames : List (List ℤ)) : Type 0 where
  pub rows : Rows N frames
  pub within : FramesInRange frames
  pub some : 1 ≤ length frames
  pub few : length frames ≤ frame_limit

unfoldable pub EachRun : ℕ → List FramesAndTotal → Type 0
EachRun N [] = Unit {0}
EachRun N (run ∷ runs) = RunOf N run.0 × bits64 run.1 × EachRun N runs

pub record ReelOf (N : ℕ) (runs : List FramesAndTotal) : Type 0 where
  pub wide : IsWidth N
  pub each : EachRun N runs
  pub some : 1 ≤ length runs
  pub few : length runs ≤ run_limit

-- their texts, one behind the other, and all their frames
unfoldable pub texts_of : ℕ → List FramesAndTotal → List ℕ
texts_of N [] = []
texts_of N (run ∷ runs) = text_of N run.0 run.1 ++ texts_of N runs

unfoldable pub all_frames : List FramesAndTotal → List (List ℤ)
all_frames [] = []
all_frames (run ∷ runs) = run.0 ++ all_frames runs

-- ---- accepted, or refused by one line
pub record ReelAccepted (input : List ℕ) : Type 0 where
  pub width : ℕ
  pub runs : List FramesAndTotal
  pub reel : ReelOf width runs
  pub input-is : input ≡ texts_of width runs
  pub printed-is : reel_printed input ≡ page_of width (all_frames runs)

-- the line feeds of a text
unfoldable pub feeds_in : List ℕ → ℕ
feeds_in [] = 0
feeds_in (b ∷ bs) = cond (eqb b line_feed) (suc (feeds_in bs)) (feeds_in bs)

-- whole lines, all taken: the reel goes on behind them
pub record LinesTaken (text : List ℕ) : Type 0 where
  pub goes_on : reel_is_over (fed reel_program (reader_begun reel_program reel_begun) text).state ≡ false
  pub whole : (fed reel_program (reader_begun reel_program reel_begun) text).had ≡ []

-- the line behind those that are taken is refused, by its number in the whole input, and no more lines could be taken; that is all that is
-- printed
pub record RefusedAlone (input : List ℕ) : Type 0 where
  pub before : List ℕ
  pub rest : List ℕ
  pub number : ℕ
  pub place : ℕ
  pub input-is : input ≡ before ++ rest
  pub taken : LinesTaken before
  pub no_more : (more others : List ℕ) → rest ≡ more ++ others → LinesTaken (before ++ more) → more ≡ []
  pub numbered : among number (1 ∷ 4 ∷ 5 ∷ 6 ∷ 9 ∷ 13 ∷ 14 ∷ 15 ∷ []) ≡ true
  pub placed : place < 128
  pub printed-is : reel_printed input ≡ refusal_line number (suc (feeds_in before)) place

-- 1. The texts of the runs of any reel print the page of all their frames.
abbrev pub EveryReelPrinted : Type 0
EveryReelPrinted = (N : ℕ) (runs : List FramesAndTotal) → ReelOf N runs → reel_printed (texts_of N runs) ≡ page_of N (all_frames runs)

-- 2. Every input is accepted or refused, and what is printed tells which.
pub record EveryReel (input : List ℕ) : Type 0 where
  pub told : ReelAccepted input ⊎ RefusedAlone input
  pub never_both : ReelAccepted input → RefusedAlone input → ⊥

abbrev pub EveryReelTold : Type 0
EveryReelTold = (input : List ℕ) → EveryReel input

-- 3. Any cut into pieces prints the same.
abbrev pub EveryCutOfAReel : Type 0
EveryCutOfAReel =
    (pieces : List (List ℕ)) → (reader_ended reel_program (fed_pieces reel_program (reader_begun reel_program reel_begun) pieces)).1 ≡ reel_printed (joined pieces)

-- 4. Nothing is printed before the input has ended, but a refusal.
abbrev pub NothingBefore : Type 0
NothingBefore =
    (input : List ℕ) → reel_is_over (fed reel_program (reader_begun reel_program reel_begun) input).state ≡ false → (fed reel_program (reader_begun reel_program reel_begun) input).printed ≡ []

-- 5. A reel is over within 6,553,901 lines' bytes.
abbrev pub ReelOverWithin : Type 0
ReelOverWithin = (input : List ℕ) → 6553901 * line_bytes ≤ length input → reel_is_over (fed reel_program (reader_begun reel_program reel_begun) input).state ≡ true
