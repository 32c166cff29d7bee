-- Every input, whatever its bytes: it is the text of what a run takes, and a whole text run is printed; or it is refused, and what is
-- printed are the first lines of a text run, perhaps none, and one refusal. `proofs/EveryInput` proves it, both ways.
use Rattle.std.specs.Prelude.{◌≡◌, ◌⊎◌, Bool, true, false, ◌||◌, List, [], ◌∷◌, ◌++◌, ℕ, suc, ◌-◌, ◌≤◌, ◌<◌, eqb, ℤ, length, take, drop}
use Rattle.integers.specs.Vectors.{total_of, Rows}
use Rattle.distance.specs.Statement.{IsWidth}
use Rattle.runs.specs.Record.{block_limit}
use Rattle.text_runs.specs.Decimal.{decimal, bits64}
use Rattle.text_runs.specs.Lines.{line_feed, refusal}
use Rattle.text_runs.specs.declared.state.Way.{Way}
use Rattle.text_runs.specs.declared.state.Way.TheVariants.{Forward, Back}
use Rattle.text_runs.specs.Way.{last_line}
use Rattle.text_runs.specs.Input.{printed_of}
use Rattle.text_runs.specs.Return.{row_lines, text_of, frames_made, InRange}

-- blocks that a run takes: a good width, each block of so many readings, each reading in range, and not too many blocks
pub record Blocks (N : ℕ) (blocks : List (List ℤ)) : Type 0 where
  pub wide : IsWidth N
  pub rows : Rows N blocks
  pub within : InRange blocks
  pub few : length blocks ≤ block_limit

-- forward a run reads blocks and prints their frames; back it reads the frames and prints the blocks
unfoldable pub rows_read : Way → ℕ → List (List ℤ) → List (List ℤ)
rows_read Forward N blocks = blocks
rows_read Back N blocks = frames_made N blocks

unfoldable pub rows_shown : Way → ℕ → List (List ℤ) → List (List ℤ)
rows_shown Forward N blocks = frames_made N blocks
rows_shown Back N blocks = blocks

unfoldable pub other : Way → Way
other Forward = Back
other Back = Forward

-- ---- accepted: the input is the text of the blocks (of their frames) with the total of the readings, and what is printed is the text of their
-- frames (of the blocks) with the same total
pub record Accepted (way : Way) (input : List ℕ) : Type 0 where
  pub width : ℕ
  pub blocks : List (List ℤ)
  pub run : Blocks width blocks
  pub input-is : input ≡ text_of width (rows_read way width blocks) (total_of blocks)
  pub printed-is : printed_of way input ≡ text_of width (rows_shown way width blocks) (total_of blocks)

-- ---- refused
-- the first lines of a text: the width, and a line for each of the first `count` rows
unfoldable pub first_lines : ℕ → ℕ → List (List ℤ) → List ℕ
first_lines count N rows = decimal N ++ line_feed ∷ row_lines (take count rows)

-- they are a beginning of it, and what is left are the lines of the other rows and the end line
abbrev pub FirstLinesBegin : Type 0
FirstLinesBegin =
    (count N : ℕ) (rows : List (List ℤ)) (total : ℤ) → text_of N rows total ≡ first_lines count N rows ++ (row_lines (drop count rows) ++ last_line (length rows) total)

-- the line of a refusal, with its line feed
unfoldable pub refusal_line : ℕ → ℕ → ℕ → List ℕ
refusal_line number line place = refusal number line place ++ line_feed ∷ []

-- line 1 is refused, for its width or its form
pub record RefusedFirst (way : Way) (input : List ℕ) : Type 0 where
  pub number : ℕ
  pub numbered : (number ≡ 1) ⊎ (number ≡ 13)
  pub printed-is : printed_of way input ≡ refusal_line number 1 0

-- the rows read before a refusal. Forward they are the blocks. Back they are one more than the blocks, or there is none, and all but the
-- last are the first of the blocks' frames: the last one waits for the next.
unfoldable pub ReadBefore : Way → ℕ → List (List ℤ) → List (List ℤ) → Type 0
ReadBefore Forward N rows blocks = rows ≡ blocks
ReadBefore Back N rows blocks = (length blocks ≡ length rows - 1) × (take (length blocks) rows ≡ take (length blocks) (frames_made N blocks))

-- the numbers that a refusal behind the first line can have: 2, 3 and 7 are answers to other callers
unfoldable pub refusal_numbers : Way → List ℕ
refusal_numbers Forward = 4 ∷ 6 ∷ 8 ∷ 9 ∷ 13 ∷ 16 ∷ []
refusal_numbers Back = 4 ∷ 5 ∷ 6 ∷ 9 ∷ 10 ∷ 11 ∷ 12 ∷ 13 ∷ 16 ∷ []

unfoldable pub among : ℕ → List ℕ → Bool
among n [] = false
among n (m ∷ ms) = eqb n m || among n ms

-- the line behind some rows is refused: the input begins with their lines, what is printed are the first lines of a text run, one for each
-- of the blocks, and the refusal, which names the line behind the rows
pub record RefusedBehind (way : Way) (input : List ℕ) : Type 0 where
  pub width : ℕ
  pub rows : List (List ℤ)
  pub blocks : List (List ℤ)
  pub rest : List ℕ
  pub number : ℕ
  pub place : ℕ
  pub run : Blocks width blocks
  pub before : ReadBefore way width rows blocks
  pub input-is : input ≡ first_lines (length rows) width rows ++ rest
  pub numbered : among number (refusal_numbers way) ≡ true
  pub placed : place < width
  pub printed-is : printed_of way input ≡ first_lines (length blocks) width (rows_shown way width blocks) ++ refusal_line number (suc (suc (length rows))) place

abbrev pub Refused : Way → List ℕ → Type 0
Refused way input = RefusedFirst way input ⊎ RefusedBehind way input

-- ---- 1. every input is accepted or refused, and what is printed tells which
pub record EveryInput (way : Way) (input : List ℕ) : Type 0 where
  pub told : Accepted way input ⊎ Refused way input
  pub never_both : Accepted way input → Refused way input → ⊥

abbrev pub EveryInputTold : Type 0
EveryInputTold = (way : Way) (input : List ℕ) → EveryInput way input

-- 2. An input that is not refused is the text of blocks (of frames) that the run takes.
abbrev pub AcceptedText : Type 0
AcceptedText = (way : Way) (input : List ℕ) → (Refused way input → ⊥) → Accepted way input

-- 3. The text of any blocks (frames) that the run takes is accepted.
abbrev pub EveryTextAccepted : Type 0
EveryTextAccepted = (way : Way) (N : ℕ) (blocks : List (List ℤ)) → Blocks N blocks → Accepted way (text_of N (rows_read way N blocks) (total_of blocks))

-- 4. What is printed for an accepted text is accepted the other way, and gives that text: back of forward, and forward of back.
pub record TextReturned (way : Way) (input : List ℕ) : Type 0 where
  pub accepted : Accepted (other way) (printed_of way input)
  pub same : printed_of (other way) (printed_of way input) ≡ input

abbrev pub AcceptedReturned : Type 0
AcceptedReturned = (way : Way) (input : List ℕ) → Accepted way input → TextReturned way input

-- 5. With any other total of 64 bits it is refused by 16 at its end line; forward the last frame is not printed.
abbrev pub OtherTotalRefused : Type 0
OtherTotalRefused =
    (way : Way) (N : ℕ) (blocks : List (List ℤ)) (total : ℤ) → Blocks N blocks → bits64 total → (total ≡ total_of blocks → ⊥)
    → printed_of way (text_of N (rows_read way N blocks) total)
    ≡ first_lines (length blocks) N (rows_shown way N blocks) ++ refusal_line 16 (suc (suc (length (rows_read way N blocks)))) 0
