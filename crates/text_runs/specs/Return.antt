-- A text run forward gives the text of its frames, and back it gives the input again, byte for byte, with its total. `proofs/TextReturn` proves it, over
-- the width as a letter.
use Rattle.std.specs.Prelude.{◌≡◌, List, [], ◌∷◌, ◌++◌, ℕ, ◌≤◌, ℤ, length}
use Rattle.integers.specs.Vectors.{total_of, AllAbs, Rows}
use Rattle.steps.specs.Limits.{reading_limit}
use Rattle.distance.specs.Statement.{IsWidth}
use Rattle.runs.specs.Record.{block_limit}
unfoldable pub use Rattle.runs.specs.CallsReturn.{frames_made}
use Rattle.text_runs.specs.Decimal.{decimal}
use Rattle.text_runs.specs.Lines.{line_feed}
use Rattle.text_runs.specs.declared.state.Way.TheVariants.{Forward, Back}
use Rattle.text_runs.specs.Way.{row_line, last_line}
use Rattle.text_runs.specs.Input.{printed_of}

unfoldable pub row_lines : List (List ℤ) → List ℕ
row_lines [] = []
row_lines (xs ∷ rows) = row_line xs ++ row_lines rows

-- the text of blocks or of frames: the width, a line for each, the end line with a total
unfoldable pub text_of : ℕ → List (List ℤ) → ℤ → List ℕ
text_of N rows total = decimal N ++ line_feed ∷ row_lines rows ++ last_line (length rows) total

-- blocks that a run takes
unfoldable pub InRange : List (List ℤ) → Type 0
InRange [] = Unit {0}
InRange (block ∷ blocks) = AllAbs reading_limit block × InRange blocks

pub record TextRun (N : ℕ) (blocks : List (List ℤ)) : Type 0 where
  pub forward : printed_of Forward (text_of N blocks (total_of blocks)) ≡ text_of N (frames_made N blocks) (total_of blocks)
  pub back : printed_of Back (printed_of Forward (text_of N blocks (total_of blocks))) ≡ text_of N blocks (total_of blocks)

abbrev pub EveryTextRun : Type 0
EveryTextRun = (N : ℕ) → IsWidth N → (blocks : List (List ℤ)) → Rows N blocks → InRange blocks → length blocks ≤ block_limit → TextRun N blocks
