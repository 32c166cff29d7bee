-- A line gathered from a piece of the input.
use Rattle.std.specs.Prelude.{◌≡◌, cond, List, [], ◌∷◌, ◌++◌, ℕ, ◌≤◌, ◌<◌, eqb, ltb, length, take, drop}
use Rattle.text_runs.specs.Lines.{line_feed}
use Rattle.text_runs.specs.Line.{line_limit}
use Rattle.pieces.specs.declared.line.LineEnd.{LineEnd}
use Rattle.pieces.specs.declared.line.LineEnd.TheVariants.{Open, Whole, Broken}
use Rattle.pieces.specs.declared.line.Gathered.{Gathered}

-- The bytes had and a text that comes next: the bytes had then, what is left of the text, and whether the line has ended: by a line feed, or
-- by a byte that it has no room for.
unfoldable pub line_gathered : List ℕ → List ℕ → List ℕ × List ℕ × LineEnd
line_gathered had [] = (had, [], Open)
line_gathered had (b ∷ bs) =
    cond (eqb b line_feed) (had, bs, Whole) (cond (ltb (length had) line_limit) (line_gathered (had ++ b ∷ []) bs) (had, bs, Broken))

-- The bytes had stand at the start of a buffer, and the text is a piece from a place on.
pub record Gathers (piece : List ℕ) (from : ℕ) (before : List ℕ) (had : ℕ) (r : Gathered) (after : List ℕ) : Type 0 where
  pub is : (take r.length after, drop r.next piece, r.end) ≡ line_gathered (take had before) (drop from piece)
  pub fits : r.length ≤ line_limit
  pub within : r.next ≤ length piece
  pub rises : from < length piece → from < r.next
