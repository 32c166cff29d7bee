-- How many lines a program still takes, and how many bytes.
use Rattle.std.specs.Prelude.{◌≡◌, Bool, true, false, cond, List, [], ◌∷◌, ℕ, suc, ◌+◌, ◌-◌, ◌*◌, ◌<◌, eqb, ltb, length}
use Rattle.text_runs.specs.Lines.{line_feed}
use Rattle.text_runs.specs.Line.{line_limit}
use Rattle.feeding.specs.Program.{Program}
use Rattle.feeding.specs.Feed.{Reader, byte_fed}

-- A program that takes so many lines more, each of which counts.
pub record Bounded (P : Program) : Type 0 where
  pub left : P.State → ℕ
  pub counts : (s : P.State) (bytes : List ℕ) → P.over s ≡ false → left (P.line s bytes).0 < left s

-- a line with its line feed
abbrev pub line_bytes : ℕ
line_bytes = 2049

-- the bytes that a reader still accepts: so many lines, less what is there already
unfoldable pub accepts : (P : Program) → Bounded P → Reader P → ℕ
accepts P B r = cond (P.over r.state) 0 (line_bytes * B.left r.state - length r.had)

-- how many lines are handed on
unfoldable pub handed_by : (P : Program) → Reader P → ℕ → ℕ
handed_by P r b = cond (P.over r.state) 0 (cond (eqb b line_feed) 1 (cond (ltb (length r.had) line_limit) 0 1))

unfoldable pub lines_handed : (P : Program) → Reader P → List ℕ → ℕ
lines_handed P r [] = 0
lines_handed P r (b ∷ bs) = handed_by P r b + lines_handed P (byte_fed P r b) bs
