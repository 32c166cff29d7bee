-- A whole input, as bytes and as its lines, and all that is printed for it.
use Rattle.std.specs.Prelude.{Bool, true, false, cond, List, [], ◌∷◌, ◌++◌, ℕ, eqb}
use Rattle.text_runs.specs.Lines.{line_feed}
use Rattle.text_runs.specs.declared.state.Way.{Way}
use Rattle.text_runs.specs.declared.state.State.{State}
use Rattle.text_runs.specs.State.{begun}
use Rattle.text_runs.specs.Line.{line_taken, input_ended}

-- whether a line is whole, and its bytes before the line feed
abbrev pub Line : Type 0
Line = Bool × List ℕ

unfoldable pub byte_in_front : ℕ → List Line → List Line
byte_in_front b [] = (false, b ∷ []) ∷ []
byte_in_front b (line ∷ lines) = (line.0, b ∷ line.1) ∷ lines

-- the lines of an input; bytes behind the last line feed are a line that is not whole
unfoldable pub lines_of : List ℕ → List Line
lines_of [] = []
lines_of (b ∷ bs) = cond (eqb b line_feed) ((true, []) ∷ lines_of bs) (byte_in_front b (lines_of bs))

unfoldable pub printed_from : State → List Line → List ℕ
printed_from state [] = (input_ended state).1
printed_from state (line ∷ lines) = (line_taken state line.0 line.1).1 ++ printed_from (line_taken state line.0 line.1).0 lines

unfoldable pub printed_of : Way → List ℕ → List ℕ
printed_of way input = printed_from (begun way) (lines_of input)
