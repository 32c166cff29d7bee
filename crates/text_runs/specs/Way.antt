-- The two ways of a text run: what a line between gives, and what the end gives.
use Rattle.std.specs.Prelude.{cond, List, [], ◌∷◌, ◌++◌, ℕ, suc, ◌-◌, min, eqb, ℤ}
use Rattle.runs.specs.declared.record.Run.{Run}
use Rattle.runs.specs.Record.{zeros}
use Rattle.runs.specs.Gate.{CallResult}
use Rattle.runs.specs.Forward.{taken, ended}
use Rattle.runs.specs.Back.{taken_back, ended_back}
use Rattle.text_runs.specs.Lines.{line_feed, row, end_line}
use Rattle.text_runs.specs.declared.state.Way.{Way}
use Rattle.text_runs.specs.declared.state.Way.TheVariants.{Forward, Back}

-- the output that a call is lent: as many zeros as the run is wide, and no run is wider than 128
unfoldable pub lent_output : Run → List ℤ
lent_output run = zeros (min run.width 128)

-- take a block or a frame
unfoldable pub taken_by : Way → Run → List ℤ → List ℤ → CallResult
taken_by Forward run block out = taken run block out
taken_by Back run frame out = taken_back run frame out

-- finish; back, no output is lent
unfoldable pub ended_by : Way → Run → List ℤ → CallResult
ended_by Forward run out = ended run out
ended_by Back run out = ((ended_back run).0, (ended_back run).1, out)

-- a line of numbers
unfoldable pub row_line : List ℤ → List ℕ
row_line xs = row xs ++ line_feed ∷ []

unfoldable pub last_line : ℕ → ℤ → List ℕ
last_line count total = end_line count total ++ line_feed ∷ []

-- what is printed for a block or frame that a record takes: nothing for the first frame going back
unfoldable pub shown_row : Way → Run → List ℤ → List ℕ
shown_row Forward run out = row_line out
shown_row Back run out = cond (eqb run.count 0) [] (row_line out)

-- what is printed for the finish: forward one frame more than blocks, back one block less than frames; and the total
unfoldable pub shown_last : Way → Run → List ℤ → List ℕ
shown_last Forward run out = row_line out ++ last_line (suc run.count) run.total
shown_last Back run out = last_line (run.count - 1) run.total
