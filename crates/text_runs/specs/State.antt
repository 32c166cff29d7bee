-- How far a text run has come: document 01, "The text run".
use Rattle.std.specs.Prelude.{Bool, true, false, cond, List, [], ◌∷◌, ◌++◌, ℕ, suc, leb, pos, take}
use Rattle.runs.specs.declared.record.Run.{Run}
use Rattle.runs.specs.Record.{frame_limit, opened}
use Rattle.text_runs.specs.Lines.{line_feed, refusal}
use Rattle.text_runs.specs.declared.state.Way.{Way}
use Rattle.text_runs.specs.declared.state.Phase.{Phase}
use Rattle.text_runs.specs.declared.state.State.{State}
use Rattle.text_runs.specs.declared.state.Printed.{Printed}
use Rattle.text_runs.specs.declared.state.Phase.TheVariants.{First, Between, Ended, Over}

-- what a line gives: the state afterwards, and the bytes printed
abbrev pub LineResult : Type 0
LineResult = State × List ℕ

-- as the code answers it
unfoldable pub result_of : Printed → LineResult
result_of r = (r.state, take r.length r.text)

unfoldable pub begun : Way → State
begun way = record { way = way; phase = First; run = opened 0 0 (pos 0) [] }

unfoldable pub in_phase : Phase → State → State
in_phase phase state = record { way = state.way; phase = phase; run = state.run }

unfoldable pub with_run : Phase → Run → State → State
with_run phase run state = record { way = state.way; phase = phase; run = run }

unfoldable pub is_going_on : Phase → Bool
is_going_on First = true
is_going_on Between = true
is_going_on (Ended total) = true
is_going_on Over = false

-- The number of the line that comes: behind the width and a line for each block or frame taken. A count that no run has is refused with its
-- record, at line 0.
unfoldable pub line_between : ℕ → ℕ
line_between count = cond (leb count frame_limit) (suc (suc count)) 0

unfoldable pub line_number : Phase → Run → ℕ
line_number First run = 1
line_number Between run = line_between run.count
line_number (Ended total) run = line_between run.count
line_number Over run = line_between run.count

-- a refused line: its number, which line it is and the place are printed, and the run is over
unfoldable pub refused : State → ℕ × ℕ → LineResult
refused state answer = (in_phase Over state, refusal answer.0 (line_number state.phase state.run) answer.1 ++ line_feed ∷ [])
