-- One line of a text run, and the end of its input: document 01, "The text run".
use Rattle.std.specs.Prelude.{Bool, cond, ◌&&◌, List, [], ◌∷◌, ◌++◌, ℕ, eqb, leb, ℤ, pos, negsuc, length, Option, Some, None}
use Rattle.integers.specs.Vectors.{alike}
use Rattle.runs.specs.Gate as Gate
use Rattle.runs.specs.Forward.{started}
use Rattle.text_runs.specs.Decimal.{decimal, number_in}
use Rattle.text_runs.specs.Lines.{line_feed, numbers_in, end_total}
use Rattle.text_runs.specs.declared.state.Phase.{Phase}
use Rattle.text_runs.specs.declared.state.State.{State}
use Rattle.text_runs.specs.declared.state.Phase.TheVariants.{First, Between, Ended, Over}
use Rattle.text_runs.specs.State.{LineResult, in_phase, with_run, refused}
use Rattle.text_runs.specs.Way.{lent_output, taken_by, ended_by, shown_row, shown_last}

-- the most bytes of a line, its line feed not counted
abbrev pub line_limit : ℕ
line_limit = 2048

-- the form is refused by 13, which names no place
unfoldable pub bad_form : State → LineResult
bad_form state = refused state (13, 0)

-- the first line, which is the width
unfoldable pub width_started : State → ℕ → LineResult
width_started state N = cond (eqb (started N).0.0 0) (with_run Between (started N).1 state, decimal N ++ line_feed ∷ []) (refused state (started N).0)

unfoldable pub width_taken : State → Option ℤ → LineResult
width_taken state (Some (pos N)) = width_started state N
width_taken state (Some (negsuc n)) = refused state (1, 0)
width_taken state None = bad_form state

-- a line with a block or a frame
unfoldable pub row_given : State → Gate.CallResult → LineResult
row_given state given =
    cond (eqb given.0.0 0) (with_run Between given.1 state, shown_row state.way state.run given.2) (refused state given.0)

unfoldable pub row_taken : State → Option (List ℤ) → LineResult
row_taken state None = bad_form state
row_taken state (Some xs) = row_given state (taken_by state.way state.run xs (lent_output state.run))

-- such a line, or the end line with the right count, whose total is kept
unfoldable pub between_by : State → List ℕ → Option ℤ → LineResult
between_by state bytes (Some total) = (in_phase (Ended total) state, [])
between_by state bytes None = row_taken state (numbers_in bytes)

unfoldable pub between_taken : State → List ℕ → LineResult
between_taken state bytes = between_by state bytes (end_total state.run.count bytes)

-- a line of good form, by what should come; behind the end line nothing should, so the finish is not worked there
unfoldable pub formed : Phase → State → List ℕ → LineResult
formed First state bytes = width_taken state (number_in bytes)
formed Between state bytes = between_taken state bytes
formed (Ended total) state bytes = bad_form state
formed Over state bytes = (state, [])

unfoldable pub not_formed : Phase → State → LineResult
not_formed First state = bad_form state
not_formed Between state = bad_form state
not_formed (Ended total) state = bad_form state
not_formed Over state = (state, [])

-- a line, and whether it is whole: it ended in a line feed. That, and its length, are asked before anything else.
unfoldable pub line_taken : State → Bool → List ℕ → LineResult
line_taken state whole bytes = cond (whole && leb (length bytes) line_limit) (formed state.phase state bytes) (not_formed state.phase state)

-- ---- the end of the input
-- 16, behind all others: the total of the end line is the one worked out
unfoldable pub total_asked : State → ℤ → LineResult → LineResult
total_asked state total next = cond (alike total state.run.total) next (refused state (16, 0))

unfoldable pub finish_given : State → ℤ → Gate.CallResult → LineResult
finish_given state total given =
    cond (eqb given.0.0 0) (total_asked state total (with_run Over given.1 state, shown_last state.way state.run given.2)) (refused state given.0)

-- Where the end line has not come, text is missing: that is refused at the line that should come next.
unfoldable pub end_in : Phase → State → LineResult
end_in First state = bad_form state
end_in Between state = bad_form state
end_in (Ended total) state = finish_given state total (ended_by state.way state.run (lent_output state.run))
end_in Over state = (state, [])

unfoldable pub input_ended : State → LineResult
input_ended state = end_in state.phase state
