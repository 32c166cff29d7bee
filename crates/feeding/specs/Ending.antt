-- How a text run ended, told by the last line printed.
use Rattle.std.specs.Prelude.{cond, List, [], ◌∷◌, ◌++◌, ℕ, eqb, ℤ, pos, length, take, drop, get_or, Option, None, Some}
use Rattle.text_runs.specs.Lines.{line_feed, refused_tag, row, numbers_in, up_to, same}
use Rattle.text_runs.specs.declared.state.Phase.{Phase}
use Rattle.text_runs.specs.State.{is_going_on}
use Rattle.feeding.specs.declared.session.Ending.{Ending}
use Rattle.feeding.specs.declared.session.Ending.TheVariants.{Open, Whole, Refused}

-- a refusal's number, line and place
unfoldable pub refused_by : Option (List ℤ) → Ending
refused_by None = Whole
refused_by (Some xs) = cond (eqb (length xs) 3) (Refused (get_or xs 0 (pos 0)) (get_or xs 1 (pos 0)) (get_or xs 2 (pos 0))) Whole

-- what a last line says: "refused," and three numbers, or it is that of a whole run
unfoldable pub last_said : List ℕ → Ending
last_said bytes = cond (same (take 8 bytes) refused_tag) (refused_by (numbers_in (up_to line_feed (drop 8 bytes)))) Whole

-- the ending after a line that was printed, and what comes next: as before, unless it is the last one
unfoldable pub ending_after : Ending → Phase → List ℕ → Ending
ending_after before phase [] = before
ending_after before phase (b ∷ bs) = cond (is_going_on phase) before (last_said (b ∷ bs))

-- the line of a refusal
unfoldable pub ending_line : Ending → List ℕ
ending_line Open = []
ending_line Whole = []
ending_line (Refused number line place) = refused_tag ++ row (number ∷ line ∷ place ∷ []) ++ line_feed ∷ []
