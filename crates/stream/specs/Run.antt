-- A whole run of the text programs.
use Rattle.std.specs.Prelude.{◌≡◌, ◌⊎◌, List, ℕ, Option}
use Rattle.feeding.specs.Feed.{reader_begun, fed, reader_ended}
use Rattle.pieces.specs.Run.{RanToTheEnd}
use Rattle.text_runs.specs.declared.state.Way.{Way}
use Rattle.feeding.specs.declared.session.Ending.{Ending}
use Rattle.feeding.specs.declared.session.Ending.TheVariants.{Open}
use Rattle.feeding.specs.declared.session.Session.{Session}
use Rattle.feeding.specs.Text.{session_begun, text_program}

-- how the run of an input ends
unfoldable pub ending_of : Way → List ℕ → Ending
ending_of way input = (reader_ended text_program (fed text_program (reader_begun text_program (session_begun way)) input)).0.ending

-- A run that ended was fed with the bytes that it read, and wrote what its lines print.
pub record Finished (way : Way) (left left' written written' : Option (List ℕ)) (room : ℕ) (r : Ending) : Type 0 where
  pub last : Session
  pub whole : RanToTheEnd text_program (session_begun way) left left' written written' room last
  pub ending : r ≡ ending_of way whole.read

-- The input that was read decides how a run ended; one that could not be read or written did not end.
abbrev pub EndedAs : Way → Ending → Type 0
EndedAs way r = (r ≡ Open) ⊎ ((input : List ℕ) × (r ≡ ending_of way input))
