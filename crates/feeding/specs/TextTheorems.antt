-- What holds of the text programs, forward and back, over any input as bytes. `proofs/TextProgram`, `LinesLeft` and `RefusalTold` prove it.
use Rattle.std.specs.Prelude.{◌≡◌, refl, true, false, List, [], ◌++◌, ℕ, ◌+◌, ◌-◌, ◌*◌, ◌≤◌, ◌<◌, pos, length}
use Rattle.runs.specs.Record.{frame_limit}
use Rattle.text_runs.specs.declared.state.Way.{Way}
use Rattle.text_runs.specs.declared.state.Phase.{Phase}
use Rattle.text_runs.specs.declared.state.Phase.TheVariants.{First, Between, Ended, Over}
use Rattle.text_runs.specs.declared.state.State.{State}
use Rattle.text_runs.specs.State.{line_number, refused}
use Rattle.text_runs.specs.State as State
use Rattle.text_runs.specs.Input.{printed_of}
use Rattle.feeding.specs.declared.session.Ending.{Ending}
use Rattle.feeding.specs.declared.session.Ending.TheVariants.{Refused}
use Rattle.feeding.specs.declared.session.Session.{Session}
use Rattle.feeding.specs.Feed.{reader_begun, fed, fed_pieces, reader_ended}
use Rattle.feeding.specs.Budget.{line_bytes}
use Rattle.feeding.specs.Theorems.{joined}
use Rattle.feeding.specs.Ending.{ending_after, ending_line}
use Rattle.feeding.specs.Text.{session_begun, is_over, text_line, text_program}

-- any cut of an input prints what `printed_of` says of it, so two cuts print the same
abbrev pub EveryCut : Type 0
EveryCut =
    (way : Way) (pieces : List (List ℕ)) → (reader_ended text_program (fed_pieces text_program (reader_begun text_program (session_begun way)) pieces)).1 ≡ printed_of way (joined pieces)

-- a live run never takes back a byte: what is printed for a beginning of an input is a beginning of all that is printed
abbrev pub LiveRun : Type 0
LiveRun =
    (way : Way) (p q : List ℕ) → (more : List ℕ) × (printed_of way (p ++ q) ≡ (fed text_program (reader_begun text_program (session_begun way)) p).printed ++ more)

-- ---- the lines that a run still takes: the width, 65,537 frames, the end line, and one that is left over
unfoldable pub left_in : Phase → ℕ → ℕ
left_in First count = 65540
left_in Between count = 2 + (frame_limit - count)
left_in (Ended total) count = 1
left_in Over count = 0

abbrev pub lines_left : Session → ℕ
lines_left s = left_in s.state.phase s.state.run.count

begins-with : (way : Way) → lines_left (session_begun way) ≡ 65540
unfolding left_in session_begun State.begun
begins-with way = refl

-- each line counts
abbrev pub LinesFall : Type 0
LinesFall = (s : Session) (bytes : List ℕ) → is_over s ≡ false → lines_left (text_line s bytes).0 < lines_left s

-- so every run is over within 65,540 lines' bytes
abbrev pub OverWithin : Type 0
OverWithin =
    (way : Way) (bytes : List ℕ) → 65540 * line_bytes ≤ length bytes → is_over (fed text_program (reader_begun text_program (session_begun way)) bytes).state ≡ true

-- ---- a refused line: its number, its line and its place are told by the state, and its line can be written again from them
pub record Told (before : Ending) (s : State) (number place : ℕ) : Type 0 where
  pub ending : ending_after before Over (refused s (number, place)).1 ≡ Refused (pos number) (pos (line_number s.phase s.run)) (pos place)
  pub line : ending_line (ending_after before Over (refused s (number, place)).1) ≡ (refused s (number, place)).1

abbrev pub RefusalTold : Type 0
RefusalTold = (before : Ending) (s : State) (number place : ℕ) → number < 2147483648 → place < 2147483648 → Told before s number place
