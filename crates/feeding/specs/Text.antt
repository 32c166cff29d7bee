-- The text programs, forward and back, as one of the programs over lines. The way is in the state.
use Rattle.std.specs.Prelude.{◌≡◌, refl, Bool, true, false, not, List, [], ℕ}
use Rattle.std.proofs.Common.{ap}
use Rattle.std.proofs.lemmas.Bool.{false≢true}
use Rattle.feeding.specs.Program.{Program}
use Rattle.text_runs.specs.declared.state.Way.{Way}
use Rattle.text_runs.specs.declared.state.Phase.{Phase}
use Rattle.text_runs.specs.declared.state.Phase.TheVariants.{First, Between, Ended, Over}
use Rattle.text_runs.specs.declared.state.State.{State}
use Rattle.text_runs.specs.State.{LineResult, begun, is_going_on, refused, in_phase}
use Rattle.text_runs.specs.Line.{formed, not_formed, bad_form, input_ended}
use Rattle.feeding.specs.declared.session.Ending.{Ending}
use Rattle.feeding.specs.declared.session.Ending.TheVariants.{Open}
use Rattle.feeding.specs.Ending.{ending_after}
use Rattle.feeding.specs.declared.session.Session.{Session}

unfoldable pub session_begun : Way → Session
session_begun way = record { state = begun way; ending = Open }

-- what a line or the end gives, with the ending that it tells
unfoldable pub session_after : Ending → LineResult → Session × List ℕ
session_after before given = (record { state = given.0; ending = ending_after before given.0.phase given.1 }, given.1)

abbrev pub is_over : Session → Bool
is_over s = not (is_going_on s.state.phase)

-- a whole line, a broken one, and the end
unfoldable pub text_line : Session → List ℕ → Session × List ℕ
text_line s bytes = session_after s.ending (formed s.state.phase s.state bytes)

unfoldable pub text_broken : Session → Session × List ℕ
text_broken s = session_after s.ending (not_formed s.state.phase s.state)

unfoldable pub text_end : Session → Session × List ℕ
text_end s = session_after s.ending (input_ended s.state)

-- ---- with a broken line it is over, and over it is quiet
broken-over : (phase : Phase) (s : State) → s.phase ≡ phase → not (is_going_on (not_formed phase s).0.phase) ≡ true
unfolding not_formed bad_form refused in_phase is_going_on
broken-over First s e = refl
broken-over Between s e = refl
broken-over (Ended total) s e = refl
broken-over Over s e = rw e

pub stops : (s : Session) → is_over (text_broken s).0 ≡ true
unfolding text_broken session_after
stops s = broken-over s.state.phase s.state refl

formed-quiet : (phase : Phase) (s : State) (bytes : List ℕ) → not (is_going_on phase) ≡ true → formed phase s bytes ≡ (s, [])
unfolding formed is_going_on
formed-quiet First s bytes o = absurd (false≢true o)
formed-quiet Between s bytes o = absurd (false≢true o)
formed-quiet (Ended total) s bytes o = absurd (false≢true o)
formed-quiet Over s bytes o = refl

broken-quiet : (phase : Phase) (s : State) → not (is_going_on phase) ≡ true → not_formed phase s ≡ (s, [])
unfolding not_formed is_going_on
broken-quiet First s o = absurd (false≢true o)
broken-quiet Between s o = absurd (false≢true o)
broken-quiet (Ended total) s o = absurd (false≢true o)
broken-quiet Over s o = refl

pub quiet : (s : Session) → is_over s ≡ true → ((bytes : List ℕ) → text_line s bytes ≡ (s, [])) × (text_broken s ≡ (s, []))
unfolding text_line text_broken session_after ending_after
quiet s o =
    ((λ bytes. ap (session_after s.ending) (formed-quiet s.state.phase s.state bytes o)), ap (session_after s.ending) (broken-quiet s.state.phase s.state o))

abbrev pub text_program : Program
text_program = record { State = Session; line = text_line; broken = text_broken; end = text_end; over = is_over; stops = stops; quiet = quiet }
