-- What the step on a line gives, as the letters say it.
use mathlib.Core.Path.{◌≡◌, refl, sym, ap, ◌∙◌}
use mathlib.Core.Bool.{Bool, true, false, cond}
use mathlib.Core.List.{List}
use Prim.Native.Nat.{ℕ, ◌≤◌}
use borrow.Author.Tests.{le-leb}
use lib.ListN.{length}
use Rattle.feeding.specs.Program.{handed}
use Rattle.text_runs.specs.State.{LineResult}
use Rattle.text_runs.specs.Line.{line_taken, formed, not_formed, input_ended, line_limit}
use Rattle.feeding.specs.declared.session.Session.{Session}
use Rattle.feeding.specs.Text.{session_after, text_line, text_broken, text_end, text_program}

pub line-given : (s : Session) (whole : Bool) (bytes : List ℕ) {g : LineResult} → length bytes ≤ line_limit → g ≡ line_taken s.state whole bytes
    → session_after s.ending g ≡ handed text_program s whole bytes
unfolding line_taken handed text_line text_broken
line-given s true bytes h e =
    ap (session_after s.ending) (e ∙ ap (λ (t : Bool). cond t (formed s.state.phase s.state bytes) (not_formed s.state.phase s.state)) (le-leb (length bytes) line_limit h))
line-given s false bytes h e = ap (session_after s.ending) e

pub end-given : (s : Session) {g : LineResult} → g ≡ input_ended s.state → session_after s.ending g ≡ text_end s
unfolding text_end
end-given s e = ap (session_after s.ending) e
