-- The text programs, fed in any pieces, print what the definition of a whole input says.
use mathlib.Core.Path.{◌≡◌, refl, sym, ap, ◌∙◌}
use mathlib.Core.Logic.{⊎_elim}
use mathlib.Core.Bool.{Bool, cond, ◌&&◌}
use mathlib.Core.List.{List, [], ◌∷◌, ◌++◌}
use Prim.Native.Nat.{ℕ}
use lib.Dec.{leb}
use lib.ListN.{length}
use Rattle.text_runs.specs.Line.{line_taken, formed, not_formed, input_ended, line_limit}
use Rattle.text_runs.specs.Input.{Line, lines_of, printed_from, printed_of}
use Rattle.text_runs.proofs.UpToLaws.{tested}
use Rattle.feeding.specs.Program.{handed}
use Rattle.feeding.specs.declared.session.Session.{Session}
use Rattle.feeding.specs.Lines as Lines
use Rattle.feeding.specs.Lines.{line_handed}
use Rattle.feeding.specs.Theorems.{joined}
use Rattle.feeding.specs.Text.{session_begun, session_after, text_line, text_broken, text_end, text_program}
use Rattle.feeding.specs.TextTheorems.{EveryCut, LiveRun}
use Rattle.feeding.proofs.Cuts.{any-cut, nothing-taken-back}

-- one line
line_same : (s : Session) (line : Line) → line_handed text_program s line ≡ session_after s.ending (line_taken s.state line.0 line.1)
unfolding line_handed handed text_line text_broken line_taken
line_same s line = ⊎_elim (λ w. rw w) (λ w. rw w) (tested (line.0 && leb (length line.1) line_limit))

lines_same : (s : Session) (lines : List Line) → Lines.printed_from text_program s lines ≡ printed_from s.state lines
unfolding Lines.printed_from printed_from text_end session_after
lines_same s [] = refl
lines_same s (line ∷ lines) = rw (line_same s line) (ap (λ (t : List ℕ). (line_taken s.state line.0 line.1).1 ++ t) (lines_same (session_after s.ending (line_taken s.state line.0 line.1)).0 lines))

pub input-same : (s : Session) (input : List ℕ) → Lines.printed_of text_program s input ≡ printed_from s.state (lines_of input)
unfolding Lines.printed_of
input-same s input = lines_same s (lines_of input)

pub every-cut : EveryCut
unfolding printed_of session_begun
every-cut way pieces = any-cut text_program (session_begun way) pieces ∙ input-same (session_begun way) (joined pieces)

pub live-run : LiveRun
unfolding printed_of session_begun
live-run way p q = let t = nothing-taken-back text_program (session_begun way) p q in (t.0, sym (input-same (session_begun way) (p ++ q)) ∙ t.1)
