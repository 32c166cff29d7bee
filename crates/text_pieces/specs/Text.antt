-- The text programs, as the code of every program over lines takes them.
use Rattle.feeding.specs.Text.{text_program}
use Rattle.pieces.specs.Piece.{Limits}

-- a line prints at most 2,048 bytes, and every state is within the limits
abbrev pub text_limits : Limits text_program
text_limits = record { most = 2048; Sound = λ s. Unit {0}; kept = λ s whole bytes h. tt }
