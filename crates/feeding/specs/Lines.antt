-- A whole input as its lines, and all that is printed for it.
use Rattle.std.specs.Prelude.{◌&&◌, List, [], ◌∷◌, ◌++◌, ℕ, leb, length}
use Rattle.text_runs.specs.Line.{line_limit}
use Rattle.text_runs.specs.Input.{Line, lines_of}
use Rattle.feeding.specs.Program.{Program, handed}

-- A line is whole if a line feed ends it and it has at most 2,048 bytes.
unfoldable pub line_handed : (P : Program) → P.State → Line → P.State × List ℕ
line_handed P s line = handed P s (line.0 && leb (length line.1) line_limit) line.1

-- the lines one after another, and then the end
unfoldable pub printed_from : (P : Program) → P.State → List Line → List ℕ
printed_from P s [] = (P.end s).1
printed_from P s (line ∷ lines) = (line_handed P s line).1 ++ printed_from P (line_handed P s line).0 lines

unfoldable pub printed_of : (P : Program) → P.State → List ℕ → List ℕ
printed_of P s input = printed_from P s (lines_of input)
