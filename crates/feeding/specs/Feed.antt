-- A program fed with the bytes of its input, one after another.
use Rattle.std.specs.Prelude.{Bool, true, false, cond, List, [], ◌∷◌, ◌++◌, ℕ, eqb, ltb, length}
use Rattle.text_runs.specs.Lines.{line_feed}
use Rattle.text_runs.specs.Line.{line_limit}
use Rattle.feeding.specs.Program.{Program, handed}

-- How far a program has come: its state, the bytes had of a line that no line feed has ended, and all the bytes printed.
pub record Reader (P : Program) : Type 0 where
  pub state : P.State
  pub had : List ℕ
  pub printed : List ℕ

unfoldable pub reader_begun : (P : Program) → P.State → Reader P
reader_begun P s = record { state = s; had = []; printed = [] }

-- the bytes had are handed on as a line, whole or broken
unfoldable pub handed_on : (P : Program) → Bool → Reader P → Reader P
handed_on P whole r = record {
  state = (handed P r.state whole r.had).0;
  had = [];
  printed = r.printed ++ (handed P r.state whole r.had).1;
}

unfoldable pub gathered : (P : Program) → Reader P → ℕ → Reader P
gathered P r b = record { state = r.state; had = r.had ++ b ∷ []; printed = r.printed }

-- One byte: a program that is over ignores it; a line feed ends a line; a byte that a line has no room for breaks it.
unfoldable pub byte_fed : (P : Program) → Reader P → ℕ → Reader P
byte_fed P r b =
    cond (P.over r.state) r
    (cond (eqb b line_feed) (handed_on P true r)
    (cond (ltb (length r.had) line_limit) (gathered P r b) (handed_on P false r)))

unfoldable pub fed : (P : Program) → Reader P → List ℕ → Reader P
fed P r [] = r
fed P r (b ∷ bs) = fed P (byte_fed P r b) bs

-- one piece after another
unfoldable pub fed_pieces : (P : Program) → Reader P → List (List ℕ) → Reader P
fed_pieces P r [] = r
fed_pieces P r (piece ∷ pieces) = fed_pieces P (fed P r piece) pieces

-- At the end of the input the bytes had, if there are any, are a broken line.
unfoldable pub rest_fed : (P : Program) → Reader P → Reader P
rest_fed P r = cond (P.over r.state) r (cond (eqb (length r.had) 0) r (handed_on P false r))

-- and then the end is told: the state afterwards, and all that is printed
unfoldable pub reader_ended : (P : Program) → Reader P → P.State × List ℕ
reader_ended P r = ((P.end (rest_fed P r).state).0, (rest_fed P r).printed ++ (P.end (rest_fed P r).state).1)
