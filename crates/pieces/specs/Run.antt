-- A whole run, for every program: what its loop keeps, and what holds where it ends.
use Rattle.std.specs.Prelude.{◌≡◌, true, ◌⊎◌, List, ◌++◌, ℕ, ◌<◌, take, Option}
use Rattle.std.specs.Io.KnownBytes.{Appends, Consumes, IsAtEnd}
use Rattle.feeding.specs.Program.{Program}
use Rattle.feeding.specs.Feed.{reader_begun, fed, reader_ended}
use Rattle.feeding.specs.Lines.{printed_of}
use Rattle.pieces.specs.Piece.{Place, reader}

-- What it read are the pieces before and this one up to its place, one after another; it has written all that they print.
pub record Ran (P : Program) (s : P.State) (piece line : List ℕ) (p : Place P) : Type 0 where
  pub before : List ℕ
  pub written : List ℕ
  pub is : reader P p.state (take p.had line) written ≡ fed P (reader_begun P s) (before ++ take p.at piece)

-- A run that ended: it read up to the end of the input, or until the program was over, and has written all that the bytes read print. Of the
-- reader and the writer that says something where their bytes are known: those left to read, and those written.
pub record RanToTheEnd (P : Program) (s : P.State) (left left' written written' : Option (List ℕ)) (room : ℕ) (last : P.State) : Type 0 where
  pub read : List ℕ
  pub reads : Consumes left left' read
  pub stops : 0 < room → IsAtEnd left' ⊎ (P.over (fed P (reader_begun P s) read).state ≡ true)
  pub prints : Appends written written' (printed_of P s read)
  pub ends : last ≡ (reader_ended P (fed P (reader_begun P s) read)).0
