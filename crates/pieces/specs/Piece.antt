-- The step on a piece of the input, for every program: what its functions promise.
use Rattle.std.specs.Prelude.{◌≡◌, Bool, List, [], ℕ, ◌+◌, ◌≤◌, ◌<◌, length, take}
use Rattle.std.proofs.Math.Seq.{slice}
use Rattle.text_runs.specs.Line.{line_limit}
use Rattle.decimal.specs.Own.Put.{Put}
use Rattle.feeding.specs.Program.{Program, handed}
use Rattle.feeding.specs.Feed.{Reader, handed_on, fed, rest_fed, reader_ended}

-- What the code of a program needs besides: the bytes that it prints for a line at most, and limits that its states keep.
pub record Limits (P : Program) : Type 1 where
  pub most : ℕ
  pub Sound : P.State → Type 0
  pub kept : (s : P.State) (whole : Bool) (bytes : List ℕ) → Sound s → Sound (handed P s whole bytes).0

-- How far the code has come: the state, how many bytes the line buffer has of a line that no line feed has ended, how many bytes wait in the
-- output buffer, and where to go on in the piece.
pub record Place (P : Program) : Type 0 where
  pub state : P.State
  pub had : ℕ
  pub waiting : ℕ
  pub at : ℕ

abbrev pub reader : (P : Program) → P.State → List ℕ → List ℕ → Reader P
reader P s had printed = record { state = s; had = had; printed = printed }

-- the bytes had and the bytes printed stand at the start of the two buffers
unfoldable pub reader_of : (P : Program) → Place P → List ℕ → List ℕ → Reader P
reader_of P p line out = reader P p.state (take p.had line) (take p.waiting out)

pub record Buffers (P : Program) (L : Limits P) (piece line out : List ℕ) (p : Place P) : Type 0 where
  pub place : p.at ≤ length piece
  pub long : length line ≡ line_limit
  pub fits : p.had ≤ line_limit
  pub room : p.waiting ≤ length out
  pub sound : L.Sound p.state

-- What a program gives for a line or for the end is put behind what waits, and `next` is where to go on.
pub record Gives (P : Program) (L : Limits P) (given : P.State × List ℕ) (out : List ℕ) (waiting next : ℕ) (r : Place P) (out' : List ℕ) : Type 0 where
  pub state : r.state ≡ given.0
  pub put : Put waiting out given.1 r.waiting out'
  pub short : length given.1 ≤ L.most
  pub none : r.had ≡ 0
  pub place : r.at ≡ next

-- The line is handed on, and `next` is where to go on.
pub record HandsOn (P : Program) (L : Limits P) (whole : Bool) (line out : List ℕ) (p : Place P) (next : ℕ) (r : Place P) (out' : List ℕ) : Type 0 where
  pub is : reader P r.state [] (take r.waiting out') ≡ handed_on P whole (reader P p.state line (take p.waiting out))
  pub none : r.had ≡ 0
  pub place : r.at ≡ next
  pub room : r.waiting ≤ p.waiting + L.most

-- One line, or what the piece has of it: r is p, fed with the bytes between.
pub record Goes (P : Program) (L : Limits P) (piece line out : List ℕ) (p r : Place P) (line' out' : List ℕ) : Type 0 where
  pub is : reader_of P r line' out' ≡ fed P (reader_of P p line out) (slice p.at r.at piece)
  pub within : Buffers P L piece line out r
  pub rises : p.at < r.at

-- Line after line: r is p, fed with the bytes between, and has used up the piece, or the output has less room than a line can print.
pub record Took (P : Program) (L : Limits P) (piece line out : List ℕ) (p r : Place P) (line' out' : List ℕ) : Type 0 where
  pub is : reader_of P r line' out' ≡ fed P (reader_of P p line out) (slice p.at r.at piece)
  pub within : Buffers P L piece line out r
  pub used : r.waiting + L.most ≤ length out → r.at ≡ length piece
  pub goes : p.at ≤ r.at
  pub rises : p.waiting + L.most ≤ length out → p.at < length piece → p.at < r.at

-- The bytes had are a broken line where the input ends.
pub record Rests (P : Program) (L : Limits P) (line out : List ℕ) (p r : Place P) (out' : List ℕ) : Type 0 where
  pub is : reader_of P r line out' ≡ rest_fed P (reader_of P p line out)
  pub room : r.waiting ≤ p.waiting + L.most

-- And the end is told: the state afterwards, and all that is printed.
pub record Ends (P : Program) (line out : List ℕ) (p r : Place P) (out' : List ℕ) : Type 0 where
  pub is : (r.state, take r.waiting out') ≡ reader_ended P (reader_of P p line out)
  pub room : r.waiting ≤ length out
