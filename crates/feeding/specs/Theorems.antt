-- What holds of any program, any input and any cut of it into pieces. `proofs/` proves each.
use Rattle.std.specs.Prelude.{◌≡◌, ◌⊎◌, true, false, List, [], ◌∷◌, ◌++◌, ℕ, ◌+◌, ◌-◌, ◌*◌, ◌≤◌, length}
use Rattle.text_runs.specs.Line.{line_limit}
use Rattle.feeding.specs.Program.{Program}
use Rattle.feeding.specs.Feed.{Reader, reader_begun, fed, fed_pieces, reader_ended}
use Rattle.feeding.specs.Lines.{printed_of}
use Rattle.feeding.specs.Budget.{Bounded, line_bytes, accepts, lines_handed}

unfoldable pub joined : List (List ℕ) → List ℕ
joined [] = []
joined (piece ∷ pieces) = piece ++ joined pieces

-- ---- 1. Any cut into pieces.
-- feeding p and then q is feeding p ++ q
abbrev pub FedTwice : Type 1
FedTwice = (P : Program) (r : Reader P) (p q : List ℕ) → fed P r (p ++ q) ≡ fed P (fed P r p) q

-- any cut of an input prints what its lines print
abbrev pub AnyCut : Type 1
AnyCut = (P : Program) (s : P.State) (pieces : List (List ℕ)) → (reader_ended P (fed_pieces P (reader_begun P s) pieces)).1 ≡ printed_of P s (joined pieces)

abbrev pub SameForEveryCut : Type 1
SameForEveryCut =
    (P : Program) (s : P.State) (pieces pieces' : List (List ℕ)) → joined pieces ≡ joined pieces'
    → reader_ended P (fed_pieces P (reader_begun P s) pieces) ≡ reader_ended P (fed_pieces P (reader_begun P s) pieces')

-- ---- 2. What is printed for a beginning of an input, before the end is told, is a beginning of all that is printed.
abbrev pub NothingTakenBack : Type 1
NothingTakenBack =
    (P : Program) (s : P.State) (p q : List ℕ) → (more : List ℕ) × (printed_of P s (p ++ q) ≡ (fed P (reader_begun P s) p).printed ++ more)

-- ---- 3. Every program with so many lines is over within so many lines' bytes.
-- each byte fed counts
abbrev pub BytesCounted : Type 1
BytesCounted =
    (P : Program) (B : Bounded P) (r : Reader P) (bytes : List ℕ) → length r.had ≤ line_limit → accepts P B (fed P r bytes) ≤ accepts P B r - length bytes

-- after n lines' bytes n lines were handed on, or the program is over
abbrev pub LinesHandedOn : Type 1
LinesHandedOn =
    (P : Program) (r : Reader P) (bytes : List ℕ) (n : ℕ) → length r.had ≤ line_limit → n * line_bytes ≤ length bytes
    → (P.over (fed P r bytes).state ≡ true) ⊎ (n ≤ lines_handed P r bytes)

-- and each of them counts
abbrev pub LinesCounted : Type 1
LinesCounted =
    (P : Program) (B : Bounded P) (r : Reader P) (bytes : List ℕ)
    → (P.over (fed P r bytes).state ≡ true) ⊎ (B.left (fed P r bytes).state + lines_handed P r bytes ≤ B.left r.state)

abbrev pub OverInTheEnd : Type 1
OverInTheEnd =
    (P : Program) (B : Bounded P) (r : Reader P) (bytes : List ℕ)
    → length r.had ≤ line_limit → accepts P B r ≤ length bytes → P.over (fed P r bytes).state ≡ true

abbrev pub OverWithinBudget : Type 1
OverWithinBudget =
    (P : Program) (B : Bounded P) (s : P.State) (bytes : List ℕ) → B.left s * line_bytes ≤ length bytes → P.over (fed P (reader_begun P s) bytes).state ≡ true
