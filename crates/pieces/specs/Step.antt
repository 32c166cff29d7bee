-- A program over lines as a trait of the code has it.
use Rattle.std.specs.Prelude.{◌≡◌, Bool, true, List, [], ℕ}
use Rattle.feeding.specs.Program.{Program}
use Rattle.pieces.specs.Piece.{Place}
use Rattle.pieces.specs.declared.step.Given.{Given}
use Rattle.pieces.specs.declared.step.Progress.{Progress}

-- What a program does, on states of a type of the code.
pub record Letters (S : Type 0) : Type 0 where
  pub line : S → List ℕ → S × List ℕ
  pub broken : S → S × List ℕ
  pub end : S → S × List ℕ
  pub over : S → Bool
  pub stops : (s : S) → over (broken s).0 ≡ true
  pub quiet : (s : S) → over s ≡ true → ((bytes : List ℕ) → line s bytes ≡ (s, [])) × (broken s ≡ (s, []))

abbrev pub letters_of : (P : Program) → Letters P.State
letters_of P = record { line = P.line; broken = P.broken; end = P.end; over = P.over; stops = P.stops; quiet = P.quiet }

module _ {S : Type 0} (l : Letters S) where
  abbrev pub program_of : Program
  program_of = record { State = S; line = l.line; broken = l.broken; end = l.end; over = l.over; stops = l.stops; quiet = l.quiet }

  -- how far the code has come
  abbrev pub place_of : Progress S → Place program_of
  place_of p = record { state = p.state; had = p.had; waiting = p.waiting; at = p.at }

  -- and what a line or the end gave
  abbrev pub given_at : Given S → ℕ → Place program_of
  given_at g at = record { state = g.state; had = 0; waiting = g.waiting; at = at }
