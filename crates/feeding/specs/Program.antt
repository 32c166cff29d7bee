-- A program that reads lines, as letters: what it does with a line and with the end of the input, and when it is over.
use Rattle.std.specs.Prelude.{◌≡◌, Bool, true, cond, List, [], ℕ}

-- Each gives the state afterwards and the bytes printed: `line` of a whole line, without its line feed; `broken` where a line is too long or
-- no line feed ends it; `end` where the input has no byte more. With a broken line a program is over, and over it takes no line and prints none.
pub record Program : Type 1 where
  pub State : Type 0
  pub line : State → List ℕ → State × List ℕ
  pub broken : State → State × List ℕ
  pub end : State → State × List ℕ
  pub over : State → Bool
  pub stops : (s : State) → over (broken s).0 ≡ true
  pub quiet : (s : State) → over s ≡ true → ((bytes : List ℕ) → line s bytes ≡ (s, [])) × (broken s ≡ (s, []))

unfoldable pub handed : (P : Program) → P.State → Bool → List ℕ → P.State × List ℕ
handed P s whole bytes = cond whole (P.line s bytes) (P.broken s)
