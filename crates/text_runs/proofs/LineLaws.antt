-- The lines of a text: a line feed ends one, and the text of rows has the width, a line for each row, and the end line.
use mathlib.Core.Path.{◌≡◌, refl, sym, ap, ◌∙◌}
use mathlib.Core.Bool.{true}
use mathlib.Core.List.{List, [], ◌∷◌, ◌++◌, append_assoc, append-nil}
use Prim.Native.Nat.{ℕ, ◌<◌}
use native.Mathlib.Omega.{arith}
use borrow.Author.Tests.{ne_eqb}
use lib.IntN.{ℤ}
use lib.ListN.{length}
use Rattle.text_runs.specs.Decimal.{decimal, printed}
use Rattle.text_runs.specs.Lines.{line_feed, end_tag, row, end_line}
use Rattle.text_runs.specs.Own.Lacks.{lacks}
use Rattle.text_runs.proofs.RowLaws.{lacks-append, decimal-lacks, printed-lacks, row-no-feed}
use Rattle.text_runs.specs.Way.{row_line, last_line}
use Rattle.text_runs.specs.Input.{Line, byte_in_front, lines_of}
use Rattle.text_runs.specs.Return.{row_lines, text_of}

-- ---- the lines of a text
pub line-ends : (bs rest : List ℕ) → lacks line_feed bs → lines_of (bs ++ line_feed ∷ rest) ≡ (true, bs) ∷ lines_of rest
unfolding lines_of byte_in_front lacks
line-ends [] rest h = refl
line-ends (b ∷ bs) rest h = rw (ne_eqb b line_feed h.0, line-ends bs rest h.1)

pub decimal-no-feed : (n : ℕ) → lacks line_feed (decimal n)
decimal-no-feed = decimal-lacks line_feed (omega arith)

pub end-no-feed : (count : ℕ) (total : ℤ) → lacks line_feed (end_line count total)
unfolding end_line end_tag lacks
end-no-feed count total =
    let no : (b : ℕ) → 10 < b → b ≡ 10 → ⊥ = λ b h e. omega arith in
    let fields = lacks-append line_feed (decimal count) (44 ∷ printed total) (decimal-no-feed count) (no 44 (omega arith), printed-lacks line_feed (omega arith) (λ e. omega arith) total) in
    (no 101 (omega arith), (no 110 (omega arith), (no 100 (omega arith), (no 44 (omega arith), fields))))

unfoldable pub lines_between : List (List ℤ) → List Line → List Line
lines_between [] after = after
lines_between (xs ∷ rows) after = (true, row xs) ∷ lines_between rows after

pub rows-lines : (rows : List (List ℤ)) (rest : List ℕ) → lines_of (row_lines rows ++ rest) ≡ lines_between rows (lines_of rest)
unfolding row_lines row_line lines_between
rows-lines [] rest = refl
rows-lines (xs ∷ rows) rest =
    ap lines_of (append_assoc (row xs ++ line_feed ∷ []) (row_lines rows) rest ∙ append_assoc (row xs) (line_feed ∷ []) (row_lines rows ++ rest))
    ∙ line-ends (row xs) (row_lines rows ++ rest) (row-no-feed xs)
    ∙ ap (λ (lines : List Line). (true, row xs) ∷ lines) (rows-lines rows rest)

-- the text of rows, in front of other bytes and alone
pub text-lines-front : (N : ℕ) (rows : List (List ℤ)) (total : ℤ) (rest : List ℕ)
    → lines_of (text_of N rows total ++ rest) ≡ (true, decimal N) ∷ lines_between rows ((true, end_line (length rows) total) ∷ lines_of rest)
unfolding text_of last_line
text-lines-front N rows total rest =
    let last = last_line (length rows) total in
    let end = end_line (length rows) total in
    ap lines_of (append_assoc (decimal N ++ line_feed ∷ row_lines rows) last rest ∙ append_assoc (decimal N) (line_feed ∷ row_lines rows) (last ++ rest))
    ∙ line-ends (decimal N) (row_lines rows ++ (last ++ rest)) (decimal-no-feed N)
    ∙ ap (λ (lines : List Line). (true, decimal N) ∷ lines)
    (rows-lines rows (last ++ rest)
    ∙ ap (lines_between rows) (ap lines_of (append_assoc end (line_feed ∷ []) rest) ∙ line-ends end rest (end-no-feed (length rows) total)))

pub text-lines : (N : ℕ) (rows : List (List ℤ)) (total : ℤ) → lines_of (text_of N rows total) ≡ (true, decimal N) ∷ lines_between rows ((true, end_line (length rows) total) ∷ [])
unfolding lines_of
text-lines N rows total = ap lines_of (sym (append-nil (text_of N rows total))) ∙ text-lines-front N rows total []
