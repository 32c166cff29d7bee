-- A text is told by its lines.
use mathlib.Core.Path.{◌≡◌, refl, sym, ap, ap₂, ◌∙◌}
use mathlib.Core.Logic.{⊎_elim}
use mathlib.Core.Bool.{Bool, true, false}
use mathlib.Core.List.{List, [], ◌∷◌, ◌++◌, append_assoc}
use Prim.Native.Nat.{ℕ, zero, suc}
use borrow.Author.Tests.{eqb-true}
use lib.Dec.{eqb}
use lib.IntN.{ℤ}
use lib.ListN.{length, take, drop}
use Rattle.text_runs.specs.Decimal.{decimal}
use Rattle.text_runs.specs.Lines.{line_feed, row}
use Rattle.text_runs.specs.Way.{row_line, last_line}
use Rattle.text_runs.specs.Input.{Line, byte_in_front, lines_of}
use Rattle.text_runs.specs.Return.{row_lines, text_of}
use Rattle.text_runs.specs.EveryInput.{first_lines, FirstLinesBegin}
use Rattle.text_runs.proofs.UpToLaws.{tested}
use Rattle.text_runs.proofs.LineLaws.{lines_between}

feed_of : Bool → List ℕ
feed_of true = line_feed ∷ []
feed_of false = []

-- lines one behind the other, each whole one with its line feed
pub text_of_lines : List Line → List ℕ
text_of_lines [] = []
text_of_lines (line ∷ lines) = line.1 ++ feed_of line.0 ++ text_of_lines lines

front-text : (b : ℕ) (lines : List Line) → text_of_lines (byte_in_front b lines) ≡ b ∷ text_of_lines lines
unfolding byte_in_front text_of_lines feed_of
front-text b [] = refl
front-text b (line ∷ lines) = refl

pub lines-text : (bs : List ℕ) → text_of_lines (lines_of bs) ≡ bs
unfolding lines_of text_of_lines feed_of
lines-text [] = refl
lines-text (b ∷ bs) =
    ⊎_elim (λ e. rw e (ap₂ (λ (c : ℕ) (cs : List ℕ). c ∷ cs) (sym (eqb-true b line_feed e)) (lines-text bs)))
    (λ e. rw e (front-text b (lines_of bs) ∙ ap (λ (cs : List ℕ). b ∷ cs) (lines-text bs)))
    (tested (eqb b line_feed))

pub same_lines : (xs ys : List ℕ) → lines_of xs ≡ lines_of ys → xs ≡ ys
same_lines xs ys e = sym (lines-text xs) ∙ ap text_of_lines e ∙ lines-text ys

-- a whole line, and the lines of rows, in front of others
pub line-text : (bytes : List ℕ) (lines : List Line) → text_of_lines ((true, bytes) ∷ lines) ≡ (bytes ++ line_feed ∷ []) ++ text_of_lines lines
unfolding text_of_lines feed_of
line-text bytes lines = refl

pub between-text : (rows : List (List ℤ)) (rest : List Line) → text_of_lines (lines_between rows rest) ≡ row_lines rows ++ text_of_lines rest
unfolding lines_between row_lines row_line
between-text [] rest = refl
between-text (xs ∷ rows) rest =
    line-text (row xs) (lines_between rows rest)
    ∙ ap (λ (text : List ℕ). (row xs ++ line_feed ∷ []) ++ text) (between-text rows rest)
    ∙ sym (append_assoc (row xs ++ line_feed ∷ []) (row_lines rows) (text_of_lines rest))

-- the width in front of a text and what follows it
pub width-first : (N : ℕ) (text rest : List ℕ) → (decimal N ++ line_feed ∷ []) ++ (text ++ rest) ≡ (decimal N ++ line_feed ∷ text) ++ rest
width-first N text rest = append_assoc (decimal N) (line_feed ∷ []) (text ++ rest) ∙ sym (append_assoc (decimal N) (line_feed ∷ text) rest)

-- the first lines of a text are a beginning of it
rows_split : (count : ℕ) (rows : List (List ℤ)) → row_lines rows ≡ row_lines (take count rows) ++ row_lines (drop count rows)
unfolding row_lines
rows_split zero rows = refl
rows_split (suc count) [] = refl
rows_split (suc count) (xs ∷ rows) =
    ap (λ (text : List ℕ). row_line xs ++ text) (rows_split count rows) ∙ sym (append_assoc (row_line xs) (row_lines (take count rows)) (row_lines (drop count rows)))

pub first-lines-begin : FirstLinesBegin
unfolding text_of first_lines
first-lines-begin count N rows total =
    let first = row_lines (take count rows) in
    let others = row_lines (drop count rows) in
    let last = last_line (length rows) total in
    ap (λ (text : List ℕ). (decimal N ++ line_feed ∷ text) ++ last) (rows_split count rows)
    ∙ ap (λ (text : List ℕ). text ++ last) (sym (append_assoc (decimal N) (line_feed ∷ first) others))
    ∙ append_assoc (decimal N ++ line_feed ∷ first) others last
