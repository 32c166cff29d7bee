-- The last line of a whole text run is an end line, and that of a refused one is a refusal: no text is both.
use mathlib.Core.Path.{◌≡◌, refl, sym, ap, ◌∙◌}
use mathlib.Core.Bool.{true, false}
use mathlib.Core.List.{List, [], ◌∷◌, ◌++◌, append_assoc}
use Prim.Native.Nat.{ℕ, ◌<◌}
use native.Mathlib.Omega.{arith}
use lib.IntN.{ℤ}
use lib.ListN.{length, get_or, take}
use Rattle.text_runs.specs.Decimal.{decimal}
use Rattle.text_runs.specs.Lines.{comma, line_feed, refused_tag, end_tag, row, end_line, refusal}
use Rattle.text_runs.specs.Own.Lacks.{lacks}
use Rattle.text_runs.specs.Input.{Line, lines_of}
use Rattle.text_runs.specs.Return.{row_lines, text_of}
use Rattle.text_runs.specs.EveryInput.{first_lines, refusal_line}
use Rattle.text_runs.proofs.RowLaws.{lacks-append}
use Rattle.text_runs.proofs.LineLaws.{line-ends, decimal-no-feed, lines_between, rows-lines, text-lines}

-- the last of the lines behind one
last_of : Line → List Line → Line
last_of line [] = line
last_of line (next ∷ lines) = last_of next lines

last-between : (first last : Line) (rows : List (List ℤ)) → last_of first (lines_between rows (last ∷ [])) ≡ last
unfolding last_of lines_between
last-between first last [] = refl
last-between first last (xs ∷ rows) = last-between (true, row xs) last rows

-- of a text that is not empty, whatever is handed in first
pub last_line_of : List ℕ → Line
last_line_of text = last_of (false, []) (lines_of text)

-- ---- a refusal is one line
refusal-no-feed : (number line place : ℕ) → lacks line_feed (refusal number line place)
unfolding refusal refused_tag lacks
refusal-no-feed number line place =
    let no : (b : ℕ) → 10 < b → b ≡ 10 → ⊥ = λ b h e. omega arith in
    let fields : lacks line_feed (decimal number ++ comma ∷ (decimal line ++ comma ∷ decimal place)) =
    lacks-append line_feed (decimal number) (comma ∷ (decimal line ++ comma ∷ decimal place)) (decimal-no-feed number)
    (no 44 (omega arith), lacks-append line_feed (decimal line) (comma ∷ decimal place) (decimal-no-feed line) (no 44 (omega arith), decimal-no-feed place)) in
    (no 114 (omega arith), (no 101 (omega arith), (no 102 (omega arith), (no 117 (omega arith), (no 115 (omega arith), (no 101 (omega arith), (no 100 (omega arith), (no 44 (omega arith), fields))))))))

module _ (number line place : ℕ) where
  refusal-lines : lines_of (refusal_line number line place) ≡ (true, refusal number line place) ∷ []
  unfolding refusal_line lines_of
  refusal-lines = line-ends (refusal number line place) [] (refusal-no-feed number line place)

  pub refusal-last : last_line_of (refusal_line number line place) ≡ (true, refusal number line place)
  unfolding last_line_of last_of
  refusal-last = rw refusal-lines

  -- ---- behind the first lines of a text too
  pub behind-last : (count N : ℕ) (rows : List (List ℤ)) → last_line_of (first_lines count N rows ++ refusal_line number line place) ≡ (true, refusal number line place)
  unfolding last_line_of last_of first_lines
  behind-last count N rows =
      let shown = take count rows in
      let lines : lines_of ((decimal N ++ line_feed ∷ row_lines shown) ++ refusal_line number line place) ≡ (true, decimal N) ∷ lines_between shown ((true, refusal number line place) ∷ []) =
      ap lines_of (append_assoc (decimal N) (line_feed ∷ row_lines shown) (refusal_line number line place))
      ∙ line-ends (decimal N) (row_lines shown ++ refusal_line number line place) (decimal-no-feed N)
      ∙ ap (λ (ls : List Line). (true, decimal N) ∷ ls) (rows-lines shown (refusal_line number line place) ∙ ap (lines_between shown) refusal-lines) in
      ap (last_of (false, [])) lines ∙ last-between (true, decimal N) (true, refusal number line place) shown

  not_end : (n : ℕ) (total : ℤ) → ◌≡◌ {A = Line} (true, end_line n total) (true, refusal number line place) → ⊥
  unfolding end_line end_tag refusal refused_tag
  not_end n total e = let z : ◌≡◌ {A = ℕ} 101 114 = ap (λ (l : Line). get_or l.1 0 0) e in omega arith

  text-last : (N : ℕ) (rows : List (List ℤ)) (total : ℤ) → last_line_of (text_of N rows total) ≡ (true, end_line (length rows) total)
  unfolding last_line_of last_of
  text-last N rows total = ap (last_of (false, [])) (text-lines N rows total) ∙ last-between (true, decimal N) (true, end_line (length rows) total) rows

  pub whole-not-refused : (N : ℕ) (rows : List (List ℤ)) (total : ℤ) (text : List ℕ) → text ≡ text_of N rows total → last_line_of text ≡ (true, refusal number line place) → ⊥
  whole-not-refused N rows total text e f = not_end (length rows) total (sym (text-last N rows total) ∙ ap last_line_of (sym e) ∙ f)
