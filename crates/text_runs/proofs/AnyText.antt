-- What any input is, on either way: refused at its first line; the width and the lines of rows that the run takes, with the end line, where
-- the finish works; or the width and such rows, and then a refusal.
use mathlib.Core.Path.{◌≡◌, refl, sym, ap, ap₂, ◌∙◌}
use mathlib.Core.Logic.{◌⊎◌, inl, inr, ⊎_elim}
use mathlib.Core.Bool.{Bool, true, false, ◌&&◌}
use mathlib.Core.List.{List, [], ◌∷◌, ◌++◌}
use Prim.Native.Nat.{ℕ, ◌<◌}
use native.Mathlib.Omega.{arith}
use borrow.Author.Tests.{eqb-false}
use lib.Dec.{eqb, leb}
use lib.IntN.{ℤ, pos, negsuc}
use lib.ListN.{length}
use lib.Seq.{take-length}
use Rattle.tables.specs.Widths.{half_width}
use Rattle.distance.specs.Statement.{IsWidth}
use Rattle.runs.specs.declared.record.Run.{Run}
use Rattle.runs.specs.Forward.{started}
use Rattle.std.specs.Prelude.{Option, Some, None}
use Rattle.text_runs.specs.Decimal.{decimal, printed, number_in}
use Rattle.text_runs.specs.Lines.{line_feed, end_line}
use Rattle.text_runs.specs.declared.state.Way.{Way}
use Rattle.text_runs.specs.declared.state.Phase.TheVariants.{Between}
use Rattle.text_runs.specs.State.{begun, line_between, line_number, refused}
use Rattle.text_runs.specs.Way.{lent_output, ended_by}
use Rattle.text_runs.specs.Line.{line_limit, bad_form, width_started, width_taken, formed, not_formed, line_taken, end_in, input_ended}
use Rattle.text_runs.specs.Input.{Line, lines_of, printed_from, printed_of}
use Rattle.text_runs.specs.Return.{row_lines}
use Rattle.text_runs.specs.EveryInput.{first_lines, refusal_line, RefusedFirst}
use Rattle.text_runs.proofs.UpToLaws.{tested}
use Rattle.text_runs.proofs.Inverse.{printed-read}
use Rattle.text_runs.proofs.LineLaws.{lines_between}
use Rattle.text_runs.proofs.OneLine.{state, width-printed}
use Rattle.text_runs.proofs.AnyLine.{line_refused}
use Rattle.text_runs.proofs.AnyLines.{Source, AllTaken, run_behind, shown_for, LinesWhole, LinesRefused, lines-is}
use Rattle.text_runs.proofs.TextLines.{text_of_lines, lines-text, line-text, between-text, width-first}

-- ---- the first line: refused, or a width
record FirstNo (way : Way) (line : Line) : Type 0 where
  number : ℕ
  numbered : (number ≡ 1) ⊎ (number ≡ 13)
  given : line_taken (begun way) line.0 line.1 ≡ refused (begun way) (number, 0)

record FirstWidth (line : Line) : Type 0 where
  width : ℕ
  wide : IsWidth width
  is : line ≡ (true, decimal width)

module _ (way : Way) where
  first-bad : (whole : Bool) (bytes : List ℕ) → (whole && leb (length bytes) line_limit) ≡ false → FirstNo way (whole, bytes)
  unfolding begun line_taken not_formed bad_form
  first-bad whole bytes e = record { number = 13; numbered = inr refl; given = rw e }

  not-started : (N : ℕ) → eqb (half_width N) 0 ≡ true → width_started (begun way) N ≡ refused (begun way) (1, 0)
  unfolding width_started started
  not-started N e = let d : (started N).0 ≡ (1, 0) = rw e in rw d

  module _ (bytes : List ℕ) (short : leb (length bytes) line_limit ≡ true) where
    any-number : (f : Option ℤ) → number_in bytes ≡ f → FirstNo way (true, bytes) ⊎ FirstWidth (true, bytes)
    unfolding begun line_taken formed width_taken bad_form printed
    any-number None e = inl (record { number = 13; numbered = inr refl; given = rw (short, e) })
    any-number (Some (negsuc n)) e = inl (record { number = 1; numbered = inl refl; given = rw (short, e) })
    any-number (Some (pos N)) e =
        ⊎_elim (λ w. inl (record { number = 1; numbered = inl refl; given = rw (short, e) (not-started N w) }))
        (λ w.
        let z = eqb-false (half_width N) 0 w in
        inr (record { width = N; wide = omega (arith, z); is = ap (λ (b : List ℕ). (true, b)) (sym (printed-read bytes (pos N) e)) }))
        (tested (eqb (half_width N) 0))

  first-line : (whole : Bool) (bytes : List ℕ) → FirstNo way (whole, bytes) ⊎ FirstWidth (whole, bytes)
  first-line true bytes = ⊎_elim (λ e. any-number bytes e (number_in bytes) refl) (λ e. inl (first-bad true bytes e)) (tested (leb (length bytes) line_limit))
  first-line false bytes = inl (first-bad false bytes refl)

-- ---- the three cases
pub record TextWhole (way : Way) (input : List ℕ) : Type 0 where
  pub width : ℕ
  pub wide : IsWidth width
  pub rows : List (List ℤ)
  pub taken : AllTaken way (started width).1 rows
  pub ended : (ended_by way (run_behind way (started width).1 rows) (lent_output (run_behind way (started width).1 rows))).0.0 ≡ 0
  pub lines_are : lines_of input
      ≡ (true, decimal width) ∷ lines_between rows ((true, end_line (run_behind way (started width).1 rows).count (run_behind way (started width).1 rows).total) ∷ [])

pub record TextRefused (way : Way) (input : List ℕ) : Type 0 where
  pub width : ℕ
  pub wide : IsWidth width
  pub rows : List (List ℤ)
  pub rest : List ℕ
  pub number : ℕ
  pub place : ℕ
  pub numbered : 0 < number
  pub source : Source way (run_behind way (started width).1 rows) (number, place)
  pub taken : AllTaken way (started width).1 rows
  pub input-is : input ≡ first_lines (length rows) width rows ++ rest
  pub printed-is : printed_of way input
      ≡ (decimal width ++ line_feed ∷ []) ++ (shown_for way (started width).1 rows ++ refusal_line number (line_between (run_behind way (started width).1 rows).count) place)

module _ (way : Way) (input : List ℕ) where
  nothing_read : lines_of input ≡ [] → RefusedFirst way input
  unfolding printed_of printed_from begun input_ended end_in bad_form refused line_number refusal_line
  nothing_read e = record { number = 13; numbered = inr refl; printed-is = rw e }

  module _ (line : Line) (lines : List Line) (e : lines_of input ≡ line ∷ lines) where
    first-no : FirstNo way line → RefusedFirst way input
    unfolding printed_of begun line_number
    first-no r = record { number = r.number; numbered = r.numbered; printed-is = rw e (line_refused (begun way) line (r.number, 0) lines r.given) }

    module _ (f : FirstWidth line) where
      abbrev N : ℕ
      N = f.width

      abbrev run : Run
      run = (started N).1

      behind-width : printed_of way input ≡ (decimal N ++ line_feed ∷ []) ++ printed_from (state way Between run) lines
      unfolding printed_of
      behind-width = ap (printed_from (begun way)) (e ∙ ap (λ (l : Line). l ∷ lines) f.is) ∙ width-printed way N f.wide lines

      text-whole : LinesWhole way run lines → TextWhole way input
      text-whole w = record {
        width = N;
        wide = f.wide;
        rows = w.rows;
        taken = w.taken;
        ended = w.ended;
        lines_are = e ∙ ap₂ (λ (l : Line) (ls : List Line). l ∷ ls) f.is w.lines_are;
      }

      text-begins : (rows : List (List ℤ)) (rest : List Line) → lines ≡ lines_between rows rest → input ≡ first_lines (length rows) N rows ++ text_of_lines rest
      unfolding first_lines
      text-begins rows rest d =
          sym (lines-text input)
          ∙ ap text_of_lines (e ∙ ap₂ (λ (l : Line) (ls : List Line). l ∷ ls) f.is d)
          ∙ line-text (decimal N) (lines_between rows rest)
          ∙ ap (λ (text : List ℕ). (decimal N ++ line_feed ∷ []) ++ text) (between-text rows rest)
          ∙ width-first N (row_lines rows) (text_of_lines rest)
          ∙ ap (λ (r : List (List ℤ)). (decimal N ++ line_feed ∷ row_lines r) ++ text_of_lines rest) (sym (take-length rows))

      text-refused : LinesRefused way run lines → TextRefused way input
      text-refused w = record {
        width = N;
        wide = f.wide;
        rows = w.rows;
        rest = text_of_lines w.rest;
        number = w.answer.0;
        place = w.answer.1;
        numbered = w.numbered;
        source = w.source;
        taken = w.taken;
        input-is = text-begins w.rows w.rest w.lines_are;
        printed-is = behind-width ∙ ap (λ (text : List ℕ). (decimal N ++ line_feed ∷ []) ++ text) w.printed-is;
      }

  any-text : (lines : List Line) → lines_of input ≡ lines → TextWhole way input ⊎ RefusedFirst way input ⊎ TextRefused way input
  any-text [] e = inr (inl (nothing_read e))
  any-text (line ∷ lines) e =
      ⊎_elim (λ r. inr (inl (first-no line lines e r)))
      (λ f. ⊎_elim (λ w. inl (text-whole line lines e f w)) (λ w. inr (inr (text-refused line lines e f w))) (lines-is way (started f.width).1 lines))
      (first-line way line.0 line.1)

  pub text-is : TextWhole way input ⊎ RefusedFirst way input ⊎ TextRefused way input
  text-is = any-text (lines_of input) refl
