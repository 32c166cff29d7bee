-- What any line between the width and the end is: refused, the end line, or a row that the run takes. After a refusal nothing is printed.
use mathlib.Core.Path.{◌≡◌, refl, ap}
use mathlib.Core.Logic.{◌⊎◌, inl, inr, ⊎_elim}
use mathlib.Core.Bool.{Bool, true, false, ◌&&◌}
use mathlib.Core.List.{List, [], ◌∷◌, ◌++◌, append-nil}
use Rattle.std.specs.Prelude.{Option, None, Some}
use Prim.Native.Nat.{ℕ, ◌<◌}
use native.Mathlib.Omega.{arith}
use borrow.Author.Tests.{eqb-true, eqb-false}
use lib.Dec.{eqb, leb}
use lib.IntN.{ℤ}
use lib.ListN.{length}
use Rattle.runs.specs.declared.record.Run.{Run}
use Rattle.text_runs.specs.Lines.{row, end_line, numbers_in, end_total}
use Rattle.text_runs.specs.declared.state.Way.{Way}
use Rattle.text_runs.specs.declared.state.State.{State}
use Rattle.text_runs.specs.declared.state.Phase.TheVariants.{Between, Ended, Over}
use Rattle.text_runs.specs.State.{in_phase, with_run, line_number, refused}
use Rattle.text_runs.specs.Way.{lent_output, taken_by, shown_row}
use Rattle.text_runs.specs.Line.{line_limit, bad_form, row_given, row_taken, between_by, between_taken, formed, not_formed, line_taken, end_in, input_ended}
use Rattle.text_runs.specs.Input.{Line, printed_from}
use Rattle.text_runs.specs.EveryInput.{refusal_line}
use Rattle.text_runs.proofs.UpToLaws.{tested}
use Rattle.text_runs.proofs.Inverse.{row_read}
use Rattle.text_runs.proofs.EndRead.{end-only}
use Rattle.text_runs.proofs.OneLine.{state}

-- ---- after a refusal
over-line : (way : Way) (run : Run) (whole : Bool) (bytes : List ℕ) → line_taken (state way Over run) whole bytes ≡ (state way Over run, [])
unfolding line_taken formed not_formed
over-line way run whole bytes = ⊎_elim (λ e. rw e) (λ e. rw e) (tested (whole && leb (length bytes) line_limit))

nothing-follows : (way : Way) (run : Run) (lines : List Line) → printed_from (state way Over run) lines ≡ []
unfolding printed_from input_ended end_in
nothing-follows way run [] = refl
nothing-follows way run (line ∷ lines) = rw (over-line way run line.0 line.1) (nothing-follows way run lines)

pub refused-printed : (s : State) (answer : ℕ × ℕ) (lines : List Line)
    → (refused s answer).1 ++ printed_from (refused s answer).0 lines ≡ refusal_line answer.0 (line_number s.phase s.run) answer.1
unfolding refused in_phase refusal_line
refused-printed s answer lines = rw (nothing-follows s.way s.run lines) (append-nil _)

-- a first line that is refused is all that is printed
pub line_refused : (s : State) (line : Line) (answer : ℕ × ℕ) (lines : List Line) → line_taken s line.0 line.1 ≡ refused s answer
    → printed_from s (line ∷ lines) ≡ refusal_line answer.0 (line_number s.phase s.run) answer.1
unfolding printed_from
line_refused s line answer lines e = rw e (refused-printed s answer lines)

-- ---- the three cases: a refusal is of the form or of the gate,
abbrev pub RowSource : Way → Run → ℕ × ℕ → Type 0
RowSource way run answer = (answer ≡ (13, 0)) ⊎ ((xs : List ℤ) × (answer ≡ (taken_by way run xs (lent_output run)).0))

pub record LineRefused (way : Way) (run : Run) (line : Line) : Type 0 where
  pub answer : ℕ × ℕ
  pub numbered : 0 < answer.0
  pub source : RowSource way run answer
  pub given : line_taken (state way Between run) line.0 line.1 ≡ refused (state way Between run) answer

pub record LineEnds (way : Way) (run : Run) (line : Line) : Type 0 where
  pub total : ℤ
  pub is : line ≡ (true, end_line run.count total)
  pub given : line_taken (state way Between run) line.0 line.1 ≡ (state way (Ended total) run, [])

pub record LineRow (way : Way) (run : Run) (line : Line) : Type 0 where
  pub xs : List ℤ
  pub is : line ≡ (true, row xs)
  pub works : (taken_by way run xs (lent_output run)).0.0 ≡ 0
  pub given : line_taken (state way Between run) line.0 line.1
      ≡ (state way Between (taken_by way run xs (lent_output run)).1, shown_row way run (taken_by way run xs (lent_output run)).2)

abbrev pub AnyLine : Way → Run → Line → Type 0
AnyLine way run line = LineRefused way run line ⊎ LineEnds way run line ⊎ LineRow way run line

module _ (way : Way) (run : Run) where
  not-formed : (whole : Bool) (bytes : List ℕ) → (whole && leb (length bytes) line_limit) ≡ false → LineRefused way run (whole, bytes)
  unfolding line_taken not_formed bad_form
  not-formed whole bytes e = record { answer = (13, 0); numbered = omega arith; source = inl refl; given = rw e }

  module _ (bytes : List ℕ) (short : leb (length bytes) line_limit ≡ true) where
    is-end : (total : ℤ) → end_total run.count bytes ≡ Some total → LineEnds way run (true, bytes)
    unfolding line_taken formed between_taken between_by in_phase
    is-end total e = record { total = total; is = ap (λ (b : List ℕ). (true, b)) (end-only run.count total bytes e).0; given = rw (short, e) }

    module _ (between : end_total run.count bytes ≡ None) where
      row-bad : numbers_in bytes ≡ None → LineRefused way run (true, bytes)
      unfolding line_taken formed between_taken between_by row_taken bad_form
      row-bad e = record { answer = (13, 0); numbered = omega arith; source = inl refl; given = rw (short, between, e) }

      row-refused : (xs : List ℤ) → numbers_in bytes ≡ Some xs → eqb (taken_by way run xs (lent_output run)).0.0 0 ≡ false → LineRefused way run (true, bytes)
      unfolding line_taken formed between_taken between_by row_taken row_given
      row-refused xs e f =
          let z = eqb-false (taken_by way run xs (lent_output run)).0.0 0 f in
          record { answer = (taken_by way run xs (lent_output run)).0; numbered = omega (arith, z); source = inr (xs, refl); given = rw (short, between, e, f) }

      row-works : (xs : List ℤ) → numbers_in bytes ≡ Some xs → eqb (taken_by way run xs (lent_output run)).0.0 0 ≡ true → LineRow way run (true, bytes)
      unfolding line_taken formed between_taken between_by row_taken row_given with_run
      row-works xs e f = record {
        xs = xs;
        is = rw (row_read bytes xs e);
        works = eqb-true (taken_by way run xs (lent_output run)).0.0 0 f;
        given = rw (short, between, e, f);
      }

      any-row : (o : Option (List ℤ)) → numbers_in bytes ≡ o → AnyLine way run (true, bytes)
      any-row None e = inl (row-bad e)
      any-row (Some xs) e = ⊎_elim (λ f. inr (inr (row-works xs e f))) (λ f. inl (row-refused xs e f)) (tested (eqb (taken_by way run xs (lent_output run)).0.0 0))

    any-short : (f : Option ℤ) → end_total run.count bytes ≡ f → AnyLine way run (true, bytes)
    any-short (Some total) e = inr (inl (is-end total e))
    any-short None e = any-row e (numbers_in bytes) refl

  any-line : (whole : Bool) (bytes : List ℕ) → AnyLine way run (whole, bytes)
  any-line true bytes = ⊎_elim (λ e. any-short bytes e (end_total run.count bytes) refl) (λ e. inl (not-formed true bytes e)) (tested (leb (length bytes) line_limit))
  any-line false bytes = inl (not-formed false bytes refl)

  pub line-is : (line : Line) → AnyLine way run line
  line-is line = any-line line.0 line.1
