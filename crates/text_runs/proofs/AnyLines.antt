-- What any lines behind the width are: rows that the run takes, one after the other, and then the end line alone, where the finish works; or
-- rows that it takes, and then a refusal. Either way goes as a letter.
use mathlib.Core.Path.{◌≡◌, refl, sym, ap, ap₂, subst, ◌∙◌}
use mathlib.Core.Logic.{◌⊎◌, inl, inr, ⊎_elim}
use mathlib.Core.Bool.{true, false, ◌&&◌}
use mathlib.Core.List.{List, [], ◌∷◌, ◌++◌, append_assoc}
use Prim.Native.Nat.{ℕ, ◌<◌}
use native.Mathlib.Omega.{arith}
use borrow.Author.Tests.{eqb-true, eqb-false}
use lib.Dec.{eqb, leb}
use lib.IntN.{ℤ}
use lib.ListN.{length}
use Rattle.integers.specs.Vectors.{alike}
use Rattle.integers.proofs.Sums.{alike_same}
use Rattle.runs.specs.declared.record.Run.{Run}
use Rattle.runs.specs.Gate as Gate
use Rattle.text_runs.specs.Lines.{end_line}
use Rattle.text_runs.specs.declared.state.Way.{Way}
use Rattle.text_runs.specs.declared.state.State.{State}
use Rattle.text_runs.specs.declared.state.Phase.TheVariants.{Between, Ended}
use Rattle.text_runs.specs.State.{LineResult, line_between, line_number, refused}
use Rattle.text_runs.specs.Way.{lent_output, taken_by, ended_by, shown_row}
use Rattle.text_runs.specs.Line.{line_limit, bad_form, formed, not_formed, line_taken, total_asked, finish_given, end_in, input_ended}
use Rattle.text_runs.specs.Input.{Line, printed_from}
use Rattle.text_runs.specs.EveryInput.{refusal_line}
use Rattle.text_runs.proofs.UpToLaws.{tested}
use Rattle.text_runs.proofs.LineLaws.{lines_between}
use Rattle.text_runs.proofs.OneLine.{state}
use Rattle.text_runs.proofs.AnyLine.{line_refused, RowSource, LineRefused, LineEnds, LineRow, line-is}

-- ---- rows taken one after the other: each call works; the record behind them; what is printed for them
unfoldable pub AllTaken : Way → Run → List (List ℤ) → Type 0
AllTaken way run [] = Unit {0}
AllTaken way run (xs ∷ rows) = ((taken_by way run xs (lent_output run)).0.0 ≡ 0) × AllTaken way (taken_by way run xs (lent_output run)).1 rows

unfoldable pub run_behind : Way → Run → List (List ℤ) → Run
run_behind way run [] = run
run_behind way run (xs ∷ rows) = run_behind way (taken_by way run xs (lent_output run)).1 rows

unfoldable pub shown_for : Way → Run → List (List ℤ) → List ℕ
shown_for way run [] = []
shown_for way run (xs ∷ rows) = shown_row way run (taken_by way run xs (lent_output run)).2 ++ shown_for way (taken_by way run xs (lent_output run)).1 rows

-- where it is known what a call gives
module _ (way : Way) (run : Run) (xs : List ℤ) (rows : List (List ℤ)) (after : Run) (out : List ℤ) (e : taken_by way run xs (lent_output run) ≡ ((0, 0), after, out)) where
  pub taken_next : AllTaken way run (xs ∷ rows) → AllTaken way after rows
  unfolding AllTaken
  taken_next t = subst (λ (g : Gate.CallResult). AllTaken way g.1 rows) e t.1

  pub run-next : run_behind way run (xs ∷ rows) ≡ run_behind way after rows
  unfolding run_behind
  run-next = ap (λ (g : Gate.CallResult). run_behind way g.1 rows) e

  pub shown-next : shown_for way run (xs ∷ rows) ≡ shown_row way run out ++ shown_for way after rows
  unfolding shown_for
  shown-next = ap (λ (g : Gate.CallResult). shown_row way run g.2 ++ shown_for way g.1 rows) e

-- ---- the two cases
pub record LinesWhole (way : Way) (run : Run) (lines : List Line) : Type 0 where
  pub rows : List (List ℤ)
  pub taken : AllTaken way run rows
  pub ended : (ended_by way (run_behind way run rows) (lent_output (run_behind way run rows))).0.0 ≡ 0
  pub lines_are : lines ≡ lines_between rows ((true, end_line (run_behind way run rows).count (run_behind way run rows).total) ∷ [])

-- a refusal is of a line between, of the finish, or of the total
abbrev pub Source : Way → Run → ℕ × ℕ → Type 0
Source way run answer = RowSource way run answer ⊎ (answer ≡ (ended_by way run (lent_output run)).0) ⊎ (answer ≡ (16, 0))

pub record LinesRefused (way : Way) (run : Run) (lines : List Line) : Type 0 where
  pub rows : List (List ℤ)
  pub rest : List Line
  pub answer : ℕ × ℕ
  pub numbered : 0 < answer.0
  pub source : Source way (run_behind way run rows) answer
  pub taken : AllTaken way run rows
  pub lines_are : lines ≡ lines_between rows rest
  pub printed-is : printed_from (state way Between run) lines ≡ shown_for way run rows ++ refusal_line answer.0 (line_between (run_behind way run rows).count) answer.1

abbrev pub AnyLines : Way → Run → List Line → Type 0
AnyLines way run lines = LinesWhole way run lines ⊎ LinesRefused way run lines

module _ (way : Way) (run : Run) where
  -- refused before any row
  refused-here : (lines : List Line) (answer : ℕ × ℕ) → 0 < answer.0 → Source way run answer → printed_from (state way Between run) lines ≡ refusal_line answer.0 (line_between run.count) answer.1
      → LinesRefused way run lines
  unfolding AllTaken run_behind shown_for lines_between
  refused-here lines answer n s e = record { rows = []; rest = lines; answer = answer; numbered = n; source = s; taken = tt; lines_are = refl; printed-is = e }

  missing-text-refused : LinesRefused way run []
  unfolding printed_from input_ended end_in bad_form refused line_number refusal_line
  missing-text-refused = refused-here [] (13, 0) (omega arith) (inl (inl refl)) refl

  line-no : (line : Line) (lines : List Line) → LineRefused way run line → LinesRefused way run (line ∷ lines)
  unfolding line_number
  line-no line lines r = refused-here (line ∷ lines) r.answer r.numbered (inl r.source) (line_refused (state way Between run) line r.answer lines r.given)

  -- ---- behind the end line: the finish, or text left over
  module _ (total : ℤ) where
    abbrev ended-state : State
    ended-state = state way (Ended total) run

    left_over : (line : Line) (lines : List Line) → printed_from ended-state (line ∷ lines) ≡ refusal_line 13 (line_between run.count) 0
    unfolding line_taken formed not_formed bad_form line_number
    left_over line lines = line_refused ended-state line (13, 0) lines (⊎_elim (λ e. rw e) (λ e. rw e) (tested (line.0 && leb (length line.1) line_limit)))

    end_refused : (answer : ℕ × ℕ) → input_ended ended-state ≡ refused ended-state answer → printed_from ended-state [] ≡ refusal_line answer.0 (line_between run.count) answer.1
    unfolding printed_from refused line_number refusal_line
    end_refused answer e = ap (λ (g : LineResult). g.1) e

    finish-no : eqb (ended_by way run (lent_output run)).0.0 0 ≡ false → input_ended ended-state ≡ refused ended-state (ended_by way run (lent_output run)).0
    unfolding input_ended end_in finish_given
    finish-no e = rw e

    total-no : eqb (ended_by way run (lent_output run)).0.0 0 ≡ true → alike total run.total ≡ false → input_ended ended-state ≡ refused ended-state (16, 0)
    unfolding input_ended end_in finish_given total_asked
    total-no e f = rw (e, f)

  module _ (line : Line) (r : LineEnds way run line) where
    end-printed : (lines : List Line) → printed_from (state way Between run) (line ∷ lines) ≡ printed_from (state way (Ended r.total) run) lines
    unfolding printed_from
    end-printed lines = rw r.given

    finish-works : eqb (ended_by way run (lent_output run)).0.0 0 ≡ true → AnyLines way run (line ∷ [])
    unfolding AllTaken run_behind lines_between
    finish-works e =
        ⊎_elim
        (λ f.
        inl (record { rows = []; taken = tt; ended = eqb-true _ 0 e; lines_are = ap (λ (l : Line). l ∷ []) (r.is ∙ ap (λ (t : ℤ). (true, end_line run.count t)) (alike_same r.total run.total f)) }))
        (λ f. inr (refused-here (line ∷ []) (16, 0) (omega arith) (inr (inr refl)) (end-printed [] ∙ end_refused r.total (16, 0) (total-no r.total e f))))
        (tested (alike r.total run.total))

    finish-refused : eqb (ended_by way run (lent_output run)).0.0 0 ≡ false → LinesRefused way run (line ∷ [])
    finish-refused e =
        let z = eqb-false (ended_by way run (lent_output run)).0.0 0 e in
        refused-here (line ∷ []) (ended_by way run (lent_output run)).0 (omega (arith, z)) (inr (inl refl)) (end-printed [] ∙ end_refused r.total (ended_by way run (lent_output run)).0 (finish-no r.total e))

    line-ends : (lines : List Line) → AnyLines way run (line ∷ lines)
    line-ends [] = ⊎_elim finish-works (λ e. inr (finish-refused e)) (tested (eqb (ended_by way run (lent_output run)).0.0 0))
    line-ends (next ∷ lines) = inr (refused-here (line ∷ next ∷ lines) (13, 0) (omega arith) (inl (inl refl)) (end-printed (next ∷ lines) ∙ left_over r.total next lines))

  -- ---- behind a row
  module _ (line : Line) (lines : List Line) (r : LineRow way run line) where
    abbrev after : Run
    after = (taken_by way run r.xs (lent_output run)).1

    row-whole : LinesWhole way after lines → LinesWhole way run (line ∷ lines)
    unfolding AllTaken run_behind lines_between
    row-whole w = record {
      rows = r.xs ∷ w.rows;
      taken = (r.works, w.taken);
      ended = w.ended;
      lines_are = ap₂ (λ (l : Line) (ls : List Line). l ∷ ls) r.is w.lines_are;
    }

    row-no : LinesRefused way after lines → LinesRefused way run (line ∷ lines)
    unfolding AllTaken run_behind shown_for lines_between printed_from
    row-no w = record {
      rows = r.xs ∷ w.rows;
      rest = w.rest;
      answer = w.answer;
      numbered = w.numbered;
      source = w.source;
      taken = (r.works, w.taken);
      lines_are = ap₂ (λ (l : Line) (ls : List Line). l ∷ ls) r.is w.lines_are;
      printed-is = rw (r.given, w.printed-is) (sym (append_assoc (shown_row way run (taken_by way run r.xs (lent_output run)).2) (shown_for way after w.rows) (refusal_line w.answer.0 (line_between (run_behind way after w.rows).count) w.answer.1)));
    }

pub lines-is : (way : Way) (run : Run) (lines : List Line) → AnyLines way run lines
lines-is way run [] = inr (missing-text-refused way run)
lines-is way run (line ∷ lines) =
    ⊎_elim (λ r. inr (line-no way run line lines r))
    (⊎_elim (λ r. line-ends way run line r lines)
    (λ r. ⊎_elim (λ w. inl (row-whole way run line lines r w)) (λ w. inr (row-no way run line lines r w)) (lines-is way (taken_by way run r.xs (lent_output run)).1 lines)))
    (line-is way run line)
