-- One line of a text run that is taken, on either way: the width, a row, the end line; and the end of the input.
use mathlib.Core.Path.{◌≡◌, ◌∙◌}
use mathlib.Core.Bool.{true}
use mathlib.Core.List.{List, [], ◌∷◌, ◌++◌}
use Rattle.std.specs.Prelude.{Some}
use Prim.Native.Nat.{ℕ, suc, ◌≤◌, ◌<◌}
use native.Mathlib.Omega.{arith}
use borrow.Author.Tests.{le-leb, ne_eqb}
use lib.IntN.{ℤ, pos}
use lib.ListN.{length}
use Rattle.integers.proofs.Sums.{alike_refl, alike-other}
use Rattle.tables.specs.Widths.{half_width}
use Rattle.distance.specs.Statement.{IsWidth}
use Rattle.runs.specs.declared.record.Run.{Run}
use Rattle.runs.specs.Record.{frame_limit}
use Rattle.runs.specs.Forward.{started}
use Rattle.runs.proofs.RecordLaws.{width-le}
use Rattle.text_runs.specs.Decimal.{decimal, printed, least32, fits, bits64, all_bits}
use Rattle.text_runs.specs.Lines.{line_feed, row, end_line, numbers_in}
use Rattle.text_runs.proofs.DecimalLaws.{decimal-within}
use Rattle.text_runs.proofs.RowLaws.{row-length}
use Rattle.text_runs.proofs.Inverse.{read-printed, read-row}
use Rattle.text_runs.specs.declared.state.Way.{Way}
use Rattle.text_runs.specs.declared.state.State.{State}
use Rattle.text_runs.specs.declared.state.Phase.{Phase}
use Rattle.text_runs.specs.declared.state.Phase.TheVariants.{Between, Ended}
use Rattle.text_runs.specs.State.{begun, in_phase, with_run, line_between, line_number, refused}
use Rattle.text_runs.specs.Way.{lent_output, taken_by, ended_by, shown_row, shown_last}
use Rattle.text_runs.specs.Line.{line_limit, width_started, width_taken, row_given, row_taken, between_by, between_taken, formed, line_taken, total_asked, finish_given, end_in, input_ended}
use Rattle.text_runs.specs.Input.{Line, printed_from}
use Rattle.text_runs.specs.EveryInput.{refusal_line}
use Rattle.text_runs.proofs.EndRead.{end-length, end_read, row-not-end}

abbrev pub state : Way → Phase → Run → State
state way phase run = record { way = way; phase = phase; run = run }

-- ---- the line behind so many lines between
pub line-counted : (count : ℕ) → count ≤ frame_limit → line_between count ≡ suc (suc count)
unfolding line_between
line-counted count h = rw (le-leb count frame_limit h)

-- ---- a line that is whole and not too long
line-formed : (s : State) (bytes : List ℕ) → length bytes ≤ line_limit → line_taken s true bytes ≡ formed s.phase s bytes
unfolding line_taken
line-formed s bytes h = rw (le-leb (length bytes) line_limit h)

-- ---- the width
started-works : (N : ℕ) → IsWidth N → (started N).0.0 ≡ 0
unfolding started
started-works N w = rw (ne_eqb (half_width N) 0 (λ e. omega arith))

width-taken : (way : Way) (N : ℕ) → IsWidth N → line_taken (begun way) true (decimal N) ≡ (state way Between (started N).1, decimal N ++ line_feed ∷ [])
unfolding begun formed width_taken width_started with_run printed fits
width-taken way N w =
    line-formed (begun way) (decimal N) (omega (arith, decimal-within N))
    ∙ rw (read-printed (pos N) (omega (arith, width-le N w)), started-works N w)

pub width-printed : (way : Way) (N : ℕ) → IsWidth N → (lines : List Line)
    → printed_from (begun way) ((true, decimal N) ∷ lines) ≡ (decimal N ++ line_feed ∷ []) ++ printed_from (state way Between (started N).1) lines
unfolding printed_from
width-printed way N w lines = rw (width-taken way N w)

-- ---- between, where the call works: a row,
pub some_read : (xs : List ℤ) → 0 < length xs → all_bits xs → numbers_in (row xs) ≡ Some xs
some_read [] p b = absurd (omega arith)
some_read (x ∷ xs) p b = read-row x xs b

module _ (way : Way) (run : Run) where
  row-taken : (xs : List ℤ) (after : Run) (out : List ℤ) → length xs ≤ 128 → 0 < length xs → all_bits xs → taken_by way run xs (lent_output run) ≡ ((0, 0), after, out)
      → line_taken (state way Between run) true (row xs) ≡ (state way Between after, shown_row way run out)
  unfolding formed between_taken between_by row_taken row_given with_run
  row-taken xs after out l p b e =
      line-formed (state way Between run) (row xs) (omega (arith, row-length xs b))
      ∙ rw (row-not-end xs run.count, some_read xs p b, e)

  pub row-printed : (xs : List ℤ) (after : Run) (out : List ℤ) (lines : List Line) → length xs ≤ 128 → 0 < length xs → all_bits xs
      → taken_by way run xs (lent_output run) ≡ ((0, 0), after, out)
      → printed_from (state way Between run) ((true, row xs) ∷ lines) ≡ shown_row way run out ++ printed_from (state way Between after) lines
  unfolding printed_from
  row-printed xs after out lines l p b e = rw (row-taken xs after out l p b e)

  -- and the end line with the finish, where its total is the run's, and where it is another
  module _ (few : run.count < least32) (total : ℤ) (bits : bits64 total) (after : Run) (out : List ℤ) (e : ended_by way run (lent_output run) ≡ ((0, 0), after, out)) where
    end-taken : line_taken (state way Between run) true (end_line run.count total) ≡ (state way (Ended total) run, [])
    unfolding formed between_taken between_by in_phase
    end-taken = line-formed (state way Between run) (end_line run.count total) (omega (arith, end-length run.count total bits)) ∙ rw (end_read run.count total few bits)

    pub end-printed : total ≡ run.total → printed_from (state way Between run) ((true, end_line run.count total) ∷ []) ≡ shown_last way run out
    unfolding printed_from input_ended end_in finish_given total_asked
    end-printed same = rw (end-taken, e, same, alike_refl run.total)

    pub end_refused : (total ≡ run.total → ⊥) → printed_from (state way Between run) ((true, end_line run.count total) ∷ []) ≡ refusal_line 16 (line_between run.count) 0
    unfolding printed_from input_ended end_in finish_given total_asked refused line_number refusal_line
    end_refused other = rw (end-taken, e, alike-other total run.total other)
