-- How many lines the text program still takes: each counts, in every state.
use mathlib.Core.Path.{◌≡◌, refl, sym, ap, subst, ◌∙◌}
use mathlib.Core.Logic.{⊎_elim}
use mathlib.Core.Bool.{Bool, true, false, not, cond, false≢true}
use mathlib.Core.List.{List, [], ◌∷◌, ◌++◌}
use Rattle.std.specs.Prelude.{Option, None, Some}
use Prim.Native.Nat.{ℕ, suc, ◌+◌, ◌-◌, ◌≤◌, ◌<◌}
use native.Mathlib.Omega.{arith}
use borrow.Author.Tests.{eqb-true, ltb-true}
use lib.Dec.{eqb, leb, ltb}
use lib.IntN.{ℤ, pos, negsuc}
use lib.ListN.{length}
use Rattle.feeding.specs.Budget.{Bounded}
use Rattle.text_runs.proofs.UpToLaws.{tested}
use Rattle.tables.specs.Widths.{half_width}
use Rattle.runs.specs.declared.record.Run.{Run}
use Rattle.runs.specs.Record.{frame_limit, block_limit, opened, advanced}
use Rattle.runs.specs.Gate.{ask, ask_each, admitted, sound, first_dead, first_out}
use Rattle.runs.specs.Gate as Gate
use Rattle.runs.specs.Forward.{started, taken, taken_in}
use Rattle.runs.specs.Back.{taken_back, undone_in, unfolded_in, first_frame, later_frame, framed}
use Rattle.text_runs.specs.Decimal.{number_in}
use Rattle.text_runs.specs.Lines.{numbers_in, end_total}
use Rattle.text_runs.specs.declared.state.Way.{Way}
use Rattle.text_runs.specs.declared.state.Way.TheVariants.{Forward, Back}
use Rattle.text_runs.specs.declared.state.Phase.{Phase}
use Rattle.text_runs.specs.declared.state.Phase.TheVariants.{First, Between, Ended, Over}
use Rattle.text_runs.specs.declared.state.State.{State}
use Rattle.text_runs.specs.State.{LineResult, begun, is_going_on, refused, in_phase, with_run}
use Rattle.text_runs.specs.Way.{taken_by, lent_output}
use Rattle.text_runs.specs.Line.{line_taken, formed, not_formed, bad_form, width_started, width_taken, row_given, row_taken, between_by, between_taken, line_limit}
use Rattle.feeding.specs.Text.{session_begun, session_after, text_line, text_program}
use Rattle.feeding.specs.TextTheorems.{left_in, lines_left, LinesFall, OverWithin}
use Rattle.feeding.proofs.BudgetLaws.{over-within-budget}

-- ---- a record that takes a row has one more
none-zero : {n : ℕ} → n ≡ 0 → 0 < n → ⊥
none-zero e h = omega arith

ask-passed : (number : ℕ) (answer : Bool) (run : Run) (out : List ℤ) (next : Gate.CallResult) → 0 < number → (ask number answer run out next).0.0 ≡ 0
    → (answer ≡ true) × (ask number answer run out next ≡ next)
unfolding ask
ask-passed number true run out next h e = (refl, refl)
ask-passed number false run out next h e = absurd (none-zero e h)

each-passed : (number : ℕ) (found : Option ℕ) (run : Run) (out : List ℤ) (next : Gate.CallResult) → 0 < number → (ask_each number found run out next).0.0 ≡ 0
    → ask_each number found run out next ≡ next
unfolding ask_each
each-passed number (Some place) run out next h e = absurd (none-zero e h)
each-passed number None run out next h e = refl

abbrev Worked : Gate.CallResult → Type 0
Worked g = g.0.0 ≡ 0

abbrev OneMore : Run → Gate.CallResult → Type 0
OneMore run g = Worked g → g.1.count ≡ suc run.count

ask-more : (number : ℕ) (answer : Bool) (run : Run) (out : List ℤ) (next : Gate.CallResult) → 0 < number → OneMore run next → OneMore run (ask number answer run out next)
unfolding ask
ask-more number true run out next h k = k
ask-more number false run out next h k = λ e. absurd (none-zero e h)

each_more : (number : ℕ) (found : Option ℕ) (run : Run) (out : List ℤ) (next : Gate.CallResult) → 0 < number → OneMore run next → OneMore run (ask_each number found run out next)
unfolding ask_each
each_more number (Some place) run out next h k = λ e. absurd (none-zero e h)
each_more number None run out next h k = k

ask-below : (number : ℕ) (answer : Bool) (run : Run) (out : List ℤ) (next : Gate.CallResult) → 0 < number → (Worked next → run.count < frame_limit)
    → Worked (ask number answer run out next) → run.count < frame_limit
unfolding ask
ask-below number true run out next h k = k
ask-below number false run out next h k = λ e. absurd (none-zero e h)

module _ (top : ℕ) (run : Run) (given out : List ℤ) (next : Gate.CallResult) where
  admitted-more : OneMore run next → OneMore run (admitted top run given out next)
  unfolding admitted
  admitted-more k =
      ask-more 2 _ run out _ (omega arith)
      (ask-more 3 _ run out _ (omega arith) (ask-more 4 _ run out _ (omega arith) (ask-more 6 _ run out _ (omega arith) (ask-more 7 _ run out _ (omega arith) k))))

  admitted-below : top ≤ frame_limit → Worked (admitted top run given out next) → run.count < frame_limit
  unfolding admitted
  admitted-below h =
      ask-below 2 _ run out _ (omega arith)
      (ask-below 3 _ run out _ (omega arith)
      (λ e. let l : run.count < top = ltb-true _ _ (ask-passed 4 _ run out _ (omega arith) e).0 in omega arith))

module _ (run : Run) (xs out : List ℤ) where
  taken_more : (way : Way) → OneMore run (taken_by way run xs out)
  unfolding taken_by taken taken_in taken_back undone_in unfolded_in first_frame later_frame advanced framed opened
  taken_more Forward = admitted-more block_limit run xs out _ (each_more 8 _ run out _ (omega arith) (each_more 9 _ run out _ (omega arith) (λ e. refl)))
  taken_more Back =
      admitted-more frame_limit run xs out _
      (each_more 9 _ run out _ (omega arith)
      (each_more 10 _ run out _ (omega arith)
      (⊎_elim
      (λ e. rw e (each_more 11 _ run out _ (omega arith) (λ _. refl)))
      (λ e. rw e (each_more 12 _ run out _ (omega arith) (λ _. refl)))
      (tested (eqb run.count 0)))))

  taken-below : (way : Way) → Worked (taken_by way run xs out) → run.count < frame_limit
  unfolding taken_by taken taken_back
  taken-below Forward = admitted-below block_limit run xs out _ (omega arith)
  taken-below Back = admitted-below frame_limit run xs out _ (omega arith)

-- ---- the lines that are left
abbrev left : State → ℕ
left s = left_in s.phase s.run.count

some_left : (phase : Phase) (count : ℕ) → not (is_going_on phase) ≡ false → 0 < left_in phase count
unfolding left_in is_going_on
some_left First count on = omega arith
some_left Between count on = omega arith
some_left (Ended total) count on = omega arith
some_left Over count on = absurd (false≢true (sym on))

refused-falls : (s : State) (answer : ℕ × ℕ) → 0 < left s → left (refused s answer).0 < left s
unfolding refused in_phase left_in
refused-falls s answer h = h

started_none : (N : ℕ) → (started N).1.count ≡ 0
unfolding started opened
started_none N = ⊎_elim (λ e. rw e) (λ e. rw e) (tested (eqb (half_width N) 0))

module _ (s : State) where
  width-falls : s.phase ≡ First → (field : Option ℤ) → left (width_taken s field).0 < left s
  unfolding width_taken width_started bad_form with_run left_in
  width-falls e (Some (pos N)) =
      ⊎_elim
      (λ (t : eqb (started N).0.0 0 ≡ true). rw t (rw (e, started_none N) (omega arith)))
      (λ t. rw t (refused-falls s (started N).0 (rw e (omega arith))))
      (tested (eqb (started N).0.0 0))
  width-falls e (Some (negsuc n)) = refused-falls s (1, 0) (rw e (omega arith))
  width-falls e None = refused-falls s (13, 0) (rw e (omega arith))

  row-falls : s.phase ≡ Between → (read : Option (List ℤ)) → left (row_taken s read).0 < left s
  unfolding row_taken row_given bad_form with_run left_in
  row-falls e None = refused-falls s (13, 0) (rw e (omega arith))
  row-falls e (Some xs) =
      let g : Gate.CallResult = taken_by s.way s.run xs (lent_output s.run) in
      ⊎_elim
      (λ (t : eqb g.0.0 0 ≡ true). let w : Worked g = eqb-true _ _ t in
      rw t (rw (e, taken_more s.run xs (lent_output s.run) s.way w) (omega (arith, taken-below s.run xs (lent_output s.run) s.way w))))
      (λ t. rw t (refused-falls s g.0 (rw e (omega arith))))
      (tested (eqb g.0.0 0))

  between-falls : s.phase ≡ Between → (bytes : List ℕ) (end : Option ℤ) → left (between_by s bytes end).0 < left s
  unfolding between_by in_phase left_in
  between-falls e bytes (Some total) = rw e (omega arith)
  between-falls e bytes None = row-falls e (numbers_in bytes)

  formed-falls : (phase : Phase) → s.phase ≡ phase → not (is_going_on phase) ≡ false → (bytes : List ℕ) → left (formed phase s bytes).0 < left s
  unfolding formed between_taken bad_form left_in is_going_on
  formed-falls First e on bytes = width-falls e (number_in bytes)
  formed-falls Between e on bytes = between-falls e bytes (end_total s.run.count bytes)
  formed-falls (Ended total) e on bytes = refused-falls s (13, 0) (rw e (omega arith))
  formed-falls Over e on bytes = absurd (false≢true (sym on))

pub lines-fall : LinesFall
unfolding text_line session_after
lines-fall s bytes on = formed-falls s.state s.state.phase refl on bytes

pub text-bounded : Bounded text_program
text-bounded = record { left = lines_left; counts = lines-fall }

pub over-within : OverWithin
unfolding text-bounded left_in session_begun begun
over-within way bytes h = over-within-budget text_program text-bounded (session_begun way) bytes h
