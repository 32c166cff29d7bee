-- A refusal's line, read and written again.
use mathlib.Core.Path.{◌≡◌, refl, sym, ap, subst, ◌∙◌}
use mathlib.Core.Logic.{⊎_elim}
use mathlib.Core.List.{List, [], ◌∷◌, ◌++◌, append_assoc, append-nil}
use Prim.Native.Nat.{ℕ, ◌≤◌}
use native.Mathlib.Omega.{arith}
use borrow.Author.Tests.{leb-true, eq-eqb, ne_eqb}
use lib.Dec.{leb}
use lib.IntN.{ℤ, pos}
use Rattle.runs.specs.declared.record.Run.{Run}
use Rattle.runs.specs.Record.{frame_limit}
use Rattle.text_runs.specs.Decimal.{decimal, printed, fits, all_bits}
use Rattle.text_runs.specs.Lines.{line_feed, refused_tag, behind_commas, row, refusal, numbers_in, up_to, same}
use Rattle.text_runs.specs.declared.state.Phase.{Phase}
use Rattle.text_runs.specs.declared.state.Phase.TheVariants.{First, Between, Ended, Over}
use Rattle.text_runs.specs.State.{is_going_on, line_between, line_number, refused}
use Rattle.text_runs.specs.Own.Lacks.{lacks}
use Rattle.text_runs.proofs.UpToLaws.{tested}
use Rattle.text_runs.proofs.RowLaws.{row-no-feed}
use Rattle.text_runs.proofs.Inverse.{read-row}
use Rattle.feeding.specs.declared.session.Ending.{Ending}
use Rattle.feeding.specs.declared.session.Ending.TheVariants.{Refused}
use Rattle.feeding.specs.Ending.{refused_by, last_said, ending_after, ending_line}
use Rattle.feeding.specs.TextTheorems.{RefusalTold}

up-to-lacks : (b : ℕ) (xs rest : List ℕ) → lacks b xs → up_to b (xs ++ b ∷ rest) ≡ xs
unfolding up_to lacks
up-to-lacks b [] rest h = rw (eq-eqb b b refl)
up-to-lacks b (x ∷ xs) rest h = rw (ne_eqb x b h.0) (ap (λ (t : List ℕ). x ∷ t) (up-to-lacks b xs rest h.1))

between-few : (count : ℕ) → line_between count ≤ 65539
unfolding line_between
between-few count = ⊎_elim (λ e. rw e (omega (arith, leb-true count frame_limit e))) (λ e. rw e (omega arith)) (tested (leb count frame_limit))

line-few : (phase : Phase) (run : Run) → line_number phase run ≤ 65539
unfolding line_number
line-few First run = omega arith
line-few Between run = between-few run.count
line-few (Ended total) run = between-few run.count
line-few Over run = between-few run.count

module _ (number line place : ℕ) where
  abbrev three : List ℤ
  three = pos number ∷ pos line ∷ pos place ∷ []

  refusal-row : refusal number line place ≡ refused_tag ++ row three
  unfolding refusal row behind_commas printed
  refusal-row = rw append-nil

  line-again : ending_line (Refused (pos number) (pos line) (pos place)) ≡ refusal number line place ++ line_feed ∷ []
  unfolding ending_line
  line-again = sym (ap (λ (t : List ℕ). t ++ line_feed ∷ []) refusal-row)

  said : all_bits three → last_said (refused_tag ++ (row three ++ line_feed ∷ [])) ≡ Refused (pos number) (pos line) (pos place)
  unfolding last_said refused_tag same refused_by
  said bits = ap (λ (bs : List ℕ). refused_by (numbers_in bs)) (up-to-lacks line_feed (row three) [] (row-no-feed three)) ∙ ap refused_by (read-row (pos number) (pos line ∷ pos place ∷ []) bits)

  told-so : (before : Ending) → all_bits three → ending_after before Over (refusal number line place ++ line_feed ∷ []) ≡ Refused (pos number) (pos line) (pos place)
  unfolding ending_after refused_tag is_going_on
  told-so before bits =
      ap (ending_after before Over) (ap (λ (t : List ℕ). t ++ line_feed ∷ []) refusal-row ∙ append_assoc refused_tag (row three) (line_feed ∷ [])) ∙ said bits

pub refusal-told : RefusalTold
unfolding refused all_bits fits
refusal-told before s number place n p =
    let line : ℕ = line_number s.phase s.run in
    let is : ending_after before Over (refusal number line place ++ line_feed ∷ []) ≡ Refused (pos number) (pos line) (pos place) =
    told-so number line place before (omega arith, (omega (arith, line-few s.phase s.run), (omega arith, tt)))
    in record { ending = is; line = ap ending_line is ∙ line-again number line place }
