-- What the gate says of a whole run back; and its answer does not depend on what the output holds.
use Rattle.std.specs.Prelude.{Err}
use mathlib.Core.Path.{◌≡◌, refl, ◌∙◌}
use mathlib.Core.Bool.{Bool, true, false, cond, ◌&&◌}
use mathlib.Core.List.{List, [], ◌++◌}
use Prim.Native.Nat.{ℕ, zero, suc, ◌+◌, ◌/◌, ◌%◌, ◌≤◌, ◌<◌}
use native.Mathlib.Omega.{arith}
use borrow.Author.Tests.{le-leb, lt-ltb, eq-eqb, ne_eqb, eqb-true, eqb-false}
use lib.Dec.{eqb, ltb, leb}
use lib.IntN.{ℤ}
use lib.ListN.{length, take, drop, length-append, length-take, length-drop}
use Rattle.tables.specs.Widths.{half_width}
use Rattle.runs.specs.Answers.{told, placed}
use Rattle.runs.specs.declared.answer.Refusal.TheVariants.{OutputLength}
use mathlib.Core.Logic.{◌⊎◌, inl, inr}
use Rattle.runs.specs.declared.record.Run.{Run}
use Rattle.runs.specs.Record.{frame_limit, zeros}
use Rattle.runs.specs.Forward.{started}
use Rattle.runs.specs.Back.{taken_back, ended_back}
use Rattle.runs.specs.WholeBack.{answer_from, all_outputs, first_answer, back_one_by_one, whole_back}
use Rattle.runs.proofs.AnswerLaws.{taken-alike}

-- ---- an answer whose number is 0 names no place
placed-zero : (N before : ℕ) (answer : ℕ × ℕ) → (placed N before answer).0 ≡ 0 → placed N before answer ≡ (0, 0)
unfolding placed
placed-zero N before answer e = rw e

answer-zero : (N b before : ℕ) (run : Run) (frames out : List ℤ) → (answer_from N before run b frames out).0 ≡ 0 → answer_from N before run b frames out ≡ (0, 0)
unfolding answer_from
answer-zero N zero before run frames out e = placed-zero N _ (ended_back run).0 e
answer-zero N (suc b) before run frames out e = by (eqb (taken_back run (take N frames) (take N out)).0.0 0) (answer-zero N b (before + N) _ (drop N frames) (drop N out)) e
  where
    by : {rest : ℕ × ℕ} (t : Bool) → (rest.0 ≡ 0 → rest ≡ (0, 0)) → (cond t rest (placed N before (taken_back run (take N frames) (take N out)).0)).0 ≡ 0
        → cond t rest (placed N before (taken_back run (take N frames) (take N out)).0) ≡ (0, 0)
    by true later e = later e
    by false later e = placed-zero N before _ e

pub first-zero : (N : ℕ) (frames out : List ℤ) → (first_answer N frames out).0 ≡ 0 → first_answer N frames out ≡ (0, 0)
unfolding first_answer
first-zero N frames out e = answer-zero N (length frames / N) 0 (started N).1 frames (zeros N ++ out) e

-- ---- the output's length alone counts
answer-alike : (N b before : ℕ) (run : Run) (frames o p : List ℤ) → length o ≡ length p → answer_from N before run b frames o ≡ answer_from N before run b frames p
unfolding answer_from
answer-alike N zero before run frames o p l = refl
answer-alike N (suc b) before run frames o p l =
    let m : length (take N o) ≡ length (take N p) = rw (length-take, length-take, l) in
    let k : length (drop N o) ≡ length (drop N p) = rw (length-drop, length-drop, l) in
    rw (← (taken-alike run (take N frames) (take N o) (take N p) m).same, answer-alike N b (before + N) (taken_back run (take N frames) (take N o)).1 (drop N frames) (drop N o) (drop N p) k)

pub first_alike : (N : ℕ) (frames o p : List ℤ) → length o ≡ length p → first_answer N frames o ≡ first_answer N frames p
unfolding first_answer
first_alike N frames o p l = answer-alike N (length frames / N) 0 (started N).1 frames (zeros N ++ o) (zeros N ++ p) (rw (length-append, length-append, l))

-- ---- what the calls one by one give
module _ {answer : ℕ × ℕ} (N : ℕ) (frames out : List ℤ) (e : answer ≡ first_answer N frames out) where
  pub ones-refused : (answer.0 ≡ 0 → ⊥) → (answer, out) ≡ back_one_by_one N frames out
  unfolding back_one_by_one
  ones-refused n = rw (← e, ne_eqb _ _ n)

  pub ones-done : (w : List ℤ) → answer.0 ≡ 0 → w ≡ drop N (all_outputs N frames out) → (answer, w) ≡ back_one_by_one N frames out
  unfolding back_one_by_one
  ones-done w z d = rw (← e, eq-eqb _ _ z, d)

-- ---- the gate
module _ (N : ℕ) (frames out : List ℤ) (w : half_width N ≡ 0 → ⊥) (e : length frames % N ≡ 0) (few : length frames / N ≤ frame_limit) (some : 0 < length frames) where
  pub whole-output-refused : (length out + N ≡ length frames → ⊥) → (told (Err OutputLength), out) ≡ whole_back N frames out
  unfolding told whole_back
  whole-output-refused m = rw (ne_eqb _ _ w, eq-eqb _ _ e, le-leb _ _ few, lt-ltb _ _ some, ne_eqb _ _ m)

  module _ (room : length out + N ≡ length frames) where
    pub lengths-passed : back_one_by_one N frames out ≡ whole_back N frames out
    unfolding whole_back
    lengths-passed = rw (ne_eqb _ _ w, eq-eqb _ _ e, le-leb _ _ few, lt-ltb _ _ some, eq-eqb _ _ room)

    pub whole-done : (first_answer N frames out).0 ≡ 0 → (first_answer N frames out, drop N (all_outputs N frames out)) ≡ whole_back N frames out
    whole-done n = ones-done N frames out refl _ n refl ∙ lengths-passed

-- ---- a whole run back works, or it is refused and nothing is written
abbrev Either : List ℤ → (ℕ × ℕ) × List ℤ → Type 0
Either out given = (given.0 ≡ (0, 0)) ⊎ ((0 < given.0.0) × (given.1 ≡ out))

pub whole-either : (N : ℕ) (frames out : List ℤ) → Either out (whole_back N frames out)
unfolding whole_back back_one_by_one
whole-either N frames out =
    by (eqb (half_width N) 0) (eqb (length frames % N) 0 && leb (length frames / N) frame_limit && ltb 0 (length frames)) (eqb (length out + N) (length frames))
    (eqb (first_answer N frames out).0 0) refl
  where
    by : (a b c d : Bool) → eqb (first_answer N frames out).0 0 ≡ d
        → Either out (cond a ((1, 0), out) (cond b (cond c (first_answer N frames out, cond d (drop N (all_outputs N frames out)) out) ((7, 0), out)) ((6, 0), out)))
    by true b c d e = inr (omega arith, refl)
    by false true true true e = inl (first-zero N frames out (eqb-true (first_answer N frames out).0 0 e))
    by false true true false e = inr (omega (arith, eqb-false (first_answer N frames out).0 0 e), refl)
    by false true false d e = inr (omega arith, refl)
    by false false c d e = inr (omega arith, refl)
