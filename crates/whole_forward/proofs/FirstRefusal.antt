-- What a whole run gives by its first questions; and the first refusal among its calls, told from its readings: it is that of their first fault.
use mathlib.Core.Path.{◌≡◌, refl, ap, ◌∙◌}
use mathlib.Core.Bool.{true, false, cond, ◌&&◌, and-true}
use mathlib.Core.List.{List, [], ◌∷◌}
use Prim.Native.Nat.{ℕ, zero, suc, ◌+◌, ◌*◌, ◌/◌, ◌%◌, ◌≤◌, ◌<◌, zero-le}
use native.Mathlib.Omega.{arith}
use borrow.Author.Tests.{lt-ltb, le-leb, eq-eqb}
use lib.Dec.{eqb, leb, eqb-suc-zero}
use lib.IntN.{ℤ, pos, ◌+ℤ◌}
use lib.ListN.{length, take, drop, length-drop}
use lib.Seq.{length-take-le}
use Rattle.integers.specs.Vectors.{sum_of}
use Rattle.tables.specs.Widths.{half_width}
use Rattle.steps.specs.Steps.{held}
use Rattle.distance.specs.Statement.{IsWidth}
use Rattle.runs.specs.Answers.{told, placed}
use Rattle.runs.specs.Answers.{Answer}
use Rattle.std.specs.Prelude.{Option, Some, None, Ok, Err}
use Rattle.runs.specs.declared.record.Run.{Run}
use Rattle.runs.specs.Record.{block_limit, zeros, opened}
use Rattle.runs.specs.Gate.{ask_each, nothing, all_yes, first_dead, first_out}
use Rattle.runs.specs.Forward.{taken_in}
use Rattle.runs.specs.Calls.{Call, block, finish, give, made, works, accepted}
use Rattle.runs.specs.Whole.{calls_of, first_refusal, outputs, whole_forward, WholeRun}
use Rattle.gate.specs.Own.Asked.{whole_parts, in_parts}
use Rattle.gate.specs.declared.questions.Fault.{Fault}
use Rattle.gate.specs.declared.questions.Fault.TheVariants.{Dead, Beyond}
use Rattle.gate.specs.Own.Faults.{Checked, told_fault, refusal_of, fault_by, fault_of, fault_from, first_fault}
use Rattle.runs.proofs.RecordLaws.{Reached, reached-first, reached-next}
use Rattle.runs.proofs.CallLaws.{accepted-block, taken-decided, ended-decided, taken_in_lem}
use Rattle.runs.proofs.EveryList.{started-open}
use Rattle.runs.proofs.WholeLaws as Whole
use Rattle.gate.proofs.AskedLaws as Asked
use Rattle.gate.proofs.BlockLaws.{clear_both}

-- ---- questions 1 and 6
all-parts : (N given : ℕ) → whole_parts N given 0 block_limit ≡ (eqb (given % N) 0 && leb (given / N) block_limit)
unfolding whole_parts
all-parts N given = rw (le-leb 0 (given / N) zero-le, and-true)

pub parts-refused : (N : ℕ) (readings out : List ℤ) (answer : Answer) → told answer ≡ in_parts N (length readings) 0 block_limit → ((told answer).0 ≡ 0 → ⊥) → (told answer, out) ≡ whole_forward N readings out
unfolding whole_forward
parts-refused N readings out answer a h = Asked.parts-refused N (length readings) 0 block_limit answer a _ (λ w. all-parts N (length readings)) out _ h

-- ---- the first refusal: of the first call, or of those after it
module _ (N before : ℕ) (run : Run) (c : Call) (calls : List Call) where
  refusal-here : (n place : ℕ) (after : Run) (out : List ℤ) → give run c ≡ ((suc n, place), after, out) → first_refusal N before (made run (c ∷ calls)) ≡ placed N before (suc n, place)
  unfolding made works first_refusal
  refusal-here n place after out e = rw (e, eqb-suc-zero n)

  refusal-later : (after : Run) (out : List ℤ) → give run c ≡ ((0, 0), after, out) → first_refusal N before (made run (c ∷ calls)) ≡ first_refusal N (before + N) (made after calls)
  unfolding made works first_refusal
  refusal-later after out e = rw e

-- the first call takes a block of N readings, behind b blocks
module _ (N b : ℕ) (t : ℤ) (previous : List ℤ) (r : Reached N b t previous) (xs out : List ℤ) (l : length xs ≡ N) (m : length out ≡ N) (h : b < block_limit) where
  abbrev run : Run
  run = opened N b t (held N previous)

  clear : first_dead xs 0 ≡ None → first_out xs 0 ≡ None → accepted N b false (block xs out) ≡ true
  unfolding accepted all_yes nothing
  clear d e = rw (lt-ltb b block_limit h, eq-eqb (length xs) N l, eq-eqb (length out) N m, d, e)

  pub clear-accepted : fault_of xs ≡ Ok tt → accepted N b false (block xs out) ≡ true
  clear-accepted e = clear (clear_both xs e).0 (clear_both xs e).1

  block-refusal : (before : ℕ) (calls : List Call) (rest : Checked)
      → (Reached N (suc b) (t +ℤ sum_of xs) xs → first_refusal N (before + N) (made (opened N (suc b) (t +ℤ sum_of xs) (held N xs)) calls) ≡ told_fault rest)
      → first_refusal N before (made run (block xs out ∷ calls)) ≡ told_fault (fault_from before (fault_of xs) rest)
  unfolding told_fault fault_from fault_of fault_by give taken_in ask_each placed
  block-refusal before calls rest later = by (first_dead xs 0) (first_out xs 0) refl refl
    where
      by : (f g : Option ℕ) → first_dead xs 0 ≡ f → first_out xs 0 ≡ g → first_refusal N before (made run (block xs out ∷ calls)) ≡ told_fault (fault_from before (fault_by f g) rest)
      by (Some place) g d e = refusal-here N before run (block xs out) calls 7 place run out (taken_in_lem N b t previous r xs out l m h ∙ rw d)
      by None (Some place) d e = refusal-here N before run (block xs out) calls 8 place run out (taken_in_lem N b t previous r xs out l m h ∙ rw (d, e))
      by None None d e =
          let a = clear d e in
          refusal-later N before run (block xs out) calls _ _ ((taken-decided N b t previous r xs out).when-yes a)
          ∙ later (reached-next N b t previous xs r h (accepted-block N b false xs out a))

finish-refusal : (N b before : ℕ) (t : ℤ) (previous out : List ℤ) → Reached N b t previous → length out ≡ N → first_refusal N before (made (opened N b t (held N previous)) (finish out ∷ [])) ≡ (0, 0)
unfolding accepted all_yes give made first_refusal
finish-refusal N b before t previous out r m = refusal-later N before (opened N b t (held N previous)) (finish out) [] _ _ ((ended-decided N b t previous r out).when-yes (rw (eq-eqb (length out) N m)))

pub first-refusal : (N b count before : ℕ) (t : ℤ) (previous readings out : List ℤ) → Reached N count t previous → count + b ≤ block_limit
    → length readings ≡ b * N → length out ≡ b * N + N
    → first_refusal N before (made (opened N count t (held N previous)) (calls_of N b readings out)) ≡ told_fault (first_fault N before b readings)
unfolding calls_of first_fault told_fault
first-refusal N zero count before t previous readings out r h l m = finish-refusal N count before t previous out r (omega arith)
first-refusal N (suc b) count before t previous readings out r h l m =
    block-refusal N count t previous r (take N readings) (take N out) (length-take-le N readings (omega arith)) (length-take-le N out (omega arith)) (omega arith) before _ _
    (λ s. first-refusal N b (suc count) (before + N) _ (take N readings) (drop N readings) (drop N out) s (omega arith) (simp length-drop (omega arith)) (simp length-drop (omega arith)))

-- ---- a whole run, by its first fault
module _ (N : ℕ) (w : IsWidth N) (readings out : List ℤ) (whole : length readings ≡ length readings / N * N) (few : length readings / N ≤ block_limit)
    (room : length out ≡ length readings + N) where
  refusal_is : first_refusal N 0 (Whole.calls_made N readings out) ≡ told_fault (first_fault N 0 (length readings / N) readings)
  refusal_is = rw (started-open N w) (first-refusal N (length readings / N) 0 0 (pos 0) (zeros N) readings out (reached-first N w) (omega arith) whole (omega arith))

  pub whole_run : first_fault N 0 (length readings / N) readings ≡ Ok tt → WholeRun N readings (outputs (Whole.calls_made N readings out))
  unfolding told_fault
  whole_run c = Whole.whole_run N w readings out (refusal_is ∙ ap told_fault c)

module _ (N : ℕ) (readings out : List ℤ) (w : half_width N ≡ 0 → ⊥) (e : length readings % N ≡ 0) (few : length readings / N ≤ block_limit) (room : length out ≡ length readings + N) where
  pub by-fault : (f : Checked) → first_fault N 0 (length readings / N) readings ≡ f → (told_fault f, cond (eqb (told_fault f).0 0) (outputs (Whole.calls_made N readings out)) out) ≡ whole_forward N readings out
  by-fault f d = Whole.by-refusal N readings out w e few room (told_fault f) (refusal_is N (omega (arith, w)) readings out (Whole.whole-blocks N readings e) few room ∙ ap told_fault d)

  pub whole-done : first_fault N 0 (length readings / N) readings ≡ Ok tt → ((0, 0), outputs (Whole.calls_made N readings out)) ≡ whole_forward N readings out
  unfolding told_fault
  whole-done d = by-fault (Ok tt) d

  pub fault-told : (f : Fault) → first_fault N 0 (length readings / N) readings ≡ Err f → (told (Err (refusal_of f)), out) ≡ whole_forward N readings out
  unfolding told told_fault
  fault-told (Dead place) d = by-fault (Err (Dead place)) d
  fault-told (Beyond place) d = by-fault (Err (Beyond place)) d
