-- A call that works raises the count, which was below its top, and the total; a refused one hands back the same record.
use mathlib.Core.Path.{◌≡◌, refl}
use mathlib.Core.Bool.{Bool, true, false, cond, not}
use mathlib.Core.List.{List, [], ◌∷◌}
use Prim.Native.Nat.{ℕ, ◌+◌, ◌<◌}
use native.Mathlib.Omega.{arith}
use borrow.Author.Tests.{ltb-true, eqb-true, eq-eqb, ne_eqb}
use lib.Dec.{eqb, ltb}
use lib.IntN.{ℤ, ◌+ℤ◌}
use lib.ListN.{length}
use Rattle.integers.specs.Vectors.{sum_of}
use Rattle.steps.specs.Steps.{unstages}
use Rattle.std.specs.Prelude.{Option, Some, None}
use Rattle.runs.specs.declared.record.Run.{Run}
use Rattle.runs.specs.Record.{next_count, next_total}
use Rattle.runs.specs.Gate.{CallResult, ask, ask_each, all_yes, sound, admitted}
use Rattle.runs.specs.Forward.{taken_in, taken}
use Rattle.runs.specs.Back.{first_frame, later_frame, unfolded_in, undone_in, taken_back}
use Rattle.runs.proofs.CallLaws.{Decided, granted, asked, answered-yes, every-answer}

module _ (number count : ℕ) where
  pub count_kept : (number ≡ 0 → ⊥) → count ≡ next_count number count
  unfolding next_count
  count_kept h = rw (ne_eqb number 0 h)

  pub count-raised : number ≡ 0 → count + 1 ≡ next_count number count
  unfolding next_count
  count-raised e = rw (eq-eqb number 0 e) (omega arith)

module _ (number : ℕ) (total : ℤ) (readings : List ℤ) where
  pub total_kept : (number ≡ 0 → ⊥) → total ≡ next_total number total readings
  unfolding next_total
  total_kept h = rw (ne_eqb number 0 h)

  pub total-raised : number ≡ 0 → total +ℤ sum_of readings ≡ next_total number total readings
  unfolding next_total
  total-raised e = rw (eq-eqb number 0 e)

-- ---- what the gate asked where a block or a frame was taken
pub record Passed (top : ℕ) (run : Run) (given out : List ℤ) (next : CallResult) : Type 0 where
  pub sound-is : sound top run ≡ true
  pub few : run.count < top
  pub long : length given ≡ run.width
  pub room : length out ≡ run.width
  pub follows : admitted top run given out next ≡ next

module _ (top : ℕ) (run : Run) (given out : List ℤ) (next : CallResult) where
  admitted-asked : Decided (all_yes (sound top run ∷ not run.finished ∷ ltb run.count top ∷ eqb (length given) run.width ∷ eqb (length out) run.width ∷ [])) run out next (admitted top run given out next)
  unfolding admitted all_yes
  admitted-asked = asked 1 _ (asked 2 _ (asked 3 _ (asked 5 _ (asked 6 _ (granted _ refl)))))

  pub admitted-passed : (admitted top run given out next).0.0 ≡ 0 → Passed top run given out next
  admitted-passed e =
      let yes = answered-yes admitted-asked e in
      record {
        sound-is = every-answer _ yes 0;
        few = ltb-true _ _ (every-answer _ yes 2);
        long = eqb-true _ _ (every-answer _ yes 3);
        room = eqb-true _ _ (every-answer _ yes 4);
        follows = admitted-asked.when-yes yes;
      }

  pub admitted-few : (admitted top run given out next).0.0 ≡ 0 → run.count < top
  admitted-few e = (admitted-passed e).few

-- ---- the record after a refusal, question by question
pub record Same (run : Run) (given : CallResult) : Type 0 where
  pub same : (given.0.0 ≡ 0 → ⊥) → given.1 ≡ run

pub same-done : {run after : Run} {out : List ℤ} → Same run ((0, 0), after, out)
same-done = record { same = λ h. absurd (h refl) }

module _ {run : Run} {next : CallResult} (n : ℕ) (out : List ℤ) where
  same_asked : (answer : Bool) → Same run next → Same run (ask n answer run out next)
  unfolding ask
  same_asked true h = h
  same_asked false h = record { same = λ _. refl }

  pub same-each : (found : Option ℕ) → Same run next → Same run (ask_each n found run out next)
  unfolding ask_each
  same-each (Some place) h = record { same = λ _. refl }
  same-each None h = h

pub same-admitted : (top : ℕ) (run : Run) (given out : List ℤ) (next : CallResult) → Same run next → Same run (admitted top run given out next)
unfolding admitted
same-admitted top run given out next h = same_asked 2 out _ (same_asked 3 out _ (same_asked 4 out _ (same_asked 6 out _ (same_asked 7 out _ h))))

pub same_taken : (run : Run) (block out : List ℤ) → Same run (taken run block out)
unfolding taken taken_in
same_taken run block out = same-admitted _ run block out _ (same-each 8 out _ (same-each 9 out _ same-done))

pub same-taken-back : (run : Run) (frame out : List ℤ) → Same run (taken_back run frame out)
unfolding taken_back undone_in unfolded_in first_frame later_frame
same-taken-back run frame out = same-admitted _ run frame out _ (same-each 9 out _ (same-each 10 out _ (by (eqb run.count 0))))
  where
    by : (b : Bool) → Same run (cond b (first_frame run (unstages run.width frame) out) (later_frame run (unstages run.width frame) out))
    by true = same-each 11 out _ same-done
    by false = same-each 12 out _ same-done
