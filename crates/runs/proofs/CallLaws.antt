-- What a call gives on the record of a run that is open after b blocks, the last of them `previous`, and on that of the same run finished.
use mathlib.Core.Path.{◌≡◌, refl, ap}
use mathlib.Core.Bool.{Bool, true, false, ◌&&◌, true≢false, false≢true, and-eq-true_iff}
use mathlib.Core.List.{List, [], ◌∷◌}
use Prim.Native.Nat.{ℕ, zero, suc, ◌<◌}
use borrow.Author.Tests.{lt-ltb, ltb-true, eq-eqb, eqb-true, eqb-false}
use lib.Dec.{eqb, ltb, eqb-suc-zero}
use lib.IntN.{ℤ, ◌+ℤ◌}
use lib.ListN.{length, get_or}
use Rattle.integers.specs.Vectors.{sum_of}
use Rattle.tables.specs.Widths.{half_width}
use Rattle.steps.specs.Limits.{reading_limit}
use Rattle.steps.specs.Steps.{held, frame}
use Rattle.steps.proofs.Lengths.{length-held}
use Rattle.std.specs.Prelude.{Option, Some, None}
use Rattle.distance.specs.Statement.{Block}
use Rattle.runs.specs.declared.record.Run.{Run}
use Rattle.runs.specs.Record.{block_limit, zeros, opened, advanced, closed}
use Rattle.runs.specs.Gate.{CallResult, ask, ask_each, nothing, all_yes, first_dead, first_out, admitted}
use Rattle.runs.specs.Forward.{frame_on, taken_in, taken, ended}
use Rattle.runs.specs.Calls.{Call, block, finish, output_of, give, accepted}
use Rattle.runs.proofs.Searches.{all-inside}
use Rattle.runs.proofs.RecordLaws.{take-filled, Reached, opened-sound, closed-sound}

-- a refusal has a number, and leaves the record and the output as they were
pub record Refused (run : Run) (out : List ℤ) (given : CallResult) : Type 0 where
  pub numbered : eqb given.0.0 0 ≡ false
  pub same-record : given.1 ≡ run
  pub same-output : given.2 ≡ out

-- what is answered yes gives what is good, and anything else is refused
pub record Decided (yes : Bool) (run : Run) (out : List ℤ) (good given : CallResult) : Type 0 where
  pub when-yes : yes ≡ true → given ≡ good
  pub when-no : yes ≡ false → Refused run out given

-- what gives an answer 0 was answered yes
pub answered-yes : {yes : Bool} {run : Run} {out : List ℤ} {good given : CallResult} → Decided yes run out good given → given.0.0 ≡ 0 → yes ≡ true
answered-yes {yes = true} d e = refl
answered-yes {yes = false} {given} d e = absurd (eqb-false given.0.0 0 (d.when-no refl).numbered e)

-- ---- one question, and those after it
refused : (n place : ℕ) (run : Run) (out : List ℤ) → Refused run out ((suc n, place), run, out)
refused n place run out = record { numbered = eqb-suc-zero n; same-record = refl; same-output = refl }

module _ {run : Run} {out : List ℤ} {good : CallResult} where
  pub granted : (next : CallResult) → next ≡ good → Decided true run out good next
  granted next e = record { when-yes = λ _. e; when-no = λ f. absurd (true≢false f) }

  denied : (n place : ℕ) → Decided false run out good ((suc n, place), run, out)
  denied n place = record { when-yes = λ e. absurd (false≢true e); when-no = λ _. refused n place run out }

  module _ {rest : Bool} {next : CallResult} (n : ℕ) where
    pub asked : (answer : Bool) → Decided rest run out good next → Decided (answer && rest) run out good (ask (suc n) answer run out next)
    unfolding ask
    asked true d = d
    asked false d = denied n 0

    pub asked-each : (found : Option ℕ) → Decided rest run out good next → Decided (nothing found && rest) run out good (ask_each (suc n) found run out next)
    unfolding ask_each nothing
    asked-each (Some place) d = denied n place
    asked-each None d = d

-- ---- what an accepted block is
pub every-answer : (answers : List Bool) → all_yes answers ≡ true → (i : ℕ) → get_or answers i true ≡ true
unfolding all_yes
every-answer [] e i = refl
every-answer (a ∷ answers) e zero = ((and-eq-true_iff a (all_yes answers)).0 e).0
every-answer (a ∷ answers) e (suc i) = every-answer answers ((and-eq-true_iff a (all_yes answers)).0 e).1 i

module _ (N b : ℕ) (over : Bool) (xs out : List ℤ) (e : accepted N b over (block xs out) ≡ true) where
  pub accepted-below : b < block_limit
  unfolding accepted
  accepted-below = ltb-true b block_limit (every-answer _ e 1)

  pub accepted-block : Block N reading_limit xs
  unfolding accepted
  accepted-block = record { long = eqb-true (length xs) N (every-answer _ e 2); within = all-inside reading_limit xs (every-answer _ e 5) }

-- ---- the calls
module _ (N b : ℕ) (t : ℤ) (previous : List ℤ) (r : Reached N b t previous) where
  abbrev run : Run
  run = opened N b t (held N previous)

  frame_on_lem : (xs : List ℤ) → frame_on run xs ≡ frame N (held N previous) xs
  unfolding frame_on opened
  frame_on_lem xs = ap (λ h. frame N h xs) (take-filled (half_width N) (held N previous) (length-held N previous))

  pub taken-decided : (xs out : List ℤ)
      → Decided (accepted N b false (block xs out)) run out ((0, 0), opened N (suc b) (t +ℤ sum_of xs) (held N xs), frame N (held N previous) xs) (taken run xs out)
  unfolding accepted all_yes taken admitted taken_in ask opened advanced
  taken-decided xs out =
      rw (opened-sound N b t previous r)
      (asked 3 (ltb b block_limit)
      (asked 5 (eqb (length xs) N)
      (asked 6 (eqb (length out) N)
      (asked-each 7 (first_dead xs 0) (asked-each 8 (first_out xs 0) (granted _ (ap (λ f. ((0, 0), opened N (suc b) (t +ℤ sum_of xs) (held N xs), f)) (frame_on_lem xs))))))))

  pub ended-decided : (out : List ℤ)
      → Decided (accepted N b false (finish out)) run out ((0, 0), closed run, frame N (held N previous) (zeros N)) (ended run out)
  unfolding accepted all_yes ended ask opened
  ended-decided out = rw (opened-sound N b t previous r) (asked 6 (eqb (length out) N) (granted _ (ap (λ f. ((0, 0), closed run, f)) (frame_on_lem (zeros N)))))

  pub closed-refused : (c : Call) → Refused (closed run) (output_of c) (give (closed run) c)
  unfolding give output_of taken admitted ended ask opened closed
  closed-refused (block xs out) = rw (closed-sound N b t previous r) (refused 2 0 (closed run) out)
  closed-refused (finish out) = rw (closed-sound N b t previous r) (refused 2 0 (closed run) out)

  pub taken_in_lem : (xs out : List ℤ) → length xs ≡ N → length out ≡ N → b < block_limit → taken run xs out ≡ taken_in run xs out
  unfolding taken admitted ask opened
  taken_in_lem xs out l m h = rw (opened-sound N b t previous r, lt-ltb b block_limit h, eq-eqb (length xs) N l, eq-eqb (length out) N m)
