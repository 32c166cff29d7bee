-- The answer and the record that a call of a run back gives do not depend on what its output holds; and an answer's place is at most 128.
use mathlib.Core.Path.{◌≡◌, refl}
use mathlib.Core.Bool.{Bool, true, false, cond}
use mathlib.Core.List.{List}
use Prim.Native.Nat.{ℕ, ◌≤◌, ◌<◌, zero-le}
use native.Mathlib.Omega.{arith}
use borrow.Author.Tests.{ltb-true, eqb-true}
use lib.Dec.{eqb}
use lib.IntN.{ℤ, pos}
use lib.ListN.{length, drop, length-drop}
use Rattle.tables.specs.Widths.{half_width}
use Rattle.steps.specs.Limits.{reading_limit, folded_limit, coefficient_limit}
use Rattle.steps.specs.Steps.{unstages}
use Rattle.steps.proofs.Lengths.{length-unstages, width-half}
use Rattle.runs.specs.Answers.{beyond}
use Rattle.std.specs.Prelude.{Option, Some, None}
use Rattle.runs.specs.declared.record.Run.{Run}
use Rattle.runs.specs.Gate.{CallResult, ask, ask_each, sound, admitted}
use Rattle.runs.proofs.CallLaws.{every-answer}
use Rattle.runs.proofs.Searches.{place_found, found-place}
use Rattle.runs.proofs.RecordLaws.{width-le}
use Rattle.runs.specs.Back.{block_on, first_upper, first_frame, later_frame, unfolded_in, undone_in, taken_back}
use Rattle.runs.proofs.BackLaws.{length-block}

-- the number and the place of an answer, each by itself, are the answer
pub told-pair : (answer : ℕ × ℕ) {a b : ℕ} → a ≡ answer.0 → b ≡ answer.1 → (a, b) ≡ answer
told-pair (n, m) p q = rw (p, q)

-- ---- the same answer and the same record
pub record Alike (g h : CallResult) : Type 0 where
  pub same : (g.0, g.1, h.2) ≡ h

module _ {g h : CallResult} (n : ℕ) (run : Run) (o p : List ℤ) where
  alike-asked : (answer : Bool) → Alike g h → Alike (ask n answer run o g) (ask n answer run p h)
  unfolding ask
  alike-asked true a = a
  alike-asked false a = record { same = refl }

  alike-each : (found : Option ℕ) → Alike g h → Alike (ask_each n found run o g) (ask_each n found run p h)
  unfolding ask_each
  alike-each (Some place) a = record { same = refl }
  alike-each None a = a

alike-either : {g h i k : CallResult} (b : Bool) → Alike g h → Alike i k → Alike (cond b g i) (cond b h k)
alike-either true a c = a
alike-either false a c = c

module _ (run : Run) (frame o p : List ℤ) where
  pub undone-alike : Alike (undone_in run frame o) (undone_in run frame p)
  unfolding undone_in unfolded_in first_frame later_frame
  undone-alike =
      alike-each 9 run o p _ (alike-each 10 run o p _ (alike-either (eqb run.count 0)
      (alike-each 11 run o p _ (record { same = refl }))
      (alike-each 12 run o p _ (record { same = refl }))))

  pub taken-alike : length o ≡ length p → Alike (taken_back run frame o) (taken_back run frame p)
  unfolding taken_back admitted
  taken-alike l = rw l (alike-asked 2 run o p _ (alike-asked 3 run o p _ (alike-asked 4 run o p _ (alike-asked 6 run o p _ (alike-asked 7 run o p _ undone-alike)))))

-- ---- places
module _ (K : ℕ) (next : CallResult) (n : ℕ) (run : Run) (out : List ℤ) where
  place-asked : (answer : Bool) → (answer ≡ true → next.0.1 ≤ K) → (ask n answer run out next).0.1 ≤ K
  unfolding ask
  place-asked true h = h refl
  place-asked false h = zero-le

  place-each : (found : Option ℕ) → place_found found ≤ K → next.0.1 ≤ K → (ask_each n found run out next).0.1 ≤ K
  unfolding ask_each place_found
  place-each (Some place) h k = h
  place-each None h k = k

place-either : (K : ℕ) (g h : CallResult) (b : Bool) → g.0.1 ≤ K → h.0.1 ≤ K → (cond b g h).0.1 ≤ K
place-either K g h true k l = k
place-either K g h false k l = l

pub sound-wide : (top : ℕ) (run : Run) → sound top run ≡ true → 0 < half_width run.width
unfolding sound
sound-wide top run e = ltb-true 0 _ (every-answer _ e 0)

module _ (run : Run) (frame out : List ℤ) where
  undone-place : 0 < half_width run.width → length frame ≡ run.width → (undone_in run frame out).0.1 ≤ 128
  unfolding undone_in unfolded_in first_frame first_upper later_frame
  undone-place w l =
      let N = run.width in
      let folded = unstages N frame in
      let few = width-le N w in
      place-each 128 _ 9 run out _ (omega (arith, few, found-place (beyond (pos coefficient_limit)) frame 0))
      (place-each 128 _ 10 run out _ (omega (arith, few, found-place (beyond (pos folded_limit)) folded 0, length-unstages N frame))
      (place-either 128 _ _ (eqb run.count 0)
      (place-each 128 _ 11 run out _
      (omega (arith, few, width-half N w, found-place (beyond (pos 0)) (drop (half_width N) folded) (half_width N), length-drop (half_width N) folded, length-unstages N frame)) zero-le)
      (place-each 128 _ 12 run out _ (omega (arith, few, found-place (beyond (pos reading_limit)) (block_on run folded) 0, length-block run folded)) zero-le)))

  pub taken-place : (taken_back run frame out).0.1 ≤ 128
  unfolding taken_back admitted
  taken-place =
      place-asked 128 _ 2 run out _ (λ s.
      place-asked 128 _ 3 run out _ (λ _.
      place-asked 128 _ 4 run out _ (λ _.
      place-asked 128 _ 6 run out _ (λ e.
      place-asked 128 _ 7 run out _ (λ _. undone-place (sound-wide _ run s) (eqb-true _ _ e))))))
