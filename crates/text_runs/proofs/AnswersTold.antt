-- Which numbers and places a run answers that a text run comes to: the record is sound and open and the output has its length, so 2, 3 and 7
-- are no answers to it.
use mathlib.Core.Path.{◌≡◌, refl}
use mathlib.Core.Logic.{⊎_elim}
use mathlib.Core.Bool.{Bool, true, false, cond}
use mathlib.Core.List.{List, [], ◌∷◌}
use Prim.Native.Nat.{ℕ, suc, ◌+◌, ◌≤◌, ◌<◌}
use native.Mathlib.Omega.{arith}
use borrow.Author.Tests.{eq-eqb, eqb-true}
use lib.Dec.{eqb, ltb}
use lib.IntN.{ℤ, pos}
use lib.ListN.{length, drop, length-drop}
use Rattle.tables.specs.Widths.{half_width}
use Rattle.steps.specs.Limits.{reading_limit, folded_limit, coefficient_limit}
use Rattle.steps.specs.Steps.{held, unstages}
use Rattle.steps.proofs.Lengths.{length-unstages, width-half}
use Rattle.runs.specs.Answers.{first_where, beyond}
use Rattle.std.specs.Prelude.{Some}
use Rattle.runs.specs.declared.record.Run.{Run}
use Rattle.runs.specs.Record.{block_limit, frame_limit, opened}
use Rattle.runs.specs.Gate.{CallResult, ask, ask_each, admitted, dead}
use Rattle.runs.specs.Forward.{taken_in, taken}
use Rattle.runs.specs.Back.{block_on, first_upper, first_frame, later_frame, unfolded_in, undone_in, taken_back, first_held, ended_back}
use Rattle.runs.proofs.RecordLaws.{width-pos, take-filled, Reached, opened-sound}
use Rattle.runs.proofs.CallLaws.{ended-decided}
use Rattle.runs.proofs.BackLaws.{ReachedBack, back-sound, length-block}
use Rattle.text_runs.specs.declared.state.Way.{Way}
use Rattle.text_runs.specs.declared.state.Way.TheVariants.{Forward, Back}
use Rattle.text_runs.specs.Way.{lent_output, taken_by, ended_by}
use Rattle.text_runs.specs.EveryInput.{refusal_numbers, among}
use Rattle.text_runs.proofs.RunRows.{output-long, finish-accepted}
use Rattle.text_runs.proofs.AnyLines.{Source}

-- an answer of a list of numbers, or 0, at a place below N
pub record Told (ms : List ℕ) (N : ℕ) (answer : ℕ × ℕ) : Type 0 where
  pub numbered : 0 < answer.0 → among answer.0 ms ≡ true
  pub placed : answer.1 < N

-- ---- question by question
told-done : (ms : List ℕ) (N : ℕ) → 0 < N → Told ms N (0, 0)
told-done ms N p = record { numbered = λ h. absurd (omega arith); placed = p }

module _ (ms : List ℕ) (N : ℕ) (p : 0 < N) (n : ℕ) (m : among n ms ≡ true) (run : Run) (out : List ℤ) (next : CallResult) where
  told-asked : (answer : Bool) → (answer ≡ true → Told ms N next.0) → Told ms N (ask n answer run out next).0
  unfolding ask
  told-asked true h = h refl
  told-asked false h = record { numbered = λ _. m; placed = p }

  told-each : (test : ℤ → Bool) (xs : List ℤ) (k : ℕ) → k + length xs ≤ N → Told ms N next.0 → Told ms N (ask_each n (first_where test xs k) run out next).0
  unfolding first_where ask_each
  told-each test [] k h t = t
  told-each test (x ∷ xs) k h t = by (test x) (told-each test xs (suc k) (omega arith) t)
    where
      by : (b : Bool) → Told ms N (ask_each n (first_where test xs (suc k)) run out next).0 → Told ms N (ask_each n (cond b (Some k) (first_where test xs (suc k))) run out next).0
      by true u = record { numbered = λ _. m; placed = omega arith }
      by false u = u

told-either : (ms : List ℕ) (N : ℕ) (g h : CallResult) (b : Bool) → Told ms N g.0 → Told ms N h.0 → Told ms N (cond b g h).0
told-either ms N g h true t u = t
told-either ms N g h false t u = u

-- ---- where a refusal comes from
told-source : (way : Way) (ms : List ℕ) (N : ℕ) (run : Run) → 0 < N → among 13 ms ≡ true → among 16 ms ≡ true
    → ((xs : List ℤ) → Told ms N (taken_by way run xs (lent_output run)).0) → Told ms N (ended_by way run (lent_output run)).0
    → (answer : ℕ × ℕ) → Source way run answer → Told ms N answer
told-source way ms N run p m l t u answer =
    ⊎_elim (⊎_elim (λ e. rw e (record { numbered = λ _. m; placed = p })) (λ s. rw s.1 (t s.0)))
    (⊎_elim (λ e. rw e u) (λ e. rw e (record { numbered = λ _. l; placed = p })))

-- ---- forward
module _ (N b : ℕ) (t : ℤ) (previous : List ℤ) (r : Reached N b t previous) where
  abbrev forward_run : Run
  forward_run = opened N b t (held N previous)

  abbrev forward_out : List ℤ
  forward_out = lent_output forward_run

  lent : length forward_out ≡ N
  lent = output-long N b t (held N previous) r.wide

  block-told : (xs : List ℤ) → Told (refusal_numbers Forward) N (taken_by Forward forward_run xs forward_out).0
  unfolding taken_by taken admitted taken_in ask opened refusal_numbers among
  block-told xs =
      let p = width-pos N r.wide in
      let ms = refusal_numbers Forward in
      rw (opened-sound N b t previous r, eq-eqb (length forward_out) N lent)
      (told-asked ms N p 4 refl forward_run forward_out _ (ltb b block_limit) (λ _.
      told-asked ms N p 6 refl forward_run forward_out _ (eqb (length xs) N) (λ e.
      let l = eqb-true (length xs) N e in
      told-each ms N p 8 refl forward_run forward_out _ dead xs 0 (omega (arith, l))
      (told-each ms N p 9 refl forward_run forward_out _ (beyond (pos reading_limit)) xs 0 (omega (arith, l)) (told-done ms N p)))))

  finish-told : Told (refusal_numbers Forward) N (ended_by Forward forward_run forward_out).0
  unfolding ended_by
  finish-told = rw ((ended-decided N b t previous r forward_out).when-yes (finish-accepted N b forward_out lent)) (told-done (refusal_numbers Forward) N (width-pos N r.wide))

  pub forward-told : (answer : ℕ × ℕ) → Source Forward forward_run answer → Told (refusal_numbers Forward) N answer
  unfolding refusal_numbers among
  forward-told = told-source Forward (refusal_numbers Forward) N forward_run (width-pos N r.wide) refl refl block-told finish-told

-- ---- back
module _ (N b : ℕ) (t : ℤ) (low : List ℤ) (r : ReachedBack N b t low) where
  abbrev back_run : Run
  back_run = opened N b t low

  abbrev back_out : List ℤ
  back_out = lent_output back_run

  frame-told : (frame : List ℤ) → Told (refusal_numbers Back) N (taken_by Back back_run frame back_out).0
  unfolding taken_by taken_back admitted undone_in unfolded_in first_frame first_upper later_frame ask opened refusal_numbers among
  frame-told frame =
      let p = width-pos N r.wide in
      let ms = refusal_numbers Back in
      let folded = unstages N frame in
      let half = width-half N r.wide in
      let long = length-unstages N frame in
      rw (back-sound N b t low r, eq-eqb (length back_out) N (output-long N b t low r.wide))
      (told-asked ms N p 4 refl back_run back_out _ (ltb b frame_limit) (λ _.
      told-asked ms N p 6 refl back_run back_out _ (eqb (length frame) N) (λ e.
      let l = eqb-true (length frame) N e in
      told-each ms N p 9 refl back_run back_out _ (beyond (pos coefficient_limit)) frame 0 (omega (arith, l))
      (told-each ms N p 10 refl back_run back_out _ (beyond (pos folded_limit)) folded 0 (omega (arith, long, half))
      (told-either ms N _ _ (eqb b 0)
      (told-each ms N p 11 refl back_run back_out _ (beyond (pos 0)) (drop (half_width N) folded) (half_width N) (omega (arith, length-drop (half_width N) folded, long, half)) (told-done ms N p))
      (told-each ms N p 12 refl back_run back_out _ (beyond (pos reading_limit)) (block_on back_run folded) 0 (omega (arith, length-block back_run folded)) (told-done ms N p)))))))

  end-told : Told (refusal_numbers Back) N (ended_by Back back_run back_out).0
  unfolding ended_by ended_back first_held ask opened refusal_numbers among
  end-told =
      let p = width-pos N r.wide in
      let ms = refusal_numbers Back in
      rw (back-sound N b t low r, take-filled (half_width N) low r.long)
      (told-asked ms N p 5 refl back_run [] _ (ltb 0 b) (λ _.
      told-each ms N p 11 refl back_run [] _ (beyond (pos 0)) low 0 (omega (arith, r.long, width-half N r.wide)) (told-done ms N p)))

  pub back-told : (answer : ℕ × ℕ) → Source Back back_run answer → Told (refusal_numbers Back) N answer
  unfolding refusal_numbers among
  back-told = told-source Back (refusal_numbers Back) N back_run (width-pos N r.wide) refl refl frame-told end-told
