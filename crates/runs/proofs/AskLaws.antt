-- What the gate says to a fresh start, to a block and to a finish, question by question.
use Rattle.std.specs.Prelude.{Ok, Err}
use mathlib.Core.Path.{◌≡◌, sym, ap, subst}
use mathlib.Core.Bool.{true, false, not}
use mathlib.Core.List.{List, []}
use Prim.Native.Nat.{ℕ, ◌≤◌}
use native.Mathlib.Omega.{arith}
use borrow.Author.Tests.{lt-ltb, le-ltb, leb-true, eq-eqb, ne_eqb}
use lib.IntN.{ℤ, pos}
use lib.ListN.{length}
use Rattle.tables.specs.Widths.{half_width}
use Rattle.runs.specs.Answers.{told}
use Rattle.runs.specs.Answers.{Answer}
use Rattle.runs.specs.declared.answer.Refusal.TheVariants.{Width, Record, Closed, Full, InputLength, OutputLength}
use Rattle.runs.specs.declared.record.Run.{Run}
use Rattle.runs.specs.declared.record.Outcome.{Outcome}
use Rattle.runs.specs.Record.{block_limit, zeros, outcome_of, zero_padded, opened, closed}
use Rattle.runs.specs.Gate.{CallResult, ask, admitted, sound}
use Rattle.runs.specs.Forward.{started, frame_on, ended}
use Rattle.runs.proofs.CallLaws.{every-answer}

-- ---- what is handed back gives what the record and the answer give
module _ {o : Outcome} {run : Run} {answer : Answer} (e : o ≡ outcome_of run answer) where
  pub handed : (g : (ℕ × ℕ) × Run) → (told answer, run) ≡ g → (told o.answer, o.run) ≡ g
  handed g d = subst (λ (x : Outcome). (told x.answer, x.run) ≡ g) (sym e) d

  pub handed-with : (out : List ℤ) (g : CallResult) → (told answer, run, out) ≡ g → (told o.answer, o.run, out) ≡ g
  handed-with out g d = subst (λ (x : Outcome). (told x.answer, x.run, out) ≡ g) (sym e) d

-- ---- a fresh start
module _ (N : ℕ) (held : List ℤ) (h : held ≡ zeros 64) where
  abbrev fresh : ℕ → Run
  fresh n = record { width = n; count = 0; held = held; finished = false; total = pos 0 }

  fresh-is : (n : ℕ) → fresh n ≡ opened n 0 (pos 0) []
  unfolding opened zero_padded
  fresh-is n = ap (λ xs. record { width = n; count = 0; held = xs; finished = false; total = pos 0 }) h

  pub start-refused : half_width N ≡ 0 → (told (Err Width), fresh 0) ≡ started N
  unfolding told started
  start-refused e = rw (eq-eqb _ _ e) (ap (λ r. ((1, 0), r)) (fresh-is 0))

  pub start-done : (half_width N ≡ 0 → ⊥) → (told (Ok tt), fresh N) ≡ started N
  unfolding told started
  start-done e = rw (ne_eqb _ _ e) (ap (λ r. ((0, 0), r)) (fresh-is N))

-- ---- questions 2 and 3, to a block, a frame or a finish
module _ (top : ℕ) (run : Run) (out : List ℤ) (next : CallResult) where
  pub record-refused : sound top run ≡ false → (told (Err Record), run, out) ≡ ask 2 (sound top run) run out next
  unfolding told ask
  record-refused e = rw e

  pub closed-refused : sound top run ≡ true → run.finished ≡ true → (told (Err Closed), run, out) ≡ ask 2 (sound top run) run out (ask 3 (not run.finished) run out next)
  unfolding told ask
  closed-refused s e = rw (s, e)

-- ---- questions 4, 6 and 7 to a block or a frame
module _ (top : ℕ) (run : Run) (given out : List ℤ) (next : CallResult) (s : sound top run ≡ true) (o : run.finished ≡ false) where
  pub full-refused : run.count ≡ top → (told (Err Full), run, out) ≡ admitted top run given out next
  unfolding told admitted ask
  full-refused e = rw (s, o, le-ltb run.count top (omega (arith, e)))

  module _ (n : run.count ≡ top → ⊥) where
    counted : run.count ≤ top
    unfolding sound
    counted = leb-true _ _ (every-answer _ s 1)

    pub input-refused : (length given ≡ run.width → ⊥) → (told (Err InputLength), run, out) ≡ admitted top run given out next
    unfolding told admitted ask
    input-refused e = rw (s, o, lt-ltb run.count top (omega (arith, n, counted)), ne_eqb _ _ e)

    module _ (l : length given ≡ run.width) where
      pub output-refused : (length out ≡ run.width → ⊥) → (told (Err OutputLength), run, out) ≡ admitted top run given out next
      unfolding told admitted ask
      output-refused e = rw (s, o, lt-ltb run.count top (omega (arith, n, counted)), eq-eqb _ _ l, ne_eqb _ _ e)

      pub lengths-passed : length out ≡ run.width → next ≡ admitted top run given out next
      unfolding admitted ask
      lengths-passed m = rw (s, o, lt-ltb run.count top (omega (arith, n, counted)), eq-eqb _ _ l, eq-eqb _ _ m)

-- ---- question 7 to a finish
module _ (run : Run) (out : List ℤ) (s : sound block_limit run ≡ true) (o : run.finished ≡ false) where
  pub end-output-refused : (length out ≡ run.width → ⊥) → (told (Err OutputLength), run, out) ≡ ended run out
  unfolding told ended ask
  end-output-refused e = rw (s, o, ne_eqb _ _ e)

  pub ended-done : length out ≡ run.width → (told (Ok tt), closed run, frame_on run (zeros run.width)) ≡ ended run out
  unfolding told ended ask
  ended-done e = rw (s, o, eq-eqb _ _ e)
