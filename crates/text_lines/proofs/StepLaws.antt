-- What one line gives, as the code decides it.
use mathlib.Core.Path.{◌≡◌, refl, ap, ◌∙◌}
use mathlib.Core.Bool.{Bool, true, false}
use mathlib.Core.List.{List, [], ◌∷◌, ◌++◌}
use Prim.Native.Nat.{ℕ, suc, ◌^◌, ◌≤◌, ◌<◌, min}
use native.Mathlib.Omega.{arith}
use borrow.Author.Tests.{leb-true, ltb-true}
use lib.IntN.{ℤ, pos, negsuc, nat_abs}
use lib.Signed.{mag}
use Rattle.std.specs.Int.{FitsUnsignedBits}
use lib.ListN.{take}
use Rattle.runs.specs.declared.record.Run.{Run}
use Rattle.runs.specs.Record.{zeros}
use Rattle.runs.specs.Answers.{Answer, told}
use Rattle.runs.specs.declared.answer.Refusal.{Refusal}
use Rattle.text_runs.specs.Decimal.{decimal}
use Rattle.text_runs.specs.Lines.{line_feed}
use Rattle.text_state.proofs.GivenLaws.{told-not}
use Rattle.runs.specs.Gate as Gate
use Rattle.runs.specs.Gate.{ask, sound}
use Rattle.runs.specs.Forward.{started, ended}
use Rattle.runs.proofs.CallLaws.{every-answer}
use Rattle.gate.proofs.ReadyLaws.{zeros-part}
use Rattle.runs.specs.Back.{ended_back}
use Rattle.text_runs.specs.Lines.{numbers_in, end_total}
use Rattle.std.specs.Prelude.{Some, None, Ok, Err}
use Rattle.text_runs.specs.declared.state.Way.{Way}
use Rattle.text_runs.specs.declared.state.State.{State}
use Rattle.text_runs.specs.declared.state.Way.TheVariants.{Forward, Back}
use Rattle.text_runs.specs.declared.state.Phase.TheVariants.{Between, Ended}
use Rattle.text_runs.specs.State.{in_phase, with_run, refused}
use Rattle.text_runs.specs.Way.{lent_output, ended_by}
use Rattle.text_state.specs.Own.Closing.{Closing}
use Rattle.text_runs.specs.Line.{width_started, width_taken, row_taken, between_by, between_taken}

-- ---- a finish that works
module _ (n : ℕ) (run : Run) (out : List ℤ) (next : Gate.CallResult) where
  passed : (answer : Bool) → (ask (suc n) answer run out next).0.0 ≡ 0 → answer ≡ true
  unfolding ask
  passed true e = refl
  passed false e = absurd (omega (arith, e))

  follows : (answer : Bool) → (ask (suc n) answer run out next).0.0 ≡ 0 → next.0.0 ≡ 0
  unfolding ask
  follows true e = e
  follows false e = absurd (omega (arith, e))

counted : (top : ℕ) (run : Run) → sound top run ≡ true → run.count ≤ top
unfolding sound
counted top run s = leb-true run.count top (every-answer _ s 1)

pub closing : (way : Way) (run : Run) (out : List ℤ) → (ended_by way run out).0.0 ≡ 0 → Closing way run.count
unfolding ended_by Closing ended ended_back
closing Forward run out e = omega (arith, counted _ run (passed _ run out _ _ e))
closing Back run out e = ltb-true 0 run.count (passed _ run [] _ _ (follows _ run [] _ _ (follows _ run [] _ _ e)))

-- ---- the output that a call is lent
pub output-room : (run : Run) (n : ℕ) (room : List ℤ) → n ≡ min run.width 128 → n ≤ 128 → room ≡ zeros 128 → take n room ≡ lent_output run
unfolding lent_output
output-room run n room e l z = ap (take n) z ∙ zeros-part n 128 l ∙ ap zeros e

-- ---- the width
module _ (s : State) where
  module _ (N : ℕ) {answer : Answer} {run : Run} (e : (told answer, run) ≡ started N) where
    pub width-refused : (r : Refusal) → answer ≡ Err r → refused s (told (Err r)) ≡ width_started s N
    unfolding width_started
    width-refused r d = rw (← e, d, told-not r)

    pub width-done : answer ≡ Ok tt → (with_run Between run s, decimal N ++ (line_feed ∷ [])) ≡ width_started s N
    unfolding width_started told
    width-done d = rw (← e, d)

  -- a number that a `usize` holds
  pub width-held : (x : ℤ) → FitsUnsignedBits 64 x → width_started s (nat_abs x) ≡ width_taken s (Some x)
  unfolding width_taken
  width-held (pos n) f = refl
  width-held (negsuc n) f = absurd f

  pub width-below : (x : ℤ) → mag x < 2 ^ 63 → (FitsUnsignedBits 64 x → ⊥) → refused s (1, 0) ≡ width_taken s (Some x)
  unfolding width_taken
  width-below (pos n) h f = absurd (f (omega arith))
  width-below (negsuc n) h f = refl

-- ---- a line between
module _ (s : State) (bytes : List ℕ) where
  pub end-taken : (total : ℤ) → end_total s.run.count bytes ≡ Some total → (in_phase (Ended total) s, []) ≡ between_taken s bytes
  unfolding between_taken between_by
  end-taken total e = rw e

  pub row-taken : end_total s.run.count bytes ≡ None → row_taken s (numbers_in bytes) ≡ between_taken s bytes
  unfolding between_taken between_by
  row-taken e = rw e
