-- What questions 5 and 11 say to a finish back.
use Rattle.std.specs.Prelude.{Ok, Err, Some, None}
use Rattle.runs.specs.declared.answer.Refusal.{Refusal}
use mathlib.Core.Path.{◌≡◌}
use mathlib.Core.Bool.{true, false}
use mathlib.Core.List.{[]}
use Prim.Native.Nat.{ℕ}
use native.Mathlib.Omega.{arith}
use borrow.Author.Tests.{lt-ltb, le-ltb}
use Rattle.runs.specs.Answers.{told}
use Rattle.runs.specs.Answers.{Answer}
use Rattle.runs.specs.declared.record.Run.{Run}
use Rattle.runs.specs.Record.{frame_limit, closed}
use Rattle.runs.specs.Gate.{ask, ask_each, sound}
use Rattle.runs.specs.Back.{first_held, ended_back}

module _ (run : Run) (s : sound frame_limit run ≡ true) (o : run.finished ≡ false) where
  pub end-empty-refused : run.count ≡ 0 → (told (Err Refusal.Empty), run, []) ≡ ended_back run
  unfolding told ended_back ask
  end-empty-refused e = rw (s, o, le-ltb 0 run.count (omega (arith, e)))

  module _ (n : run.count ≡ 0 → ⊥) where
    pub end-held-refused : (place : ℕ) → first_held run ≡ Some place → (told (Err (Refusal.Halves place)), run, []) ≡ ended_back run
    unfolding told ended_back ask ask_each first_held
    end-held-refused place e = rw (s, o, lt-ltb 0 run.count (omega (arith, n)), e)

    pub ended-done : first_held run ≡ None → (told (Ok tt), closed run, []) ≡ ended_back run
    unfolding told ended_back ask ask_each first_held
    ended-done e = rw (s, o, lt-ltb 0 run.count (omega (arith, n)), e)
