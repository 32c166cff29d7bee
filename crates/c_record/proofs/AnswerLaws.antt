-- An answer's number and place, and what a call leaves of the record's numbers.
use Rattle.std.specs.Prelude.{Ok, Err, true, false}
use Rattle.std.specs.Result.{is_ok}
use mathlib.Core.Path.{◌≡◌, refl}
use Prim.Native.Nat.{ℕ, ◌≤◌}
use native.Mathlib.Omega.{arith}
use borrow.Author.Tests.{eq-eqb, ne_eqb}
use mathlib.Core.List.{List}
use lib.IntN.{ℤ}
use Rattle.runs.specs.Answers.{told}
use Rattle.runs.specs.Answers.{Answer}
use Rattle.runs.specs.declared.answer.Refusal.TheVariants.{Width, Record, Closed, Full, Empty, InputLength, OutputLength, DeadMark, Range, Folded, Halves, Unfolded}
use Rattle.runs.specs.declared.record.Run.{Run}
use Rattle.c_record.specs.Record.{packed}
use Rattle.c_record.specs.Calls.{numbers_after}

pub told-small : (answer : Answer) → (told answer).0 ≤ 12
unfolding told
told-small (Ok tt) = omega arith
told-small (Err Width) = omega arith
told-small (Err Record) = omega arith
told-small (Err Closed) = omega arith
told-small (Err Full) = omega arith
told-small (Err Empty) = omega arith
told-small (Err InputLength) = omega arith
told-small (Err OutputLength) = omega arith
told-small (Err (DeadMark i)) = omega arith
told-small (Err (Range i)) = omega arith
told-small (Err (Folded i)) = omega arith
told-small (Err (Halves i)) = omega arith
told-small (Err (Unfolded i)) = omega arith

-- work done has no place
pub told-done : (answer : Answer) → (told answer).0 ≡ 0 → told answer ≡ (0, 0)
unfolding told
told-done (Ok tt) e = refl
told-done (Err Width) e = absurd (omega arith)
told-done (Err Record) e = absurd (omega arith)
told-done (Err Closed) e = absurd (omega arith)
told-done (Err Full) e = absurd (omega arith)
told-done (Err Empty) e = absurd (omega arith)
told-done (Err InputLength) e = absurd (omega arith)
told-done (Err OutputLength) e = absurd (omega arith)
told-done (Err (DeadMark i)) e = absurd (omega arith)
told-done (Err (Range i)) e = absurd (omega arith)
told-done (Err (Folded i)) e = absurd (omega arith)
told-done (Err (Halves i)) e = absurd (omega arith)
told-done (Err (Unfolded i)) e = absurd (omega arith)

-- the code's test whether work was done
pub done_told : (answer : Answer) → true ≡ is_ok answer → (told answer).0 ≡ 0
unfolding told
done_told (Ok tt) e = refl
done_told (Err r) e = absurd cc

pub refused_told : (answer : Answer) → false ≡ is_ok answer → (told answer).0 ≡ 0 → ⊥
unfolding told
refused_told (Ok tt) e z = cc
refused_told (Err Width) e z = omega arith
refused_told (Err Record) e z = omega arith
refused_told (Err Closed) e z = omega arith
refused_told (Err Full) e z = omega arith
refused_told (Err Empty) e z = omega arith
refused_told (Err InputLength) e z = omega arith
refused_told (Err OutputLength) e z = omega arith
refused_told (Err (DeadMark i)) e z = omega arith
refused_told (Err (Range i)) e z = omega arith
refused_told (Err (Folded i)) e z = omega arith
refused_told (Err (Halves i)) e z = omega arith
refused_told (Err (Unfolded i)) e z = omega arith

-- ---- a refused call leaves the numbers, one that works packs its record
module _ (numbers : List ℤ) (n : ℕ) (run : Run) where
  pub kept-refused : (n ≡ 0 → ⊥) → numbers ≡ numbers_after n run numbers
  unfolding numbers_after
  kept-refused e = rw (ne_eqb n 0 e)

  pub kept-worked : n ≡ 0 → packed run ≡ numbers_after n run numbers
  unfolding numbers_after
  kept-worked e = rw (eq-eqb n 0 e)

module _ (answer : Answer) (run : Run) (numbers : List ℤ) where
  pub numbers_packed : true ≡ is_ok answer → packed run ≡ numbers_after (told answer).0 run numbers
  numbers_packed e = kept-worked numbers _ run (done_told answer e)

  pub numbers_kept : false ≡ is_ok answer → numbers ≡ numbers_after (told answer).0 run numbers
  numbers_kept e = kept-refused numbers _ run (refused_told answer e)

pub ruleset hand_back = (done_told, numbers_packed, numbers_kept, kept-refused, kept-worked)
