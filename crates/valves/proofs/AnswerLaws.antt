-- The number of an answer is small.
use Rattle.std.specs.Prelude.{Ok, Err}
use Prim.Native.Nat.{◌≤◌}
use native.Mathlib.Omega.{arith}
use Rattle.valves.specs.Answers.{Answer}
use Rattle.valves.specs.declared.answer.Refusal.TheVariants.{Width, InputLength, DeadMark, Range, Limits, AllMade, OtherCount}
use Rattle.valves.specs.Answers.{told}

pub told-small : (answer : Answer) → (told answer).0 ≤ 19
unfolding told
told-small (Ok tt) = omega arith
told-small (Err Width) = omega arith
told-small (Err InputLength) = omega arith
told-small (Err (DeadMark place)) = omega arith
told-small (Err (Range place)) = omega arith
told-small (Err Limits) = omega arith
told-small (Err AllMade) = omega arith
told-small (Err OtherCount) = omega arith
