-- A refusal's number is not 0, and that of work done is.
use Rattle.std.proofs.Common.{◌≡◌, arith, refl}
use Rattle.std.specs.Prelude.{Ok, Err}
use Rattle.runs.specs.Answers.{told}
use Rattle.runs.specs.declared.answer.Refusal.{Refusal}
use Rattle.runs.specs.declared.answer.Refusal.TheVariants.{Width, Record, Closed, Full, Empty, InputLength, OutputLength, DeadMark, Range, Folded, Halves, Unfolded}

pub refusal-number : (r : Refusal) → (told (Err r)).0 ≡ 0 → ⊥
unfolding told
refusal-number Width e = omega arith
refusal-number Record e = omega arith
refusal-number Closed e = omega arith
refusal-number Full e = omega arith
refusal-number Empty e = omega arith
refusal-number InputLength e = omega arith
refusal-number OutputLength e = omega arith
refusal-number (DeadMark i) e = omega arith
refusal-number (Range i) e = omega arith
refusal-number (Folded i) e = omega arith
refusal-number (Halves i) e = omega arith
refusal-number (Unfolded i) e = omega arith

pub done-number : (told (Ok tt)).0 ≡ 0
unfolding told
done-number = refl
