-- A refusal's place counted through the run.
use Rattle.std.proofs.Common.{◌≡◌, ℕ, refl}
use Rattle.std.specs.Prelude.{Err}
use Rattle.runs.specs.declared.answer.Refusal.{Refusal}
use Rattle.runs.specs.declared.answer.Refusal.TheVariants.{Width, Record, Closed, Full, Empty, InputLength, OutputLength, DeadMark, Range, Folded, Halves, Unfolded}
use Rattle.runs.specs.Answers.{told, placed}

-- questions 1 to 7 name no place
pub placed-other : (N offset : ℕ) (r : Refusal) → ((i : ℕ) → r ≡ DeadMark i → ⊥) → ((i : ℕ) → r ≡ Range i → ⊥) → ((i : ℕ) → r ≡ Folded i → ⊥) → ((i : ℕ) → r ≡ Halves i → ⊥) → ((i : ℕ) → r ≡ Unfolded i → ⊥)
    → told (Err r) ≡ placed N offset (told (Err r))
unfolding told placed
placed-other N offset Width d r f h u = refl
placed-other N offset Record d r f h u = refl
placed-other N offset Closed d r f h u = refl
placed-other N offset Full d r f h u = refl
placed-other N offset Empty d r f h u = refl
placed-other N offset InputLength d r f h u = refl
placed-other N offset OutputLength d r f h u = refl
placed-other N offset (DeadMark i) d r f h u = absurd (d i refl)
placed-other N offset (Range i) d r f h u = absurd (r i refl)
placed-other N offset (Folded i) d r f h u = absurd (f i refl)
placed-other N offset (Halves i) d r f h u = absurd (h i refl)
placed-other N offset (Unfolded i) d r f h u = absurd (u i refl)
