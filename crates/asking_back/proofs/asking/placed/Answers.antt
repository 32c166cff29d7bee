-- The number stays, and the place is counted from further ahead.
use Rattle.std.proofs.Common.{◌≡◌, ◌≤◌, arith, refl, subst}
use Rattle.std.specs.Prelude.{Err}
use Rattle.runs.specs.declared.answer.Refusal.{Refusal}
use Rattle.runs.specs.Answers.{told, placed}
use Rattle.asking_back.proofs.PlacedLaws.{placed-other}
use Rattle.asking_back.proofs.asking.placed.Goals as goal

-- the place of a refusal that is known
place-le : (r s : Refusal) → r ≡ s → (told (Err r)).1 ≤ 128 → (told (Err s)).1 ≤ 128
place-le r s e h = subst (λ (x : Refusal). (told (Err x)).1 ≤ 128) e h

pub overflow_add-result : goal.overflow_add-result
unfolding told
overflow_add-result c = record { fits = omega (arith, c.requires.0, place-le _ _ c.in-DeadMark.is c.requires.1) }

pub returns-in-DeadMark : goal.returns-in-DeadMark
unfolding told placed
returns-in-DeadMark c = rw c.in-DeadMark.is refl

pub overflow_add-result-in-Range : goal.overflow_add-result-in-Range
unfolding told
overflow_add-result-in-Range c = record { fits = omega (arith, c.requires.0, place-le _ _ c.in-Range.is c.requires.1) }

pub returns-in-Range : goal.returns-in-Range
unfolding told placed
returns-in-Range c = rw c.in-Range.is refl

pub overflow_add-result-in-Folded : goal.overflow_add-result-in-Folded
unfolding told
overflow_add-result-in-Folded c = record { fits = omega (arith, c.requires.0, place-le _ _ c.in-Folded.is c.requires.1) }

pub returns-in-Folded : goal.returns-in-Folded
unfolding told placed
returns-in-Folded c = rw c.in-Folded.is refl

pub overflow_add-result-in-Halves : goal.overflow_add-result-in-Halves
unfolding told
overflow_add-result-in-Halves c = record { fits = omega (arith, c.requires.0, place-le _ _ c.in-Halves.is c.requires.1) }

pub returns-in-Halves : goal.returns-in-Halves
unfolding told placed
returns-in-Halves c = rw c.in-Halves.is refl

pub overflow_add-result-in-Unfolded : goal.overflow_add-result-in-Unfolded
unfolding told
overflow_add-result-in-Unfolded c = record { fits = omega (arith, c.requires.0, c.saturating_sub.ensures, place-le _ _ c.in-Unfolded.is c.requires.1) }

pub returns-in-Unfolded : goal.returns-in-Unfolded
unfolding told placed
returns-in-Unfolded c = rw (c.in-Unfolded.is, c.saturating_sub.ensures) refl

pub returns-in_default : goal.returns-in_default
returns-in_default c = placed-other c.args.width c.args.offset c.args.refusal c.in_default.not-DeadMark c.in_default.not-Range c.in_default.not-Folded c.in_default.not-Halves c.in_default.not-Unfolded
