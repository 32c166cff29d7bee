use Rattle.std.proofs.Common.{◌≡◌, ◌∙◌, ap, Bool, true, false, not, ℕ, ℤ, w32}
use Rattle.std.specs.Prelude.{Option, Some, None, is_some}
use Rattle.integers.proofs.Held.{held}
use Rattle.runs.specs.Answers.{first_beyond}
use Rattle.runs.specs.Gate.{nothing, inside}
use Rattle.gate.proofs.questions.inside.Goals as goal

none-is : (f : Option ℕ) (b : Bool) → is_some f ≡ not b → b ≡ nothing f
unfolding nothing
none-is (Some i) true e = cc
none-is (Some i) false e = cc
none-is None true e = cc
none-is None false e = cc

pub returns : goal.returns
unfolding inside
returns c = none-is _ _ c.is_none.ensures ∙ ap nothing (c.first_beyond.ensures ∙ ap (λ (l : ℤ). first_beyond l c.args.x.now 0) (held w32 _ c.ranges.limit).is)
