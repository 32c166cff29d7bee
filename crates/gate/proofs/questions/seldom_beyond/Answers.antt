-- Numbers that are all in range: nothing is found.
use Rattle.std.proofs.Common.{◌∙◌, sym, ap, ℤ, w32}
use Rattle.integers.proofs.Held.{held}
use Rattle.runs.specs.Gate.{inside}
use Rattle.runs.proofs.Searches.{nothing_is}
use Rattle.gate.proofs.questions.seldom_beyond.Goals as goal

pub returns-then-in_range : goal.returns-then-in_range
unfolding inside
returns-then-in_range c = sym (nothing_is _ (ap (λ (l : ℤ). inside l c.args.x.now) (sym (held w32 _ c.ranges.limit).is) ∙ sym c.if-in_range.ensures))
