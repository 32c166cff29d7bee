-- Question 5.
use Rattle.std.proofs.Common.{arith, sym, ◌∙◌}
use Rattle.reel_lines.proofs.LineLaws.{none-ended, some-ended}
use Rattle.reel_lines.proofs.frame.end_run.Goals as goal

pub returns-then-reel-eq0 : goal.returns-then-reel-eq0
returns-then-reel-eq0 c = c.by.ensures ∙ sym (none-ended _ _ c.if-reel-eq0.true)

pub returns : goal.returns
returns c = c.to_phase.ensures ∙ sym (some-ended _ _ (λ e. omega (arith, c.if-reel-eq0.false)))
