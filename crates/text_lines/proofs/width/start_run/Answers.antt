-- The width is refused, or told.
use Rattle.std.proofs.Common.{◌∙◌, arith}
use Rattle.text_runs.proofs.DecimalLaws.{decimal-within}
use Rattle.text_state.proofs.GivenLaws.{given-text}
use Rattle.text_lines.proofs.StepLaws.{width-refused, width-done}
use Rattle.text_lines.proofs.width.start_run.Goals as goal

pub returns-in-Err-clause-result_value : goal.returns-in-Err-clause-result_value
returns-in-Err-clause-result_value c = c.by_refusal.ensures.result_value ∙ width-refused _ _ c.start-begun.ensures _ c.in-Err.is

pub last_natural-length-requires : goal.last_natural-length-requires
last_natural-length-requires c = omega (arith, decimal-within c.args.width)

pub returns-clause-result_value : goal.returns-clause-result_value
returns-clause-result_value c = given-text _ _ _ _ _ c.with_run.ensures c.last_natural-length.ensures.is ∙ width-done _ _ c.start-begun.ensures c.in_default.is
