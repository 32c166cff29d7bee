-- A refusal has a number, and work done has none.
use Rattle.std.proofs.Common.{◌∙◌}
use Rattle.text_state.proofs.GivenLaws.{given-text, row-refused, row-done}
use Rattle.text_state.proofs.lines.given_row.Goals as goal

pub returns-in-Err-clause-result_value : goal.returns-in-Err-clause-result_value
returns-in-Err-clause-result_value c = c.by_refusal.ensures.result_value ∙ row-refused _ _ _ _ c.in-Err.is

pub returns-clause-result_value : goal.returns-clause-result_value
returns-clause-result_value c = given-text _ _ _ _ _ c.with_run.ensures c.shown_row-length.ensures.0 ∙ row-done _ _ _ c.in_default.is
