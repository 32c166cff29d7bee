-- A refusal by the gate, one by the total, and work done.
use Rattle.std.proofs.Common.{◌∙◌, w64, ap, arith}
use Rattle.integers.proofs.Held.{held, held-ok, same_bits}
use Rattle.runs.specs.Answers.{told}
use Rattle.text_state.proofs.GivenLaws.{given-text, finish-done}
use Rattle.text_state.proofs.lines.given_last.Goals as goal

pub shown_last-length-requires-clause-closing : goal.shown_last-length-requires-clause-closing
unfolding told
shown_last-length-requires-clause-closing c = c.requires.closing (ap (λ a. (told a).0) c.in_default.is)

pub returns-clause-result_value : goal.returns-clause-result_value
returns-clause-result_value c =
    let total = held-ok w64 c.args.state.run.total (omega arith) in
    let same = same_bits (held w64 _ c.ranges.stated) total c.if-stated-total.false in
    given-text _ _ _ _ _ c.with_run.ensures c.shown_last-length.ensures.0 ∙ finish-done _ _ _ _ c.in_default.is same
