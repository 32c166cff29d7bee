-- The part of the room that is lent is as wide as the run.
use Rattle.std.proofs.Common.{◌≡◌, ◌≤◌, ◌∙◌, length, ap, ap₂, refl, sym, arith, w64}
use Rattle.std.proofs.Math.Seq.{length-take-le, take_at}
use Rattle.integers.proofs.Held.{held}
use Rattle.runs.specs.Answers.{told}
use Rattle.runs.specs.Gate.{CallResult}
use Rattle.runs.specs.Record.{zeros}
use Rattle.text_runs.specs.Way.{ended_by}
use Rattle.text_runs.specs.Line.{finish_given}
use Rattle.text_lines.proofs.StepLaws.{output-room, closing}
use Rattle.text_lines.proofs.row.finish.Goals as goal

pub given_last-requires-clause-closing : goal.given_last-requires-clause-closing
given_last-requires-clause-closing c = λ e. closing c.args.state.way c.args.state.run _ (ap (λ (g : CallResult). g.0.0) (sym c.finish_by-outcome.ensures) ∙ e)

pub returns-clause-result_value : goal.returns-clause-result_value
returns-clause-result_value c =
    let s = c.args.state in
    let n = c.min-n.result in
    let o = c.finish_by-outcome in
    let small : n ≤ 128 = omega (arith, c.min-n.ensures) in
    let long : length o.new.out ≡ n = o.auto.out ∙ length-take-le n (zeros 128) small in
    let room = output-room s.run n (zeros 128) c.min-n.ensures small refl in
    c.given_last.ensures.result_value
    ∙ ap₂ (λ t xs. finish_given s t (told o.result.answer, o.result.run, xs)) (held w64 c.args.total c.ranges.total).is (take_at _ _ _ long)
    ∙ ap (finish_given s c.args.total) (o.ensures ∙ ap (ended_by s.way s.run) room)
