-- The part of the room that is lent is as wide as the run.
use Rattle.std.proofs.Common.{◌≡◌, ◌≤◌, ◌∙◌, length, ap, refl, arith}
use Rattle.std.proofs.Math.Seq.{length-take-le, take_at}
use Rattle.runs.specs.Answers.{told}
use Rattle.runs.specs.Record.{zeros}
use Rattle.text_runs.specs.Way.{taken_by}
use Rattle.text_runs.specs.Line.{row_given}
use Rattle.text_lines.proofs.StepLaws.{output-room}
use Rattle.text_lines.proofs.row.take_numbers.Goals as goal

pub returns-clause-result_value : goal.returns-clause-result_value
returns-clause-result_value c =
    let s = c.args.state in
    let n = c.min-n.result in
    let o = c.take_by-outcome in
    let small : n ≤ 128 = omega (arith, c.min-n.ensures) in
    let long : length o.new.out ≡ n = o.auto.out ∙ length-take-le n (zeros 128) small in
    let room = output-room s.run n (zeros 128) c.min-n.ensures small refl in
    c.given_row.ensures.result_value
    ∙ ap (λ xs. row_given s (told o.result.answer, o.result.run, xs)) (take_at _ _ _ long)
    ∙ ap (row_given s) (o.ensures ∙ ap (taken_by s.way s.run c.args.numbers.now) room)
