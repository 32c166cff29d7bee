-- The tag, and the numbers of the line behind it.
use Rattle.std.proofs.Common.{◌≡◌, ◌∙◌, length, take, sym, ap, arith}
use Rattle.std.proofs.Math.Seq.{length-take-le}
use Rattle.text_runs.specs.Lines.{refused_tag, numbers_in, up_to}
use Rattle.text_runs.proofs.UpToLaws.{part_length, part-is}
use Rattle.feeding.specs.Ending.{refused_by}
use Rattle.text_state.proofs.EndingLaws.{said-other, said-refused}
use Rattle.text_state.proofs.ending.last_said.Goals as goal

pub returns-in_default : goal.returns-in_default
unfolding refused_tag
returns-in_default c = said-other _ c.in_default.ensures.cases

pub slice_bounds-refused_by-end : goal.slice_bounds-refused_by-end
slice_bounds-refused_by-end c =
    sym (length-take-le c.end_of-end.result c.in-Some.rest.now (omega (arith, c.end_of-end.ensures, part_length 10 c.in-Some.rest.now)))

pub returns : goal.returns
unfolding refused_tag
returns c =
    let p = c.in-Some.ensures.cases in
    let rest = c.in-Some.rest.now in
    let e : c.end_of-end.result ≡ length (up_to 10 rest) = omega (arith, c.end_of-end.ensures) in
    c.refused_by.ensures
    ∙ ap (λ bs. refused_by (numbers_in bs)) (ap (λ n. take n rest) e ∙ part-is 10 rest ∙ ap (up_to 10) p.1)
    ∙ said-refused c.args.text.now p.0
