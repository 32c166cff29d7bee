use Rattle.std.proofs.Common.{◌≡◌, ◌∙◌, sym, ap, ℤ, List, ◌%◌, arith}
use Rattle.std.specs.Prelude.{Ok}
use Rattle.steps.specs.Limits.{folded_limit}
use Rattle.slices.proofs.Parts.{part-long}
use Rattle.runs.specs.Answers.{told}
use Rattle.runs.proofs.RecordLaws.{width-le, width-in-fours}
use Rattle.runs.proofs.Searches.{none_within}
use Rattle.runs.proofs.AloneLaws.{stages-refused, stages-done}
use Rattle.alone.proofs.transform.staged.Goals as goal

pub seldom_beyond-requires-clause-x_len_bound : goal.seldom_beyond-requires-clause-x_len_bound
seldom_beyond-requires-clause-x_len_bound c =
    let long = c.requires.folded_len in
    let N = c.args.t.now.width in
    (omega (arith, long, width-le N c.args.t.now.known), ap (λ n. n % 4) long ∙ width-in-fours N c.args.t.now.known, long ∙ part-long _ _ c.requires.wide_room.y-wide)

pub returns-in-Some : goal.returns-in-Some
returns-in-Some c = stages-refused c.args.t.now.width c.args.folded.now _ _ (sym c.in-Some.ensures)

pub stages-requires-clause-within : goal.stages-requires-clause-within
stages-requires-clause-within c = none_within folded_limit _ (sym c.in_default.ensures)

pub returns : goal.returns
returns c = ap (λ (l : List ℤ). (told (Ok tt), l)) c.stages.ensures ∙ stages-done c.args.t.now.width c.args.folded.now _ (sym c.in_default.ensures)
