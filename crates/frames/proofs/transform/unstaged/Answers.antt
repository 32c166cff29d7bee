use Rattle.std.proofs.Common.{arith, Ok, List, ℤ, pos, ap, sym, ◌∙◌, ◌%◌}
use Rattle.steps.specs.Limits.{folded_limit, coefficient_limit}
use Rattle.slices.proofs.Parts.{part-long}
use Rattle.runs.specs.Answers.{told, first_beyond}
use Rattle.runs.proofs.AloneLaws.{unstages-refused, unstaged-refused, unstages-done}
use Rattle.runs.proofs.RecordLaws.{width-le, width-in-fours}
use Rattle.runs.proofs.Searches.{none_within}
use Rattle.frames.proofs.transform.unstaged.Goals as goal

pub seldom_beyond-requires-clause-x_len_bound : goal.seldom_beyond-requires-clause-x_len_bound
seldom_beyond-requires-clause-x_len_bound c =
    let N = c.args.t.now.width in
    let long = c.requires.frame_len in
    (omega (arith, long, width-le N c.args.t.now.known), ap (λ n. n % 4) long ∙ width-in-fours N c.args.t.now.known, long ∙ part-long _ _ c.requires.wide_room.y-wide)

pub returns-in-Some : goal.returns-in-Some
returns-in-Some c = unstages-refused c.args.t.now.width c.args.frame.now _ _ (sym c.seldom_beyond.ensures ∙ c.in-Some.is)

pub unstages-requires-clause-within : goal.unstages-requires-clause-within
unstages-requires-clause-within c = none_within coefficient_limit _ (sym c.seldom_beyond.ensures ∙ c.in_default.is)

pub returns-in-Some-first_beyond : goal.returns-in-Some-first_beyond
returns-in-Some-first_beyond c =
    unstaged-refused c.args.t.now.width c.args.frame.now _ (sym c.seldom_beyond.ensures ∙ c.in_default.is) _
    (ap (λ (l : List ℤ). first_beyond (pos folded_limit) l 0) (sym c.unstages.ensures) ∙ sym c.first_beyond.ensures ∙ c.in-Some-first_beyond.is)

pub returns : goal.returns
returns c =
    ap (λ (l : List ℤ). (told (Ok tt), l)) c.unstages.ensures
    ∙ unstages-done c.args.t.now.width c.args.frame.now _ (sym c.seldom_beyond.ensures ∙ c.in_default.is)
    (ap (λ (l : List ℤ). first_beyond (pos folded_limit) l 0) (sym c.unstages.ensures) ∙ sym c.first_beyond.ensures ∙ c.in_default-first_beyond.is)
