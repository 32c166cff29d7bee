-- The record of a run that has not begun, as it is made.
use Rattle.std.proofs.Common.{ap, pos, false, ◌∙◌}
use Rattle.runs.specs.declared.record.Run.{Run}
use Rattle.runs.specs.Record.{record_of, zero_padded, opened}
use Rattle.text_runs.specs.declared.state.Way.{Way}
use Rattle.text_runs.specs.declared.state.State.{State}
use Rattle.text_runs.specs.declared.state.Phase.TheVariants.{First}
use Rattle.text_runs.specs.State.{begun}
use Rattle.text_runs.proofs.state.begin.Goals as goal

abbrev before-line-1 : Way → Run → State
before-line-1 way run = record { way = way; phase = First; run = run }

pub returns : goal.returns
unfolding begun opened zero_padded
returns c =
    ap (before-line-1 c.args.way) (c.make.ensures ∙ ap (λ held. record_of 0 0 held false (pos 0)) c.nothing_held-held.ensures)
