use Rattle.std.proofs.Common.{◌≡◌, sym, ◌∙◌}
use Rattle.width_tables.proofs.TableSizes.{sines-long, sines-within}
use Rattle.stages.proofs.StageLaws.{stage4-is}
use Rattle.stages.proofs.stages.fourth.Goals as goal

pub fourth-requires-clause-c_len : goal.fourth-requires-clause-c_len
fourth-requires-clause-c_len c = (sines-long _ _ c.sines.ensures ∙ sym c.requires.two_halves.top-long, c.requires.two_halves.bottom-long ∙ sym c.requires.two_halves.top-long)

pub fourth-requires-clause-within : goal.fourth-requires-clause-within
fourth-requires-clause-within c = sines-within _ _ c.sines.ensures

pub returns : goal.returns
returns c = stage4-is c.args.t.now.width c.args.top.now c.args.bottom.now c.requires.two_halves _ c.sines.ensures.is c.args.undo c.fourth.ensures
