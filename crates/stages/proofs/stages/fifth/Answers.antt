use Rattle.std.proofs.Common.{◌≡◌, sym, ◌∙◌}
use Rattle.width_tables.proofs.TableSizes.{tangents-long, tangents-within}
use Rattle.stages.proofs.StageLaws.{stage5-is}
use Rattle.stages.proofs.stages.fifth.Goals as goal

pub fifth-requires-clause-c_len : goal.fifth-requires-clause-c_len
fifth-requires-clause-c_len c = (tangents-long _ _ c.tangents.ensures ∙ sym c.requires.two_halves.bottom-long, c.requires.two_halves.top-long ∙ sym c.requires.two_halves.bottom-long)

pub fifth-requires-clause-within : goal.fifth-requires-clause-within
fifth-requires-clause-within c = tangents-within _ _ c.tangents.ensures

pub returns : goal.returns
returns c = stage5-is c.args.t.now.width c.args.top.now c.args.bottom.now c.requires.two_halves _ c.tangents.ensures.is c.args.undo c.fifth.ensures
