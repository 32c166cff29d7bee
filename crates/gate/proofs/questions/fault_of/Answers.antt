use Rattle.std.proofs.Common.{sym}
use Rattle.gate.proofs.BlockLaws.{range_clear}
use Rattle.gate.proofs.questions.fault_of.Goals as goal

pub returns-then-in_range : goal.returns-then-in_range
returns-then-in_range c = range_clear _ (sym c.if-in_range.ensures)
