-- What is written, and what the calls left give, is what all calls give.
use Rattle.std.proofs.Common.{◌-◌, ◌*◌, ◌/◌, pos, length}
use Rattle.runs.specs.Record.{opened}
use Rattle.runs.specs.WholeBack.{outputs_from}
use Rattle.whole_back.proofs.Giving.{Giving}
use Rattle.whole_back.proofs.whole.blocks_before.Given as goal

abbrev pub invariant-loop-i : goal.invariant-loop-i
invariant-loop-i l =
    Giving (outputs_from l.width (opened l.width 1 (pos 0) l.fn.held) (length l.frames / l.width) l.frames l.fn.readings) l.width (l.i * l.width) (length l.frames / l.width - l.i) l.frames l.readings l.held
