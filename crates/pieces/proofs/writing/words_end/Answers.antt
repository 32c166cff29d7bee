use Rattle.std.proofs.Common.{arith}
use Rattle.text_runs.proofs.UpToLaws.{part_length}
use Rattle.pieces.proofs.writing.words_end.Goals as goal

pub returns : goal.returns
returns c = omega (arith, c.end_of-number.ensures, part_length 40 c.args.text.now, c.saturating_sub.ensures)
