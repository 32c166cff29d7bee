-- 64 bits have at most 20 digits.
use Rattle.std.proofs.Common.{arith}
use Rattle.text_runs.proofs.DecimalLaws.{decimal-within}
use Rattle.decimal.proofs.PutLaws.{put_then}
use Rattle.decimal.proofs.print.next_natural.Goals as goal

pub natural-requires : goal.natural-requires
natural-requires c = omega (arith, c.bytes-m.ensures.count, decimal-within c.args.n)

pub returns : goal.returns
returns c = (put_then c.bytes-m.ensures c.natural.ensures, omega (arith, c.bytes-m.ensures.count, c.natural.ensures.count, decimal-within c.args.n))
