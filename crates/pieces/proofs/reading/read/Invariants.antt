use Rattle.std.specs.Io.{ReadsAtMost}
use Rattle.std.specs.Io.KnownBytes.{ReadConsumes}
use Rattle.pieces.proofs.reading.read.Given as goal

abbrev pub invariant-loop : goal.invariant-loop
invariant-loop g l = record {
  bound : ReadsAtMost l.got l.buffer;
  bytes : ReadConsumes (g.R.Read.remaining l.fn.input) (g.R.Read.remaining l.input) l.got l.buffer;
}
