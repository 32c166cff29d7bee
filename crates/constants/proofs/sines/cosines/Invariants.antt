use Rattle.std.proofs.Common.{◌≡◌, ◌+◌, ◌*◌, ◌%◌}
use Rattle.integers.proofs.Fills.{Filling}
use Rattle.tables.specs.Numbers.{cosine_of}
use Rattle.constants.proofs.sines.cosines.Given as goal

abbrev pub invariant-loop-o : goal.invariant-loop-o
invariant-loop-o l = record {
  filling : Filling (λ e. cosine_of (l.first + e * l.step)) l.fn.out l.o-index l.out;
  angle : l.j ≡ (l.first + l.o-index * l.step) % 1024;
}
