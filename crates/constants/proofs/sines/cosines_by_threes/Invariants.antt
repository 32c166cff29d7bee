use Rattle.std.proofs.Common.{◌≡◌, ◌*◌, ◌^◌, ◌%◌}
use Rattle.integers.proofs.Fills.{Filling}
use Rattle.tables.specs.Numbers.{cosine_of}
use Rattle.constants.proofs.sines.cosines_by_threes.Given as goal

abbrev pub invariant-loop-o : goal.invariant-loop-o
invariant-loop-o l = record {
  filling : Filling (λ e. cosine_of (3 ^ e * l.first)) l.fn.out l.o-index l.out;
  angle : l.j ≡ (3 ^ l.o-index * l.first) % 1024;
}
