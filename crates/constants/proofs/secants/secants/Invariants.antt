use Rattle.std.proofs.Common.{◌+◌, ◌*◌, pos}
use Rattle.integers.proofs.Fills.{Filling}
use Rattle.tables.specs.Numbers.{secant_of}
use Rattle.constants.proofs.secants.secants.Given as goal

abbrev pub invariant-loop-k : goal.invariant-loop-k
invariant-loop-k l = Filling (λ k. secant_of l.width (pos (2 * k + 1))) l.fn.out l.k l.out
