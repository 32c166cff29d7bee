use Rattle.std.proofs.Common.{neg_ℤ}
use Rattle.integers.proofs.Fills.{Filling}
use Rattle.tables.specs.Numbers.{half_tangent_of}
use Rattle.constants.proofs.tangents.half_tangents.Given as goal

abbrev pub invariant-loop-m : goal.invariant-loop-m
invariant-loop-m l = Filling (λ m. neg_ℤ (half_tangent_of l.width m)) l.fn.out l.m l.out
