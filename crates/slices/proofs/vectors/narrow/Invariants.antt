use Rattle.std.proofs.Common.{◌≡◌, ◌-◌, ◌%◌, ◌≤◌, length}
use Rattle.integers.specs.Places.{at}
use Rattle.integers.proofs.Fills.{Filling}
use Rattle.slices.proofs.vectors.narrow.Given as goal

abbrev pub invariant-loop-i : goal.invariant-loop-i
invariant-loop-i l = record { whole : l.i % 4 ≡ 0; in_range : l.i ≤ length l.fn.out; filling : Filling (at l.x) l.fn.out l.i l.out }

abbrev pub decreases-loop-i : goal.decreases-loop-i
decreases-loop-i l = length l.initial.out - l.i
