-- Two counts are alike where their bits are.
use Rattle.std.proofs.Common.{ap, w32, of_z}
use Rattle.integers.proofs.Held.{held, same_bits}
use Rattle.integers.proofs.Sums.{alike_refl, alike-other}
use Rattle.valves.specs.Calls.{ask}
use Rattle.valve_moves.proofs.questions.of_stamp.Goals as goal

pub returns-then-count-stamp : goal.returns-then-count-stamp
unfolding ask
returns-then-count-stamp c = rw (same_bits (held w32 _ c.ranges.count) (held w32 _ c.ranges.stamp) c.if-count-stamp.true, alike_refl c.args.stamp)

pub returns : goal.returns
unfolding ask
returns c = rw (alike-other _ _ (λ z. c.if-count-stamp.false (ap (of_z w32) z)))
