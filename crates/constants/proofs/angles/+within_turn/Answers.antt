-- `constants::angles::within_turn` meets its contract.
use Rattle.std.proofs.Common.{sym, ◌∙◌}
use native.Mathlib.Nat.{mod-eq_of_lt, mod-eq-sub-mod}
use Rattle.constants.proofs.angles.+within_turn.Goals as goal

pub returns-then-angle-turn : goal.returns-then-angle-turn
returns-then-angle-turn t c = sym (mod-eq_of_lt c.if-angle-turn.true)

pub returns-else-angle-turn : goal.returns-else-angle-turn
returns-else-angle-turn t c = c.within_turn.ensures ∙ sym (mod-eq-sub-mod c.if-angle-turn.false)
