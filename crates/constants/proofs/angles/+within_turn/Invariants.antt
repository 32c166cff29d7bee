-- `constants::angles::within_turn` ends: the angle falls by a turn with each call.
use Rattle.constants.proofs.angles.+within_turn.Given as goal

abbrev pub decreases-within_turn : goal.decreases-within_turn
decreases-within_turn l = l.angle
