-- The ten cases marked ★, computed on the definitions.
use mathlib.Core.Path.{refl}
use Rattle.integers.specs.Floor.{round, floor_div}
use Rattle.integers.specs.Places.{tab, sum}
use Rattle.integers.specs.Vectors.{sum_of}
use Rattle.tables.specs.Widths.{by_width, half_width}
use Rattle.tables.specs.Angles.{half_turn, reflected, below_zero, signed}
use Rattle.tables.specs.Numbers.{sines, half_tangents, half_tangents8, secants, secants8, cosine_of, sine_of, half_tangent_of, secant_of}
use Rattle.steps.specs.Steps.{root_log, tangent, sine, cosine, odd_of, secant, alternate, tangent_amount, sine_amount, rotated_a, rotated_b, lower, held, top_of, bottom_of, amount1, amount2, amount3, stage1, stage2, stage3, stage4, stage5, stages, frame}
use Rattle.runs.specs.Answers.{first_where, beyond}
use Rattle.runs.specs.Record.{zero_padded, opened, advanced, closed}
use Rattle.runs.specs.Gate.{ask, ask_each, nothing, inside, all_yes, blocks_behind, sound, dead, admitted}
use Rattle.runs.specs.Forward.{started, frame_on, taken_in, taken, ended}
use Rattle.runs.specs.Cases.{cases, AsThePaperSays}

pub ten-cases : AsThePaperSays
unfolding cases round floor_div tab sum by_width half_width half_turn reflected below_zero signed sines half_tangents half_tangents8 secants secants8 cosine_of sine_of half_tangent_of secant_of root_log tangent sine cosine odd_of secant alternate tangent_amount sine_amount rotated_a rotated_b lower held top_of bottom_of amount1 amount2 amount3 stage1 stage2 stage3 stage4 stage5 stages frame first_where beyond sum_of zero_padded opened advanced closed ask ask_each nothing inside all_yes blocks_behind sound dead started frame_on taken_in taken admitted ended
ten-cases = refl
