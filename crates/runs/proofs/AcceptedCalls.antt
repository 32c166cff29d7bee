-- The calls of `specs/Lists` and of `specs/CallsReturn`, computed on the definitions: which are accepted, their answers and what they give.
use mathlib.Core.Path.{refl}
use Rattle.integers.specs.Floor.{round, floor_div}
use Rattle.integers.specs.Places.{tab, sum}
use Rattle.integers.specs.Vectors.{sum_of}
use Rattle.tables.specs.Widths.{by_width, half_width}
use Rattle.tables.specs.Angles.{half_turn, reflected, below_zero, signed}
use Rattle.tables.specs.Numbers.{sines, half_tangents, half_tangents8, secants, secants8, cosine_of, sine_of, half_tangent_of, secant_of}
use Rattle.steps.specs.Steps.{root_log, tangent, sine, cosine, odd_of, secant, alternate, tangent_amount, sine_amount, rotated_a, rotated_b, lower, held, top_of, bottom_of, amount1, amount2, amount3, stage1, stage2, stage3, stage4, stage5, stages, frame, unrotated_a, unrotated_b, unfolded, unstage1, unstage2, unstage3, unstage4, unstage5, interleaved, unstages}
use Rattle.runs.specs.Answers.{first_where, beyond}
use Rattle.runs.specs.Record.{zero_padded, opened, advanced, closed}
use Rattle.runs.specs.Gate.{ask, ask_each, nothing, inside, all_yes, blocks_behind, sound, dead, admitted}
use Rattle.runs.specs.Forward.{started, frame_on, taken_in, taken, ended}
use Rattle.runs.specs.Calls.{give, made, works, frames_given, accepted, count_after, over_after, accepted_all, over_all, kept, working, blocks_of, block_at, block_before, frame_at}
use Rattle.runs.specs.Lists.{made_from, blocks_taken, finished, AtWork}
use Rattle.runs.specs.Back.{framed, block_on, first_upper, first_frame, later_frame, unfolded_in, undone_in, taken_back, first_held, ended_back}
use Rattle.runs.specs.CallsReturn.{answers_back, outputs_back, frames_made, blocks_given, BackAtWork}

pub at-work : AtWork
unfolding made_from made give works frames_given blocks_taken finished working kept blocks_of accepted_all accepted count_after over_after over_all round floor_div tab sum by_width half_width half_turn reflected below_zero signed sines half_tangents half_tangents8 secants secants8 cosine_of sine_of half_tangent_of secant_of root_log tangent sine cosine odd_of secant alternate tangent_amount sine_amount rotated_a rotated_b lower held top_of bottom_of amount1 amount2 amount3 stage1 stage2 stage3 stage4 stage5 stages frame first_where beyond sum_of zero_padded opened advanced closed ask ask_each nothing inside all_yes blocks_behind sound dead started frame_on taken_in taken admitted ended
at-work = record { answers = refl; which-work = refl; blocks = refl; over = refl; frames = refl }

pub back-at-work : BackAtWork
unfolding frames_made frame_at block_at block_before blocks_given answers_back outputs_back by_width half_width half_turn reflected below_zero signed sines half_tangents half_tangents8 secants secants8 cosine_of sine_of half_tangent_of secant_of round floor_div tab sum root_log tangent sine cosine odd_of secant alternate tangent_amount sine_amount unrotated_a unrotated_b unfolded amount1 amount2 amount3 unstage1 unstage2 unstage3 unstage4 unstage5 interleaved unstages first_where beyond ask ask_each nothing inside all_yes blocks_behind sound admitted sum_of zero_padded opened closed started framed block_on first_upper first_frame later_frame unfolded_in undone_in taken_back first_held ended_back frame stages stage1 stage2 stage3 stage4 stage5 top_of bottom_of lower held rotated_a rotated_b
back-at-work = record { frames-made = refl; blocks-given = refl; both = refl; first_alone = refl; second-alone = refl; no-frame = refl }
