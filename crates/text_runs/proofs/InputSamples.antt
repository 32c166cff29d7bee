-- Inputs at width 8 that are refused, computed on the definitions: what was read before, and what is printed.
use Rattle.std.specs.Prelude.{◌≡◌, refl, List, [], ◌∷◌, ◌++◌, ℕ, ◌≤◌, ℤ, pos, neg_ℤ, replicate}
use Rattle.std.proofs.Common.{sym, ◌∙◌, inr, arith}
use Rattle.integers.specs.Floor.{round, floor_div}
use Rattle.integers.specs.Places.{tab, sum}
use Rattle.integers.specs.Vectors.{sum_of, alike}
use Rattle.tables.specs.Widths.{by_width, half_width}
use Rattle.tables.specs.Angles.{half_turn, reflected, below_zero, signed}
use Rattle.tables.specs.Numbers.{sines, half_tangents, half_tangents8, secants, secants8, cosine_of, sine_of, half_tangent_of, secant_of}
use Rattle.steps.specs.Steps.{root_log, tangent, sine, cosine, odd_of, secant, alternate, tangent_amount, sine_amount, rotated_a, rotated_b, lower, held, top_of, bottom_of, amount1, amount2, amount3, stage1, stage2, stage3, stage4, stage5, stages, frame, unrotated_a, unrotated_b, unfolded, unstage1, unstage2, unstage3, unstage4, unstage5, interleaved, unstages}
use Rattle.runs.specs.Answers.{first_where, beyond}
use Rattle.runs.specs.Record.{zero_padded, opened, advanced, closed}
use Rattle.runs.specs.Gate.{ask, ask_each, nothing, inside, all_yes, blocks_behind, sound, dead, admitted}
use Rattle.runs.specs.Forward.{started, frame_on, taken_in, taken, ended}
use Rattle.runs.specs.Calls.{block_at, block_before, frame_at}
use Rattle.runs.specs.Back.{framed, block_on, first_upper, first_frame, later_frame, unfolded_in, undone_in, taken_back, first_held, ended_back}
use Rattle.text_runs.specs.declared.state.Way.TheVariants.{Forward, Back}
use Rattle.text_runs.specs.Bytes.{bytes}
use Rattle.text_runs.specs.Decimal.{spelled, decimal, printed, is_digit, all_digits, value_of, valued, leads, sized, negative, positive, signed_in, number_in, total_in}
use Rattle.text_runs.specs.Lines.{refused_tag, end_tag, behind_commas, row, end_line, refusal, longer, fields, number_in_front, all_numbers, numbers_in, same, is_count, count_and_total, end_total}
use Rattle.text_runs.specs.State.{begun, in_phase, with_run, line_between, line_number, refused}
use Rattle.text_runs.specs.Way.{lent_output, taken_by, ended_by, row_line, last_line, shown_row, shown_last}
use Rattle.text_runs.specs.Line.{bad_form, width_started, width_taken, row_given, row_taken, between_by, between_taken, formed, not_formed, line_taken, total_asked, finish_given, end_in, input_ended}
use Rattle.text_runs.specs.Input as Input
use Rattle.text_runs.specs.Input.{lines_of, printed_from, printed_of}
use Rattle.text_runs.specs.Return.{row_lines, text_of, frames_made, InRange}
use Rattle.text_runs.specs.EveryInput.{Blocks, RefusedFirst, RefusedBehind, ReadBefore, first_lines, refusal_line, rows_shown, refusal_numbers, among}

abbrev less : ℕ → ℤ
less n = neg_ℤ (pos n)

-- the width, of a wrong form
width-refused : RefusedFirst Forward (bytes "08\n8\n")
unfolding bytes spelled decimal printed is_digit all_digits value_of valued leads sized negative positive signed_in number_in total_in refused_tag end_tag behind_commas row end_line refusal longer fields number_in_front all_numbers numbers_in same is_count count_and_total end_total begun in_phase with_run line_between line_number refused lent_output taken_by ended_by row_line last_line shown_row shown_last bad_form width_started width_taken row_given row_taken between_by between_taken formed not_formed line_taken total_asked finish_given end_in input_ended Input.byte_in_front lines_of printed_from printed_of row_lines text_of frames_made first_lines refusal_line rows_shown by_width half_width half_turn reflected below_zero signed sines half_tangents half_tangents8 secants secants8 cosine_of sine_of half_tangent_of secant_of round floor_div tab sum sum_of alike root_log tangent sine cosine odd_of secant alternate tangent_amount sine_amount rotated_a rotated_b lower held top_of bottom_of amount1 amount2 amount3 stage1 stage2 stage3 stage4 stage5 stages frame unrotated_a unrotated_b unfolded unstage1 unstage2 unstage3 unstage4 unstage5 interleaved unstages first_where beyond ask ask_each nothing inside all_yes blocks_behind sound dead admitted zero_padded opened advanced closed started frame_on taken_in taken ended block_at block_before frame_at framed block_on first_upper first_frame later_frame unfolded_in undone_in taken_back first_held ended_back InRange ReadBefore
width-refused = record { number = 13; numbered = inr refl; printed-is = refl }

abbrev ones : ℕ → List ℤ
ones n = replicate 8 (pos n)

-- blocks of one number
one_block : (n : ℕ) → n ≤ 32767 → Blocks 8 (ones n ∷ [])
unfolding InRange half_width by_width
one_block n h = record { wide = omega arith; rows = (refl, tt); within = ((h, (h, (h, (h, (h, (h, (h, (h, tt)))))))), tt); few = omega arith }

-- ---- forward: the third block is out of range, and two frames stand
two_blocks : Blocks 8 (ones 1 ∷ ones 2 ∷ [])
unfolding InRange
two_blocks =
    let one = one_block 1 (omega arith) in
    record { wide = one.wide; rows = (refl, (refl, tt)); within = (one.within.0, (one_block 2 (omega arith)).within); few = omega arith }

-- the input, and all that is printed
abbrev block_input : List ℕ
block_input = bytes "8\n1,1,1,1,1,1,1,1\n2,2,2,2,2,2,2,2\n0,0,0,0,0,0,0,32768\n"

abbrev block_printed : List ℕ
block_printed = bytes "8\n2,1,0,0,0,1,0,0\n5,0,-1,0,2,1,1,0\nrefused,9,4,7\n"

block-printed : printed_of Forward block_input ≡ block_printed
unfolding bytes spelled decimal printed is_digit all_digits value_of valued leads sized negative positive signed_in number_in total_in refused_tag end_tag behind_commas row end_line refusal longer fields number_in_front all_numbers numbers_in same is_count count_and_total end_total begun in_phase with_run line_between line_number refused lent_output taken_by ended_by row_line last_line shown_row shown_last bad_form width_started width_taken row_given row_taken between_by between_taken formed not_formed line_taken total_asked finish_given end_in input_ended Input.byte_in_front lines_of printed_from printed_of row_lines text_of frames_made first_lines refusal_line rows_shown by_width half_width half_turn reflected below_zero signed sines half_tangents half_tangents8 secants secants8 cosine_of sine_of half_tangent_of secant_of round floor_div tab sum sum_of alike root_log tangent sine cosine odd_of secant alternate tangent_amount sine_amount rotated_a rotated_b lower held top_of bottom_of amount1 amount2 amount3 stage1 stage2 stage3 stage4 stage5 stages frame unrotated_a unrotated_b unfolded unstage1 unstage2 unstage3 unstage4 unstage5 interleaved unstages first_where beyond ask ask_each nothing inside all_yes blocks_behind sound dead admitted zero_padded opened advanced closed started frame_on taken_in taken ended block_at block_before frame_at framed block_on first_upper first_frame later_frame unfolded_in undone_in taken_back first_held ended_back InRange ReadBefore
block-printed = refl

block-lines : first_lines 2 8 (rows_shown Forward 8 (ones 1 ∷ ones 2 ∷ [])) ++ refusal_line 9 4 7 ≡ block_printed
unfolding bytes spelled decimal printed is_digit all_digits value_of valued leads sized negative positive signed_in number_in total_in refused_tag end_tag behind_commas row end_line refusal longer fields number_in_front all_numbers numbers_in same is_count count_and_total end_total begun in_phase with_run line_between line_number refused lent_output taken_by ended_by row_line last_line shown_row shown_last bad_form width_started width_taken row_given row_taken between_by between_taken formed not_formed line_taken total_asked finish_given end_in input_ended Input.byte_in_front lines_of printed_from printed_of row_lines text_of frames_made first_lines refusal_line rows_shown by_width half_width half_turn reflected below_zero signed sines half_tangents half_tangents8 secants secants8 cosine_of sine_of half_tangent_of secant_of round floor_div tab sum sum_of alike root_log tangent sine cosine odd_of secant alternate tangent_amount sine_amount rotated_a rotated_b lower held top_of bottom_of amount1 amount2 amount3 stage1 stage2 stage3 stage4 stage5 stages frame unrotated_a unrotated_b unfolded unstage1 unstage2 unstage3 unstage4 unstage5 interleaved unstages first_where beyond ask ask_each nothing inside all_yes blocks_behind sound dead admitted zero_padded opened advanced closed started frame_on taken_in taken ended block_at block_before frame_at framed block_on first_upper first_frame later_frame unfolded_in undone_in taken_back first_held ended_back InRange ReadBefore
block-lines = refl

block_refused : RefusedBehind Forward block_input
unfolding bytes first_lines row_lines row_line row behind_commas printed decimal spelled ReadBefore refusal_numbers among
block_refused = record {
  width = 8;
  rows = ones 1 ∷ ones 2 ∷ [];
  blocks = ones 1 ∷ ones 2 ∷ [];
  rest = bytes "0,0,0,0,0,0,0,32768\n";
  number = 9;
  place = 7;
  run = two_blocks;
  before = refl;
  input-is = refl;
  numbered = refl;
  placed = omega arith;
  printed-is = block-printed ∙ sym block-lines;
}

-- ---- back: the block behind the third frame is out of range; of two frames one block stands
abbrev frame_input : List ℕ
frame_input = bytes "8\n76031,29691,-10426,-10426,6966,6967,-5906,-5906\n22555,-35596,3459,17392,3459,-17393,-23786,-10744\n-5906,5906,6965,-6966,-10427,10426,29690,-76030\nend,3,524272\n"

abbrev frame_printed : List ℕ
frame_printed = bytes "8\n32767,32767,32767,32767,32767,32767,32767,32767\nrefused,12,4,2\n"

abbrev frames_read : List (List ℤ)
frames_read =
    (pos 76031 ∷ pos 29691 ∷ less 10426 ∷ less 10426 ∷ pos 6966 ∷ pos 6967 ∷ less 5906 ∷ less 5906 ∷ [])
    ∷ (pos 22555 ∷ less 35596 ∷ pos 3459 ∷ pos 17392 ∷ pos 3459 ∷ less 17393 ∷ less 23786 ∷ less 10744 ∷ [])
    ∷ []

frame-printed : printed_of Back frame_input ≡ frame_printed
unfolding bytes spelled decimal printed is_digit all_digits value_of valued leads sized negative positive signed_in number_in total_in refused_tag end_tag behind_commas row end_line refusal longer fields number_in_front all_numbers numbers_in same is_count count_and_total end_total begun in_phase with_run line_between line_number refused lent_output taken_by ended_by row_line last_line shown_row shown_last bad_form width_started width_taken row_given row_taken between_by between_taken formed not_formed line_taken total_asked finish_given end_in input_ended Input.byte_in_front lines_of printed_from printed_of row_lines text_of frames_made first_lines refusal_line rows_shown by_width half_width half_turn reflected below_zero signed sines half_tangents half_tangents8 secants secants8 cosine_of sine_of half_tangent_of secant_of round floor_div tab sum sum_of alike root_log tangent sine cosine odd_of secant alternate tangent_amount sine_amount rotated_a rotated_b lower held top_of bottom_of amount1 amount2 amount3 stage1 stage2 stage3 stage4 stage5 stages frame unrotated_a unrotated_b unfolded unstage1 unstage2 unstage3 unstage4 unstage5 interleaved unstages first_where beyond ask ask_each nothing inside all_yes blocks_behind sound dead admitted zero_padded opened advanced closed started frame_on taken_in taken ended block_at block_before frame_at framed block_on first_upper first_frame later_frame unfolded_in undone_in taken_back first_held ended_back InRange ReadBefore
frame-printed = refl

frame-lines : first_lines 1 8 (rows_shown Back 8 (ones 32767 ∷ [])) ++ refusal_line 12 4 2 ≡ frame_printed
unfolding bytes spelled decimal printed is_digit all_digits value_of valued leads sized negative positive signed_in number_in total_in refused_tag end_tag behind_commas row end_line refusal longer fields number_in_front all_numbers numbers_in same is_count count_and_total end_total begun in_phase with_run line_between line_number refused lent_output taken_by ended_by row_line last_line shown_row shown_last bad_form width_started width_taken row_given row_taken between_by between_taken formed not_formed line_taken total_asked finish_given end_in input_ended Input.byte_in_front lines_of printed_from printed_of row_lines text_of frames_made first_lines refusal_line rows_shown by_width half_width half_turn reflected below_zero signed sines half_tangents half_tangents8 secants secants8 cosine_of sine_of half_tangent_of secant_of round floor_div tab sum sum_of alike root_log tangent sine cosine odd_of secant alternate tangent_amount sine_amount rotated_a rotated_b lower held top_of bottom_of amount1 amount2 amount3 stage1 stage2 stage3 stage4 stage5 stages frame unrotated_a unrotated_b unfolded unstage1 unstage2 unstage3 unstage4 unstage5 interleaved unstages first_where beyond ask ask_each nothing inside all_yes blocks_behind sound dead admitted zero_padded opened advanced closed started frame_on taken_in taken ended block_at block_before frame_at framed block_on first_upper first_frame later_frame unfolded_in undone_in taken_back first_held ended_back InRange ReadBefore
frame-lines = refl

frames-before : ReadBefore Back 8 frames_read (ones 32767 ∷ [])
unfolding bytes spelled decimal printed is_digit all_digits value_of valued leads sized negative positive signed_in number_in total_in refused_tag end_tag behind_commas row end_line refusal longer fields number_in_front all_numbers numbers_in same is_count count_and_total end_total begun in_phase with_run line_between line_number refused lent_output taken_by ended_by row_line last_line shown_row shown_last bad_form width_started width_taken row_given row_taken between_by between_taken formed not_formed line_taken total_asked finish_given end_in input_ended Input.byte_in_front lines_of printed_from printed_of row_lines text_of frames_made first_lines refusal_line rows_shown by_width half_width half_turn reflected below_zero signed sines half_tangents half_tangents8 secants secants8 cosine_of sine_of half_tangent_of secant_of round floor_div tab sum sum_of alike root_log tangent sine cosine odd_of secant alternate tangent_amount sine_amount rotated_a rotated_b lower held top_of bottom_of amount1 amount2 amount3 stage1 stage2 stage3 stage4 stage5 stages frame unrotated_a unrotated_b unfolded unstage1 unstage2 unstage3 unstage4 unstage5 interleaved unstages first_where beyond ask ask_each nothing inside all_yes blocks_behind sound dead admitted zero_padded opened advanced closed started frame_on taken_in taken ended block_at block_before frame_at framed block_on first_upper first_frame later_frame unfolded_in undone_in taken_back first_held ended_back InRange ReadBefore
frames-before = (refl, refl)

frame_refused : RefusedBehind Back frame_input
unfolding bytes first_lines row_lines row_line row behind_commas printed decimal spelled refusal_numbers among
frame_refused = record {
  width = 8;
  rows = frames_read;
  blocks = ones 32767 ∷ [];
  rest = bytes "-5906,5906,6965,-6966,-10427,10426,29690,-76030\nend,3,524272\n";
  number = 12;
  place = 2;
  run = one_block 32767 (omega arith);
  before = frames-before;
  input-is = refl;
  numbered = refl;
  placed = omega arith;
  printed-is = frame-printed ∙ sym frame-lines;
}

-- ---- named by the end line: a line left over behind it, forward; back, the last frame lost, so that the finish is refused
abbrev left_input : List ℕ
left_input = bytes "8\n1,1,1,1,1,1,1,1\nend,1,8\n8\n"

abbrev left_printed : List ℕ
left_printed = bytes "8\n2,1,0,0,0,1,0,0\nrefused,13,3,0\n"

left-printed : printed_of Forward left_input ≡ left_printed
unfolding bytes spelled decimal printed is_digit all_digits value_of valued leads sized negative positive signed_in number_in total_in refused_tag end_tag behind_commas row end_line refusal longer fields number_in_front all_numbers numbers_in same is_count count_and_total end_total begun in_phase with_run line_between line_number refused lent_output taken_by ended_by row_line last_line shown_row shown_last bad_form width_started width_taken row_given row_taken between_by between_taken formed not_formed line_taken total_asked finish_given end_in input_ended Input.byte_in_front lines_of printed_from printed_of row_lines text_of frames_made first_lines refusal_line rows_shown by_width half_width half_turn reflected below_zero signed sines half_tangents half_tangents8 secants secants8 cosine_of sine_of half_tangent_of secant_of round floor_div tab sum sum_of alike root_log tangent sine cosine odd_of secant alternate tangent_amount sine_amount rotated_a rotated_b lower held top_of bottom_of amount1 amount2 amount3 stage1 stage2 stage3 stage4 stage5 stages frame unrotated_a unrotated_b unfolded unstage1 unstage2 unstage3 unstage4 unstage5 interleaved unstages first_where beyond ask ask_each nothing inside all_yes blocks_behind sound dead admitted zero_padded opened advanced closed started frame_on taken_in taken ended block_at block_before frame_at framed block_on first_upper first_frame later_frame unfolded_in undone_in taken_back first_held ended_back InRange ReadBefore
left-printed = refl

left-lines : first_lines 1 8 (rows_shown Forward 8 (ones 1 ∷ [])) ++ refusal_line 13 3 0 ≡ left_printed
unfolding bytes spelled decimal printed is_digit all_digits value_of valued leads sized negative positive signed_in number_in total_in refused_tag end_tag behind_commas row end_line refusal longer fields number_in_front all_numbers numbers_in same is_count count_and_total end_total begun in_phase with_run line_between line_number refused lent_output taken_by ended_by row_line last_line shown_row shown_last bad_form width_started width_taken row_given row_taken between_by between_taken formed not_formed line_taken total_asked finish_given end_in input_ended Input.byte_in_front lines_of printed_from printed_of row_lines text_of frames_made first_lines refusal_line rows_shown by_width half_width half_turn reflected below_zero signed sines half_tangents half_tangents8 secants secants8 cosine_of sine_of half_tangent_of secant_of round floor_div tab sum sum_of alike root_log tangent sine cosine odd_of secant alternate tangent_amount sine_amount rotated_a rotated_b lower held top_of bottom_of amount1 amount2 amount3 stage1 stage2 stage3 stage4 stage5 stages frame unrotated_a unrotated_b unfolded unstage1 unstage2 unstage3 unstage4 unstage5 interleaved unstages first_where beyond ask ask_each nothing inside all_yes blocks_behind sound dead admitted zero_padded opened advanced closed started frame_on taken_in taken ended block_at block_before frame_at framed block_on first_upper first_frame later_frame unfolded_in undone_in taken_back first_held ended_back InRange ReadBefore
left-lines = refl

left-refused : RefusedBehind Forward left_input
unfolding bytes first_lines row_lines row_line row behind_commas printed decimal spelled ReadBefore refusal_numbers among
left-refused = record {
  width = 8;
  rows = ones 1 ∷ [];
  blocks = ones 1 ∷ [];
  rest = bytes "end,1,8\n8\n";
  number = 13;
  place = 0;
  run = one_block 1 (omega arith);
  before = refl;
  input-is = refl;
  numbered = refl;
  placed = omega arith;
  printed-is = left-printed ∙ sym left-lines;
}

abbrev lost_input : List ℕ
lost_input = bytes "8\n39,-24,-48,4,50,14,-44,-33\nend,1,100\n"

abbrev lost_printed : List ℕ
lost_printed = bytes "8\nrefused,11,3,3\n"

lost-printed : printed_of Back lost_input ≡ lost_printed
unfolding bytes spelled decimal printed is_digit all_digits value_of valued leads sized negative positive signed_in number_in total_in refused_tag end_tag behind_commas row end_line refusal longer fields number_in_front all_numbers numbers_in same is_count count_and_total end_total begun in_phase with_run line_between line_number refused lent_output taken_by ended_by row_line last_line shown_row shown_last bad_form width_started width_taken row_given row_taken between_by between_taken formed not_formed line_taken total_asked finish_given end_in input_ended Input.byte_in_front lines_of printed_from printed_of row_lines text_of frames_made first_lines refusal_line rows_shown by_width half_width half_turn reflected below_zero signed sines half_tangents half_tangents8 secants secants8 cosine_of sine_of half_tangent_of secant_of round floor_div tab sum sum_of alike root_log tangent sine cosine odd_of secant alternate tangent_amount sine_amount rotated_a rotated_b lower held top_of bottom_of amount1 amount2 amount3 stage1 stage2 stage3 stage4 stage5 stages frame unrotated_a unrotated_b unfolded unstage1 unstage2 unstage3 unstage4 unstage5 interleaved unstages first_where beyond ask ask_each nothing inside all_yes blocks_behind sound dead admitted zero_padded opened advanced closed started frame_on taken_in taken ended block_at block_before frame_at framed block_on first_upper first_frame later_frame unfolded_in undone_in taken_back first_held ended_back InRange ReadBefore
lost-printed = refl

lost-lines : first_lines 0 8 (rows_shown Back 8 []) ++ refusal_line 11 3 3 ≡ lost_printed
unfolding bytes spelled decimal printed is_digit all_digits value_of valued leads sized negative positive signed_in number_in total_in refused_tag end_tag behind_commas row end_line refusal longer fields number_in_front all_numbers numbers_in same is_count count_and_total end_total begun in_phase with_run line_between line_number refused lent_output taken_by ended_by row_line last_line shown_row shown_last bad_form width_started width_taken row_given row_taken between_by between_taken formed not_formed line_taken total_asked finish_given end_in input_ended Input.byte_in_front lines_of printed_from printed_of row_lines text_of frames_made first_lines refusal_line rows_shown by_width half_width half_turn reflected below_zero signed sines half_tangents half_tangents8 secants secants8 cosine_of sine_of half_tangent_of secant_of round floor_div tab sum sum_of alike root_log tangent sine cosine odd_of secant alternate tangent_amount sine_amount rotated_a rotated_b lower held top_of bottom_of amount1 amount2 amount3 stage1 stage2 stage3 stage4 stage5 stages frame unrotated_a unrotated_b unfolded unstage1 unstage2 unstage3 unstage4 unstage5 interleaved unstages first_where beyond ask ask_each nothing inside all_yes blocks_behind sound dead admitted zero_padded opened advanced closed started frame_on taken_in taken ended block_at block_before frame_at framed block_on first_upper first_frame later_frame unfolded_in undone_in taken_back first_held ended_back InRange ReadBefore
lost-lines = refl

lost-refused : RefusedBehind Back lost_input
unfolding bytes first_lines row_lines row_line row behind_commas printed decimal spelled ReadBefore refusal_numbers among InRange
lost-refused = record {
  width = 8;
  rows = (pos 39 ∷ less 24 ∷ less 48 ∷ pos 4 ∷ pos 50 ∷ pos 14 ∷ less 44 ∷ less 33 ∷ []) ∷ [];
  blocks = [];
  rest = bytes "end,1,100\n";
  number = 11;
  place = 3;
  run = record { wide = (one_block 0 (omega arith)).wide; rows = tt; within = tt; few = omega arith };
  before = (refl, refl);
  input-is = refl;
  numbered = refl;
  placed = omega arith;
  printed-is = lost-printed ∙ sym lost-lines;
}

-- ---- another total: forward the last frame is not printed
abbrev other_input : List ℕ
other_input = bytes "8\n1,1,1,1,1,1,1,1\nend,1,9\n"

abbrev other_printed : List ℕ
other_printed = bytes "8\n2,1,0,0,0,1,0,0\nrefused,16,3,0\n"

other-printed : printed_of Forward other_input ≡ other_printed
unfolding bytes spelled decimal printed is_digit all_digits value_of valued leads sized negative positive signed_in number_in total_in refused_tag end_tag behind_commas row end_line refusal longer fields number_in_front all_numbers numbers_in same is_count count_and_total end_total begun in_phase with_run line_between line_number refused lent_output taken_by ended_by row_line last_line shown_row shown_last bad_form width_started width_taken row_given row_taken between_by between_taken formed not_formed line_taken total_asked finish_given end_in input_ended Input.byte_in_front lines_of printed_from printed_of row_lines text_of frames_made first_lines refusal_line rows_shown by_width half_width half_turn reflected below_zero signed sines half_tangents half_tangents8 secants secants8 cosine_of sine_of half_tangent_of secant_of round floor_div tab sum sum_of alike root_log tangent sine cosine odd_of secant alternate tangent_amount sine_amount rotated_a rotated_b lower held top_of bottom_of amount1 amount2 amount3 stage1 stage2 stage3 stage4 stage5 stages frame unrotated_a unrotated_b unfolded unstage1 unstage2 unstage3 unstage4 unstage5 interleaved unstages first_where beyond ask ask_each nothing inside all_yes blocks_behind sound dead admitted zero_padded opened advanced closed started frame_on taken_in taken ended block_at block_before frame_at framed block_on first_upper first_frame later_frame unfolded_in undone_in taken_back first_held ended_back InRange ReadBefore
other-printed = refl

other-lines : first_lines 1 8 (rows_shown Forward 8 (ones 1 ∷ [])) ++ refusal_line 16 3 0 ≡ other_printed
unfolding bytes spelled decimal printed is_digit all_digits value_of valued leads sized negative positive signed_in number_in total_in refused_tag end_tag behind_commas row end_line refusal longer fields number_in_front all_numbers numbers_in same is_count count_and_total end_total begun in_phase with_run line_between line_number refused lent_output taken_by ended_by row_line last_line shown_row shown_last bad_form width_started width_taken row_given row_taken between_by between_taken formed not_formed line_taken total_asked finish_given end_in input_ended Input.byte_in_front lines_of printed_from printed_of row_lines text_of frames_made first_lines refusal_line rows_shown by_width half_width half_turn reflected below_zero signed sines half_tangents half_tangents8 secants secants8 cosine_of sine_of half_tangent_of secant_of round floor_div tab sum sum_of alike root_log tangent sine cosine odd_of secant alternate tangent_amount sine_amount rotated_a rotated_b lower held top_of bottom_of amount1 amount2 amount3 stage1 stage2 stage3 stage4 stage5 stages frame unrotated_a unrotated_b unfolded unstage1 unstage2 unstage3 unstage4 unstage5 interleaved unstages first_where beyond ask ask_each nothing inside all_yes blocks_behind sound dead admitted zero_padded opened advanced closed started frame_on taken_in taken ended block_at block_before frame_at framed block_on first_upper first_frame later_frame unfolded_in undone_in taken_back first_held ended_back InRange ReadBefore
other-lines = refl

other-refused : RefusedBehind Forward other_input
unfolding bytes first_lines row_lines row_line row behind_commas printed decimal spelled ReadBefore refusal_numbers among
other-refused = record {
  width = 8;
  rows = ones 1 ∷ [];
  blocks = ones 1 ∷ [];
  rest = bytes "end,1,9\n";
  number = 16;
  place = 0;
  run = one_block 1 (omega arith);
  before = refl;
  input-is = refl;
  numbered = refl;
  placed = omega arith;
  printed-is = other-printed ∙ sym other-lines;
}
