-- Numbers, lines and whole inputs at width 8, computed on the definitions: what is printed for each, and how each is refused. The frames
-- are those of `runs/specs/Samples`.
use Rattle.std.specs.Prelude.{◌≡◌, refl, true, false, List, [], ◌∷◌, map, ℕ, ℤ, pos, neg_ℤ, length, Option, Some, None}
use Prim.Native.String.{String}
use Rattle.std.proofs.Common.{arith}
use Rattle.integers.specs.Floor.{round, floor_div}
use Rattle.integers.specs.Places.{tab, sum}
use Rattle.integers.specs.Vectors.{sum_of, alike}
use Rattle.tables.specs.Widths.{by_width, half_width}
use Rattle.tables.specs.Angles.{half_turn, reflected, below_zero, signed}
use Rattle.tables.specs.Numbers.{sines, half_tangents, half_tangents8, secants, secants8, cosine_of, sine_of, half_tangent_of, secant_of}
use Rattle.steps.specs.Steps.{root_log, tangent, sine, cosine, odd_of, secant, alternate, tangent_amount, sine_amount, rotated_a, rotated_b, lower, held, top_of, bottom_of, amount1, amount2, amount3, stage1, stage2, stage3, stage4, stage5, stages, frame, unrotated_a, unrotated_b, unfolded, unstage1, unstage2, unstage3, unstage4, unstage5, interleaved, unstages}
use Rattle.runs.specs.Answers.{first_where, beyond}
use Rattle.runs.specs.Record.{zeros, record_of, zero_padded, opened, advanced, closed}
use Rattle.runs.specs.Gate.{ask, ask_each, nothing, inside, all_yes, blocks_behind, sound, dead, admitted}
use Rattle.runs.specs.Forward.{started, frame_on, taken_in, taken, ended}
use Rattle.runs.specs.Calls.{block_at, block_before, frame_at}
use Rattle.runs.specs.Back.{framed, block_on, first_upper, first_frame, later_frame, unfolded_in, undone_in, taken_back, first_held, ended_back}
use Rattle.text_runs.specs.declared.state.Way.{Way}
use Rattle.text_runs.specs.declared.state.Phase.{Phase}
use Rattle.text_runs.specs.declared.state.State.{State}
use Rattle.text_runs.specs.declared.state.Way.TheVariants.{Forward, Back}
use Rattle.text_runs.specs.declared.state.Phase.TheVariants.{First, Between, Ended, Over}
use Rattle.text_runs.specs.Bytes.{bytes}
use Rattle.text_runs.specs.Decimal.{spelled, decimal, printed, is_digit, all_digits, value_of, valued, leads, sized, negative, positive, signed_in, number_in, total_in, fits, bits64, all_bits}
use Rattle.text_runs.specs.Lines.{refused_tag, end_tag, behind_commas, row, end_line, refusal, longer, fields, number_in_front, all_numbers, numbers_in, up_to, same, is_count, count_and_total, end_total}
use Rattle.text_runs.specs.State.{LineResult, result_of, begun, in_phase, with_run, is_going_on, line_between, line_number, refused}
use Rattle.text_runs.specs.Way.{lent_output, taken_by, ended_by, row_line, last_line, shown_row, shown_last}
use Rattle.text_runs.specs.Line.{bad_form, width_started, width_taken, row_given, row_taken, between_by, between_taken, formed, not_formed, line_taken, total_asked, finish_given, end_in, input_ended}
use Rattle.text_runs.specs.Input as Input
use Rattle.text_runs.specs.Input.{lines_of, printed_from, printed_of}
use Rattle.text_runs.specs.Return.{row_lines, text_of, frames_made, InRange}

-- a table of what is computed and what it must be: in every row the two are the same
abbrev Said : {A : Type 0} → List (A × A) → Type 0
Said rows = map (λ row. row.0) rows ≡ map (λ row. row.1) rows

abbrev less : ℕ → ℤ
less n = neg_ℤ (pos n)

-- ---- a number, printed and read
numbers-printed : Said
    ((printed (pos 0), bytes "0")
    ∷ (printed (pos 9), bytes "9")
    ∷ (printed (pos 10), bytes "10")
    ∷ (printed (less 1), bytes "-1")
    ∷ (printed (less 30507), bytes "-30507")
    ∷ (printed (pos 2147483647), bytes "2147483647")
    ∷ (printed (less 2147483648), bytes "-2147483648")
    ∷ (printed (less 9223372036854775808), bytes "-9223372036854775808")
    ∷ (decimal 18446744073709551615, bytes "18446744073709551615")
    ∷ [])
unfolding bytes printed decimal spelled
numbers-printed = refl

numbers-read : Said
    ((number_in (bytes "0"), Some (pos 0))
    ∷ (number_in (bytes "9"), Some (pos 9))
    ∷ (number_in (bytes "-1"), Some (less 1))
    ∷ (number_in (bytes "-30507"), Some (less 30507))
    ∷ (number_in (bytes "2147483647"), Some (pos 2147483647))
    ∷ (number_in (bytes "-2147483648"), Some (less 2147483648))
    ∷ [])
unfolding bytes number_in signed_in negative positive sized leads valued value_of all_digits is_digit
numbers-read = refl

-- no numbers: nothing, a sign alone, other signs, zeros in front, minus zero, more than 32 bits, other bytes
abbrev no_numbers : List String
no_numbers = "" ∷ "-" ∷ "--1" ∷ "+1" ∷ "-0" ∷ "00" ∷ "01" ∷ "-01" ∷ "2147483648" ∷ "-2147483649" ∷ " 1" ∷ "1 " ∷ "1\r" ∷ "1/" ∷ "1:" ∷ "x" ∷ []

numbers-refused : map (λ text. number_in (bytes text)) no_numbers ≡ map (λ text. None) no_numbers
unfolding bytes number_in signed_in negative positive sized leads valued value_of all_digits is_digit
numbers-refused = refl

-- the same at 64 bits
totals-read : Said
    ((total_in (bytes "9223372036854775807"), Some (pos 9223372036854775807))
    ∷ (total_in (bytes "-9223372036854775808"), Some (less 9223372036854775808))
    ∷ [])
unfolding bytes total_in signed_in negative positive sized leads valued value_of all_digits is_digit
totals-read = refl

abbrev no_totals : List String
no_totals = "" ∷ "+1" ∷ "-0" ∷ "01" ∷ "9223372036854775808" ∷ "-9223372036854775809" ∷ []

totals-refused : map (λ text. total_in (bytes text)) no_totals ≡ map (λ text. None) no_totals
unfolding bytes total_in signed_in negative positive sized leads valued value_of all_digits is_digit
totals-refused = refl

-- digits up to a limit: at least one
digits-sized : sized 9 (bytes "") ∷ sized 9 (bytes "9") ∷ sized 9 (bytes "10") ∷ [] ≡ None ∷ Some 9 ∷ None ∷ []
unfolding bytes sized leads valued value_of all_digits is_digit
digits-sized = refl

-- both ends of 32 bits, and of 64
ends-fit : all_bits (pos 2147483647 ∷ less 2147483648 ∷ [])
unfolding all_bits fits
ends-fit = (omega arith, (omega arith, tt))

total-ends-fit : bits64 (pos 9223372036854775807) × bits64 (less 9223372036854775808)
unfolding fits
total-ends-fit = (omega arith, omega arith)

-- ---- a line: a row of numbers, the end line, a refusal
lines-printed : Said
    ((row [], bytes "")
    ∷ (row (less 7 ∷ []), bytes "-7")
    ∷ (row (pos 1 ∷ less 20 ∷ pos 0 ∷ []), bytes "1,-20,0")
    ∷ (end_line 65537 (less 20), bytes "end,65537,-20")
    ∷ (refusal 9 12 3, bytes "refused,9,12,3")
    ∷ [])
unfolding bytes behind_commas row printed decimal spelled end_line end_tag refusal refused_tag
lines-printed = refl

lines-read : Said
    ((numbers_in (bytes "-7"), Some (less 7 ∷ []))
    ∷ (numbers_in (bytes "1,-20,0"), Some (pos 1 ∷ less 20 ∷ pos 0 ∷ []))
    ∷ (numbers_in (bytes ""), None)
    ∷ (numbers_in (bytes "1,"), None)
    ∷ (numbers_in (bytes ",1"), None)
    ∷ (numbers_in (bytes "1,,2"), None)
    ∷ (numbers_in (bytes "1;2"), None)
    ∷ (numbers_in (bytes "1,x,2"), None)
    ∷ [])
unfolding bytes is_digit all_digits value_of valued leads sized negative positive signed_in number_in longer fields number_in_front all_numbers numbers_in
lines-read = refl

fields-parted : Said
    ((fields (bytes "1,,-20"), bytes "1" ∷ [] ∷ bytes "-20" ∷ [])
    ∷ (longer 49 [], bytes "1" ∷ [])
    ∷ [])
unfolding bytes fields longer
fields-parted = refl

lines-compared : same (bytes "end,1") (bytes "end,1") ∷ same (bytes "end,1") (bytes "end,2") ∷ same (bytes "end,1") (bytes "end,10") ∷ same (bytes "end,10") (bytes "end,1") ∷ []
    ≡ true ∷ false ∷ false ∷ false ∷ []
unfolding bytes same
lines-compared = refl

-- the end line behind two lines between: its total
ends_read : Said
    ((end_total 2 (bytes "end,2,100"), Some (pos 100))
    ∷ (end_total 2 (bytes "end,2,-9223372036854775808"), Some (less 9223372036854775808))
    ∷ [])
unfolding bytes end_tag same longer fields is_digit all_digits value_of valued leads sized negative positive signed_in number_in total_in is_count count_and_total end_total
ends_read = refl

-- no end lines: another tag, another count or none, no third field or a fourth, or no number of 64 bits there
abbrev no_ends : List String
no_ends = "" ∷ "end" ∷ "fnd,2,100" ∷ "end2,100" ∷ "end,1,100" ∷ "end,02,100" ∷ "end,-2,100" ∷ "end,2" ∷ "end,2," ∷ "end,2,100," ∷ "end,2,100,1" ∷ "end,2,0100" ∷ "end,2,-0" ∷ "end,2,+1" ∷ "end,2,9223372036854775808" ∷ []

ends-refused : map (λ text. end_total 2 (bytes text)) no_ends ≡ map (λ text. None) no_ends
unfolding bytes end_tag same longer fields is_digit all_digits value_of valued leads sized negative positive signed_in number_in total_in is_count count_and_total end_total
ends-refused = refl

-- ---- the state
abbrev at : Way → Phase → ℕ → State
at way phase count = record { way = way; phase = phase; run = opened 8 count (pos 0) [] }

state-begun : begun Back ≡ record { way = Back; phase = First; run = record_of 0 0 (zeros 64) false (pos 0) }
unfolding begun opened zero_padded
state-begun = refl

phases-go-on : map is_going_on (First ∷ Between ∷ Ended (pos 0) ∷ Over ∷ []) ≡ true ∷ true ∷ true ∷ false ∷ []
unfolding is_going_on
phases-go-on = refl

-- the number of the line that comes, where the first is 1
lines-counted : Said
    ((line_number First (opened 8 9 (pos 0) []), 1)
    ∷ (line_number Between (opened 8 0 (pos 0) []), 2)
    ∷ (line_number (Ended (pos 0)) (opened 8 65537 (pos 0) []), 65539)
    ∷ (line_number Over (opened 8 65538 (pos 0) []), 0)
    ∷ [])
unfolding line_number line_between opened
lines-counted = refl

lent : lent_output (opened 8 0 (pos 0) []) ∷ lent_output (opened 129 0 (pos 0) []) ∷ [] ≡ zeros 8 ∷ zeros 128 ∷ []
unfolding lent_output opened
lent = refl

-- ---- one line: the state afterwards, and what is printed
line-given : Said {A = LineResult}
    ((result_of (record { state = at Back (Ended (pos 0)) 1; text = bytes "1\n\0"; length = 2 }), (at Back (Ended (pos 0)) 1, bytes "1\n"))
    ∷ (refused (at Back Between 1) (12, 0), (at Back Over 1, bytes "refused,12,3,0\n"))
    ∷ (line_taken (begun Back) true (bytes "8"), (at Back Between 0, bytes "8\n"))
    ∷ (line_taken (at Back Between 1) true (bytes "end,1,-7"), (at Back (Ended (less 7)) 1, []))
    ∷ (line_taken (at Back Between 1) true (bytes "end,1"), (at Back Over 1, bytes "refused,13,3,0\n"))
    ∷ (line_taken (begun Back) false (bytes "8"), (record { way = Back; phase = Over; run = opened 0 0 (pos 0) [] }, bytes "refused,13,1,0\n"))
    ∷ (line_taken (at Back Between 1) false (bytes "end,1,0"), (at Back Over 1, bytes "refused,13,3,0\n"))
    ∷ (line_taken (at Back Over 1) true (bytes "x"), (at Back Over 1, []))
    ∷ (line_taken (at Back Over 1) false (bytes "x"), (at Back Over 1, []))
    ∷ (input_ended (at Back (Ended (pos 0)) 1), (record { way = Back; phase = Over; run = record_of 8 1 (zeros 64) true (pos 0) }, bytes "end,0,0\n"))
    ∷ (input_ended (at Back (Ended (less 7)) 1), (at Back Over 1, bytes "refused,16,3,0\n"))
    ∷ [])
unfolding result_of bytes spelled decimal printed is_digit all_digits value_of valued leads sized negative positive signed_in number_in total_in refused_tag end_tag behind_commas row end_line refusal longer fields number_in_front all_numbers numbers_in same is_count count_and_total end_total begun in_phase with_run line_between line_number refused lent_output taken_by ended_by row_line last_line shown_row shown_last bad_form width_started width_taken row_given row_taken between_by between_taken formed not_formed line_taken total_asked finish_given end_in input_ended alike by_width half_width first_where beyond ask ask_each nothing inside all_yes blocks_behind sound admitted zero_padded opened closed started taken_back first_held ended_back
line-given = refl

-- a line of 2,048 bytes, and of one more
line-limit : (state : State) (line : List ℕ) → (length line ≡ 2048 → line_taken state true line ≡ formed state.phase state line) × (length line ≡ 2049 → line_taken state true line ≡ not_formed state.phase state)
unfolding line_taken
line-limit state line = ((λ e. rw e), (λ e. rw e))

-- ---- whole inputs: the sample both ways, and no block
inputs-printed : Said
    ((printed_of Forward (bytes "8\n100,0,0,0,0,0,0,0\nend,1,100\n"), bytes "8\n39,-24,-48,4,50,14,-44,-33\n-3,4,2,-5,0,5,-3,-3\nend,2,100\n")
    ∷ (printed_of Back (bytes "8\n39,-24,-48,4,50,14,-44,-33\n-3,4,2,-5,0,5,-3,-3\nend,2,100\n"), bytes "8\n100,0,0,0,0,0,0,0\nend,1,100\n")
    ∷ (printed_of Forward (bytes "8\nend,0,0\n"), bytes "8\n0,0,0,0,0,0,0,0\nend,1,0\n")
    ∷ [])
unfolding bytes spelled decimal printed is_digit all_digits value_of valued leads sized negative positive signed_in number_in total_in refused_tag end_tag behind_commas row end_line refusal longer fields number_in_front all_numbers numbers_in same is_count count_and_total end_total begun in_phase with_run line_between line_number refused lent_output taken_by ended_by row_line last_line shown_row shown_last bad_form width_started width_taken row_given row_taken between_by between_taken formed not_formed line_taken total_asked finish_given end_in input_ended Input.byte_in_front lines_of printed_from printed_of by_width half_width half_turn reflected below_zero signed sines half_tangents half_tangents8 secants secants8 cosine_of sine_of half_tangent_of secant_of round floor_div tab sum sum_of alike root_log tangent sine cosine odd_of secant alternate tangent_amount sine_amount rotated_a rotated_b lower held top_of bottom_of amount1 amount2 amount3 stage1 stage2 stage3 stage4 stage5 stages frame unrotated_a unrotated_b unfolded unstage1 unstage2 unstage3 unstage4 unstage5 interleaved unstages first_where beyond ask ask_each nothing inside all_yes blocks_behind sound dead admitted zero_padded opened advanced closed started frame_on taken_in taken ended framed block_on first_upper first_frame later_frame unfolded_in undone_in taken_back first_held ended_back
inputs-printed = refl

-- refused: the width; the form, before the gate; missing text; a wrong count; no total; text left over, before the finish; behind the finish
-- another total; and nothing follows
inputs-refused : Said
    ((printed_of Forward (bytes "9\n8\n8"), bytes "refused,1,1,0\n")
    ∷ (printed_of Forward (bytes "-8\n"), bytes "refused,1,1,0\n")
    ∷ (printed_of Forward (bytes "08\n8\n"), bytes "refused,13,1,0\n")
    ∷ (printed_of Forward (bytes ""), bytes "refused,13,1,0\n")
    ∷ (printed_of Forward (bytes "8"), bytes "refused,13,1,0\n")
    ∷ (printed_of Forward (bytes "8\n0,-32768,0,0,0,0,0,0\nend,0,0\n"), bytes "8\nrefused,8,2,1\n")
    ∷ (printed_of Forward (bytes "8\n0,-32768,x\n"), bytes "8\nrefused,13,2,0\n")
    ∷ (printed_of Forward (bytes "8\n0,0\n"), bytes "8\nrefused,6,2,0\n")
    ∷ (printed_of Forward (bytes "8\n0,0,0,0,0,0,0,0"), bytes "8\nrefused,13,2,0\n")
    ∷ (printed_of Forward (bytes "8\n"), bytes "8\nrefused,13,2,0\n")
    ∷ (printed_of Forward (bytes "8\nend,1,1\n"), bytes "8\nrefused,13,2,0\n")
    ∷ (printed_of Forward (bytes "8\nend,0\n"), bytes "8\nrefused,13,2,0\n")
    ∷ (printed_of Forward (bytes "8\nend,0,1\n\n"), bytes "8\nrefused,13,2,0\n")
    ∷ (printed_of Forward (bytes "8\nend,0,0\n8"), bytes "8\nrefused,13,2,0\n")
    ∷ (printed_of Forward (bytes "8\nend,0,1\n"), bytes "8\nrefused,16,2,0\n")
    ∷ (printed_of Forward (bytes "8\n100,0,0,0,0,0,0,0\nend,1,-100\n"), bytes "8\n39,-24,-48,4,50,14,-44,-33\nrefused,16,3,0\n")
    ∷ (printed_of Back (bytes "8\n39,-24,-48,4,50,14,-44,-33\n-3,4,2,-5,0,5,-3,-3\nend,2,99\n"), bytes "8\n100,0,0,0,0,0,0,0\nrefused,16,4,0\n")
    ∷ (printed_of Back (bytes "8\nend,0,1\n"), bytes "8\nrefused,5,2,0\n")
    ∷ (printed_of Back (bytes "8\n39,-24,-48,4,50,14,-44,-33\nend,1,1\n"), bytes "8\nrefused,11,3,3\n")
    ∷ [])
unfolding bytes spelled decimal printed is_digit all_digits value_of valued leads sized negative positive signed_in number_in total_in refused_tag end_tag behind_commas row end_line refusal longer fields number_in_front all_numbers numbers_in same is_count count_and_total end_total begun in_phase with_run line_between line_number refused lent_output taken_by ended_by row_line last_line shown_row shown_last bad_form width_started width_taken row_given row_taken between_by between_taken formed not_formed line_taken total_asked finish_given end_in input_ended Input.byte_in_front lines_of printed_from printed_of by_width half_width half_turn reflected below_zero signed sines half_tangents half_tangents8 secants secants8 cosine_of sine_of half_tangent_of secant_of round floor_div tab sum sum_of alike root_log tangent sine cosine odd_of secant alternate tangent_amount sine_amount rotated_a rotated_b lower held top_of bottom_of amount1 amount2 amount3 stage1 stage2 stage3 stage4 stage5 stages frame unrotated_a unrotated_b unfolded unstage1 unstage2 unstage3 unstage4 unstage5 interleaved unstages first_where beyond ask ask_each nothing inside all_yes blocks_behind sound dead admitted zero_padded opened advanced closed started frame_on taken_in taken ended framed block_on first_upper first_frame later_frame unfolded_in undone_in taken_back first_held ended_back
inputs-refused = refl

-- ---- the text of a block and of its frames
abbrev block : List ℤ
block = pos 100 ∷ zeros 7

text-given : text_of 8 (block ∷ []) (pos 100) ∷ text_of 8 (frames_made 8 (block ∷ [])) (pos 100) ∷ []
    ≡ bytes "8\n100,0,0,0,0,0,0,0\nend,1,100\n" ∷ bytes "8\n39,-24,-48,4,50,14,-44,-33\n-3,4,2,-5,0,5,-3,-3\nend,2,100\n" ∷ []
unfolding bytes text_of row_lines frames_made frame_at block_at block_before row_line last_line behind_commas row printed decimal spelled end_line end_tag by_width half_width half_turn reflected below_zero signed sines half_tangents half_tangents8 secants secants8 cosine_of sine_of half_tangent_of secant_of round floor_div tab sum root_log tangent sine cosine odd_of secant alternate tangent_amount sine_amount rotated_a rotated_b lower held top_of bottom_of amount1 amount2 amount3 stage1 stage2 stage3 stage4 stage5 stages frame
text-given = refl

-- blocks at both ends of the range
blocks-in-range : InRange ((pos 32767 ∷ []) ∷ (less 32767 ∷ []) ∷ [])
unfolding InRange
blocks-in-range = ((omega arith, tt), ((omega arith, tt), tt))
