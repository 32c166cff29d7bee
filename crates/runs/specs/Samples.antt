-- Calls at width 8, whole runs and the stages alone, computed on the definitions: each answer with its number and place, which question comes
-- first, and what a refusal leaves. `tests/reference.c`, written from the paper alone, gives the same.
use Rattle.std.specs.Prelude.{◌≡◌, refl, Bool, true, false, List, [], ◌∷◌, ◌++◌, map, ℕ, ℤ, pos, neg_ℤ, replicate}
use Rattle.integers.specs.Floor.{round, floor_div}
use Rattle.integers.specs.Places.{tab, sum}
use Rattle.integers.specs.Vectors.{sum_of, total_of}
use Rattle.tables.specs.Widths.{by_width, half_width}
use Rattle.tables.specs.Angles.{half_turn, reflected, below_zero, signed}
use Rattle.tables.specs.Numbers.{sines, half_tangents, half_tangents8, secants, secants8, cosine_of, sine_of, half_tangent_of, secant_of}
use Rattle.steps.specs.Steps.{root_log, tangent, sine, cosine, odd_of, secant, alternate, tangent_amount, sine_amount, rotated_a, rotated_b, lower, held, top_of, bottom_of, amount1, amount2, amount3, stage1, stage2, stage3, stage4, stage5, stages, frame, unrotated_a, unrotated_b, unfolded, unstage1, unstage2, unstage3, unstage4, unstage5, interleaved, unstages}
use Rattle.runs.specs.declared.record.Run.{Run}
use Rattle.runs.specs.Answers.{placed, first_where, beyond}
use Rattle.runs.specs.Alone.{refused_at, shaped, stages_asked, stages_alone, unstages_asked, unstages_alone}
use Rattle.runs.specs.Record.{block_limit, frame_limit, zeros, record_of, next_count, next_total, zero_padded, opened, advanced, closed}
use Rattle.runs.specs.Gate.{CallResult, ask, ask_each, nothing, inside, all_yes, blocks_behind, sound, dead, admitted}
use Rattle.runs.specs.Forward.{started, frame_on, taken_in, taken, ended}
use Rattle.runs.specs.Calls.{Call, block, finish, give, made, works, frames_given, accepted, count_after, over_after, accepted_all, kept, working, blocks_of, block_at, block_before, frame_at}
use Rattle.runs.specs.Lists.{made_from, blocks_taken}
use Rattle.runs.specs.Whole.{calls_of, first_refusal, outputs, forward_one_by_one, whole_forward, parts_of, blocks_in, joined}
use Rattle.runs.specs.Back.{framed, block_on, first_upper, first_frame, later_frame, unfolded_in, undone_in, taken_back, first_held, ended_back}
use Rattle.runs.specs.WholeBack as Back
use Rattle.runs.specs.Return.{frames_of}
use Rattle.runs.specs.CallsReturn.{answers_back, outputs_back}
use Rattle.runs.specs.Totals.{record_after, record_back}
use Rattle.runs.specs.Cases.{sample, sample_output, sample_start, sample_frame0, sample_frame1}

-- a table of what is computed and what the paper says: in every row the two are the same
abbrev Said : {A : Type 0} → List (A × A) → Type 0
Said rows = map (λ row. row.0) rows ≡ map (λ row. row.1) rows

abbrev less : ℕ → ℤ
less n = neg_ℤ (pos n)

abbrev ones : ℕ → List ℤ
ones n = replicate n (pos 1)

-- the frame between two of the sample's blocks
abbrev between : List ℤ
between = pos 36 ∷ less 20 ∷ less 46 ∷ pos 0 ∷ pos 50 ∷ pos 20 ∷ less 47 ∷ less 36 ∷ []

-- frames that 9, 10 and 12 refuse
abbrev large : List ℤ
large = zeros 2 ++ less 1100000 ∷ pos 0 ∷ pos 1100000 ∷ zeros 3

abbrev beyond_fold : List ℤ
beyond_fold = pos 1048576 ∷ zeros 7

abbrev beyond_block : List ℤ
beyond_block = pos 0 ∷ pos 100000 ∷ zeros 6

-- the records after the first block, and after the first frame back
abbrev forward1 : Run
forward1 = record_of 8 1 (less 10 ∷ zeros 63) false (pos 100)

abbrev back1 : Run
back1 = record_of 8 1 (zeros 3 ++ pos 100 ∷ zeros 60) false (pos 0)

-- ---- a fresh start: 1
start-given : Said {A = (ℕ × ℕ) × Run}
    ((started 9, ((1, 0), record_of 0 0 (zeros 64) false (pos 0)))
    ∷ (started 128, ((0, 0), record_of 128 0 (zeros 64) false (pos 0)))
    ∷ [])
unfolding started opened zero_padded half_width by_width
start-given = refl

-- one more is counted where a call has worked, and the readings are added
count-given : next_count 0 7 ∷ next_count 9 7 ∷ [] ≡ 8 ∷ 7 ∷ []
unfolding next_count
count-given = refl

total-given : next_total 0 (less 7) (pos 5 ∷ less 1 ∷ []) ∷ next_total 9 (less 7) (pos 5 ∷ less 1 ∷ []) ∷ [] ≡ less 3 ∷ less 7 ∷ []
unfolding next_total sum_of
total-given = refl

-- ---- question 2, and 3 and 4 behind it
records-asked : Said {A = ℕ × ℕ}
    (((taken (opened 9 0 (pos 0) []) sample sample_output).0, (2, 0))
    ∷ ((taken (opened 8 65537 (pos 0) []) sample sample_output).0, (2, 0))
    ∷ ((taken (opened 8 1 (pos 0) (pos 50001 ∷ [])) sample sample_output).0, (2, 0))
    ∷ ((taken (opened 8 1 (pos 0) (less 50001 ∷ [])) sample sample_output).0, (2, 0))
    ∷ ((taken (opened 8 1 (pos 0) (zeros 4 ++ pos 1 ∷ [])) sample sample_output).0, (2, 0))
    ∷ ((taken (opened 8 0 (pos 0) (pos 1 ∷ [])) sample sample_output).0, (2, 0))
    ∷ ((taken (record_of 8 1 (pos 1 ∷ zeros 63) true (pos 0)) sample sample_output).0, (2, 0))
    ∷ ((taken (record_of 8 65536 (zeros 64) true (pos 0)) sample sample_output).0, (3, 0))
    ∷ ((taken (opened 8 65536 (pos 0) []) sample sample_output).0, (4, 0))
    ∷ ((taken (opened 8 1 (pos 0) (pos 50000 ∷ [])) sample sample_output).0, (0, 0))
    ∷ [])
unfolding half_width by_width first_where beyond ask ask_each nothing inside all_yes blocks_behind sound admitted sum_of zero_padded opened advanced closed started frame_on taken_in taken ended dead
records-asked = refl

-- the total that so many readings can have, by the way: count blocks forward, one less than frames back, finished or not
abbrev totalled : ℕ → ℕ → Bool → ℤ → Run
totalled N count finished total = record_of N count (zeros 64) finished total

totals-asked : Said
    ((sound block_limit (totalled 8 0 false (pos 1)), false)
    ∷ (sound block_limit (totalled 8 1 false (pos 262136)), true)
    ∷ (sound block_limit (totalled 8 1 false (pos 262137)), false)
    ∷ (sound block_limit (totalled 8 1 true (less 262136)), true)
    ∷ (sound block_limit (totalled 8 1 true (less 262137)), false)
    ∷ (sound block_limit (totalled 128 65536 false (pos 274869518336)), true)
    ∷ (sound block_limit (totalled 128 65536 false (less 9223372036854775808)), false)
    ∷ (sound frame_limit (totalled 8 0 false (less 1)), false)
    ∷ (sound frame_limit (totalled 8 1 false (pos 100)), false)
    ∷ (sound frame_limit (totalled 8 2 false (pos 262136)), true)
    ∷ (sound frame_limit (totalled 8 2 false (pos 262137)), false)
    ∷ (sound frame_limit (totalled 128 65537 true (less 274869518336)), true)
    ∷ (sound frame_limit (totalled 128 65537 true (less 274869518337)), false)
    ∷ [])
unfolding half_width by_width first_where beyond nothing inside all_yes blocks_behind sound
totals-asked = refl

-- ---- a list of calls: 6, 7, 8 and 9, each before the next; a block, and the finish, behind which 3
abbrev nine : List ℤ
nine = less 32768 ∷ zeros 8

abbrev marked : List ℤ
marked = pos 0 ∷ pos 32768 ∷ less 32768 ∷ zeros 5

abbrev out_of_range : List ℤ
out_of_range = zeros 6 ++ less 32769 ∷ pos 32768 ∷ []

abbrev list : List Call
list =
    block nine (ones 9)
    ∷ block marked (ones 7)
    ∷ block marked sample_output
    ∷ block out_of_range sample_output
    ∷ block sample sample_output
    ∷ finish (ones 7)
    ∷ block sample sample_output
    ∷ finish sample_output
    ∷ block sample sample_output
    ∷ finish sample_output
    ∷ []

list-given : map (λ m. m.given) (made_from 8 list)
    ≡ ((6, 0), sample_start, ones 9)
    ∷ ((7, 0), sample_start, ones 7)
    ∷ ((8, 2), sample_start, sample_output)
    ∷ ((9, 6), sample_start, sample_output)
    ∷ ((0, 0), forward1, sample_frame0)
    ∷ ((7, 0), forward1, ones 7)
    ∷ ((0, 0), record_of 8 2 (less 10 ∷ zeros 63) false (pos 200), between)
    ∷ ((0, 0), record_of 8 2 (zeros 64) true (pos 200), sample_frame1)
    ∷ ((3, 0), record_of 8 2 (zeros 64) true (pos 200), sample_output)
    ∷ ((3, 0), record_of 8 2 (zeros 64) true (pos 200), sample_output)
    ∷ []
unfolding made_from made give by_width half_width half_turn reflected below_zero signed sines half_tangents half_tangents8 secants secants8 cosine_of sine_of half_tangent_of secant_of round floor_div tab sum root_log tangent sine cosine odd_of secant alternate tangent_amount sine_amount rotated_a rotated_b lower held top_of bottom_of amount1 amount2 amount3 stage1 stage2 stage3 stage4 stage5 stages frame first_where beyond ask ask_each nothing inside all_yes blocks_behind sound admitted sum_of zero_padded opened advanced closed started frame_on taken_in taken ended dead
list-given = refl

-- which of them work, told from the calls alone, and the frames of the blocks among those
list-told : accepted_all 8 0 false list ≡ false ∷ false ∷ false ∷ false ∷ true ∷ false ∷ true ∷ true ∷ false ∷ false ∷ []
unfolding accepted_all accepted count_after over_after nothing all_yes first_where beyond dead
list-told = refl

-- a refused block is not counted, and behind 65,536 no block is taken
last-told : accepted_all 8 65535 false (block marked sample_output ∷ block sample sample_output ∷ block sample sample_output ∷ finish sample_output ∷ []) ≡ false ∷ true ∷ false ∷ true ∷ []
unfolding accepted_all accepted count_after over_after nothing all_yes first_where beyond dead
last-told = refl

list-frames : frames_given (made_from 8 list) ++ tab (frame_at 8 (blocks_taken 8 list)) 3 0 ≡ sample_frame0 ∷ between ∷ sample_frame1 ∷ sample_frame0 ∷ between ∷ sample_frame1 ∷ []
unfolding frames_given made_from made give works blocks_taken working kept blocks_of accepted_all accepted count_after over_after frame_at block_at block_before by_width half_width half_turn reflected below_zero signed sines half_tangents half_tangents8 secants secants8 cosine_of sine_of half_tangent_of secant_of round floor_div tab sum root_log tangent sine cosine odd_of secant alternate tangent_amount sine_amount rotated_a rotated_b lower held top_of bottom_of amount1 amount2 amount3 stage1 stage2 stage3 stage4 stage5 stages frame first_where beyond ask ask_each nothing inside all_yes blocks_behind sound admitted sum_of zero_padded opened advanced closed started frame_on taken_in taken ended dead
list-frames = refl

-- ---- frames back: 2, 4, 6, 7, 9, 10 and 11; the first frame, 12, the second
back-given : Said {A = CallResult}
    ((taken_back (opened 8 65538 (pos 0) []) sample_frame0 sample_output, ((2, 0), opened 8 65538 (pos 0) [], sample_output))
    ∷ (taken_back (opened 8 65537 (pos 0) []) sample_frame0 sample_output, ((4, 0), opened 8 65537 (pos 0) [], sample_output))
    ∷ (taken_back sample_start (zeros 9) (ones 9), ((6, 0), sample_start, ones 9))
    ∷ (taken_back sample_start large (ones 7), ((7, 0), sample_start, ones 7))
    ∷ (taken_back sample_start large sample_output, ((9, 2), sample_start, sample_output))
    ∷ (taken_back sample_start beyond_fold sample_output, ((10, 0), sample_start, sample_output))
    ∷ (taken_back sample_start sample_frame1 sample_output, ((11, 4), sample_start, sample_output))
    ∷ (taken_back sample_start sample_frame0 sample_output, ((0, 0), back1, sample_output))
    ∷ (taken_back back1 beyond_block sample_output, ((12, 5), back1, sample_output))
    ∷ (taken_back back1 sample_frame1 sample_output, ((0, 0), record_of 8 2 (zeros 64) false (pos 100), sample))
    ∷ [])
unfolding by_width half_width half_turn reflected below_zero signed sines half_tangents half_tangents8 secants secants8 cosine_of sine_of half_tangent_of secant_of round floor_div tab sum root_log tangent sine cosine odd_of secant alternate tangent_amount sine_amount unrotated_a unrotated_b unfolded amount1 amount2 amount3 unstage1 unstage2 unstage3 unstage4 unstage5 interleaved unstages first_where beyond ask ask_each nothing inside all_yes blocks_behind sound admitted sum_of zero_padded opened closed started framed block_on first_upper first_frame later_frame unfolded_in undone_in taken_back first_held ended_back
back-given = refl

-- ---- the finish back: 2, 3, 5 and 11
ends-given : Said {A = CallResult}
    ((ended_back (opened 9 0 (pos 0) []), ((2, 0), opened 9 0 (pos 0) [], []))
    ∷ (ended_back (record_of 8 0 (zeros 64) true (pos 0)), ((3, 0), record_of 8 0 (zeros 64) true (pos 0), []))
    ∷ (ended_back sample_start, ((5, 0), sample_start, []))
    ∷ (ended_back back1, ((11, 3), back1, []))
    ∷ (ended_back (opened 8 65538 (pos 0) []), ((2, 0), opened 8 65538 (pos 0) [], []))
    ∷ (ended_back (opened 8 65537 (pos 0) []), ((0, 0), record_of 8 65537 (zeros 64) true (pos 0), []))
    ∷ [])
unfolding half_width by_width first_where beyond ask ask_each nothing inside all_yes blocks_behind sound admitted sum_of zero_padded opened closed started first_held ended_back
ends-given = refl

-- ---- places through a run, with 16 numbers before: none, one of this block, one of the block before
places-given : placed 8 16 (7, 0) ∷ placed 8 16 (8, 3) ∷ placed 8 16 (12, 3) ∷ [] ≡ (7, 0) ∷ (8, 19) ∷ (12, 11) ∷ []
unfolding placed
places-given = refl

-- ---- whole runs forward: 1, 6 and 7; a place counted through the run, and nothing written; no block, and one
whole-given : Said {A = (ℕ × ℕ) × List ℤ}
    ((whole_forward 9 (zeros 9) (ones 18), ((1, 0), ones 18))
    ∷ (whole_forward 8 (zeros 9) (ones 16), ((6, 0), ones 16))
    ∷ (whole_forward 8 sample (ones 15), ((7, 0), ones 15))
    ∷ (whole_forward 8 (sample ++ zeros 3 ++ less 32768 ∷ zeros 4) (ones 24), ((8, 11), ones 24))
    ∷ (whole_forward 8 [] sample_output, ((0, 0), zeros 8))
    ∷ (whole_forward 8 sample (ones 16), ((0, 0), sample_frame0 ++ sample_frame1))
    ∷ [])
unfolding whole_forward forward_one_by_one calls_of first_refusal placed outputs works made give by_width half_width half_turn reflected below_zero signed sines half_tangents half_tangents8 secants secants8 cosine_of sine_of half_tangent_of secant_of round floor_div tab sum root_log tangent sine cosine odd_of secant alternate tangent_amount sine_amount rotated_a rotated_b lower held top_of bottom_of amount1 amount2 amount3 stage1 stage2 stage3 stage4 stage5 stages frame first_where beyond ask ask_each nothing inside all_yes blocks_behind sound admitted sum_of zero_padded opened advanced closed started frame_on taken_in taken ended dead
whole-given = refl

-- ---- whole runs back: 1, 6 and 7; places counted through the run, 12 by blocks and the finish with the last frame; one block, and two
whole-back-given : Said {A = (ℕ × ℕ) × List ℤ}
    ((Back.whole_back 9 (zeros 9) [], ((1, 0), []))
    ∷ (Back.whole_back 8 (zeros 9) (ones 1), ((6, 0), ones 1))
    ∷ (Back.whole_back 8 [] [], ((6, 0), []))
    ∷ (Back.whole_back 8 sample_frame0 (ones 1), ((7, 0), ones 1))
    ∷ (Back.whole_back 8 (sample_frame0 ++ sample_frame1) [], ((7, 0), []))
    ∷ (Back.whole_back 8 (sample_frame0 ++ sample_frame1 ++ large) (ones 16), ((9, 18), ones 16))
    ∷ (Back.whole_back 8 (sample_frame0 ++ sample_frame1 ++ beyond_block) (ones 16), ((12, 13), ones 16))
    ∷ (Back.whole_back 8 (sample_frame0 ++ between) sample_output, ((11, 11), sample_output))
    ∷ (Back.whole_back 8 (sample_frame0 ++ sample_frame1) sample_output, ((0, 0), sample))
    ∷ (Back.whole_back 8 (sample_frame0 ++ between ++ sample_frame1) (ones 16), ((0, 0), sample ++ sample))
    ∷ [])
unfolding Back.whole_back Back.back_one_by_one Back.first_answer Back.all_outputs Back.answer_from Back.outputs_from placed by_width half_width half_turn reflected below_zero signed sines half_tangents half_tangents8 secants secants8 cosine_of sine_of half_tangent_of secant_of round floor_div tab sum root_log tangent sine cosine odd_of secant alternate tangent_amount sine_amount unrotated_a unrotated_b unfolded amount1 amount2 amount3 unstage1 unstage2 unstage3 unstage4 unstage5 interleaved unstages first_where beyond ask ask_each nothing inside all_yes blocks_behind sound admitted sum_of zero_padded opened closed started framed block_on first_upper first_frame later_frame unfolded_in undone_in taken_back first_held ended_back
whole-back-given = refl

-- ---- there and back: two blocks, their frames, call by call
return-given : frames_of 8 (sample ++ sample) ∷ outputs_back sample_start (sample_frame0 ∷ between ∷ sample_frame1 ∷ []) (sample_output ∷ sample_output ∷ sample_output ∷ []) ≡ (sample_frame0 ++ between ++ sample_frame1) ∷ sample_output ∷ sample ∷ sample ∷ []
unfolding frames_of blocks_in parts_of joined frame_at block_at block_before outputs_back by_width half_width half_turn reflected below_zero signed sines half_tangents half_tangents8 secants secants8 cosine_of sine_of half_tangent_of secant_of round floor_div tab sum root_log tangent sine cosine odd_of secant alternate tangent_amount sine_amount rotated_a rotated_b lower held top_of bottom_of amount1 amount2 amount3 stage1 stage2 stage3 stage4 stage5 stages frame unrotated_a unrotated_b unfolded unstage1 unstage2 unstage3 unstage4 unstage5 interleaved unstages first_where beyond ask ask_each nothing inside all_yes blocks_behind sound admitted sum_of zero_padded opened closed started framed block_on first_upper first_frame later_frame unfolded_in undone_in taken_back first_held ended_back
return-given = refl

return-answers : answers_back sample_start (sample_frame0 ∷ between ∷ sample_frame1 ∷ []) (sample_output ∷ sample_output ∷ sample_output ∷ []) ≡ (0, 0) ∷ (0, 0) ∷ (0, 0) ∷ (0, 0) ∷ []
unfolding answers_back by_width half_width half_turn reflected below_zero signed sines half_tangents half_tangents8 secants secants8 cosine_of sine_of half_tangent_of secant_of round floor_div tab sum root_log tangent sine cosine odd_of secant alternate tangent_amount sine_amount unrotated_a unrotated_b unfolded amount1 amount2 amount3 unstage1 unstage2 unstage3 unstage4 unstage5 interleaved unstages first_where beyond ask ask_each nothing inside all_yes blocks_behind sound admitted sum_of zero_padded opened closed started framed block_on first_upper first_frame later_frame unfolded_in undone_in taken_back first_held ended_back
return-answers = refl

-- the total behind the list of calls, and behind its frames taken back
total-returned : (record_after sample_start list).total ∷ (record_back sample_start (sample_frame0 ∷ between ∷ sample_frame1 ∷ []) (sample_output ∷ sample_output ∷ sample_output ∷ [])).total ∷ total_of (sample ∷ sample ∷ []) ∷ [] ≡ pos 200 ∷ pos 200 ∷ pos 200 ∷ []
unfolding record_after record_back total_of give by_width half_width half_turn reflected below_zero signed sines half_tangents half_tangents8 secants secants8 cosine_of sine_of half_tangent_of secant_of round floor_div tab sum root_log tangent sine cosine odd_of secant alternate tangent_amount sine_amount rotated_a rotated_b lower held top_of bottom_of amount1 amount2 amount3 stage1 stage2 stage3 stage4 stage5 stages frame unrotated_a unrotated_b unfolded unstage1 unstage2 unstage3 unstage4 unstage5 interleaved unstages first_where beyond ask ask_each nothing inside all_yes blocks_behind sound admitted sum_of zero_padded opened advanced closed started frame_on taken_in taken ended dead framed block_on first_upper first_frame later_frame unfolded_in undone_in taken_back first_held ended_back
total-returned = refl

-- ---- the stages alone: 1, 6, 7, 9 and 10, and one frame both ways
alone-given : Said {A = (ℕ × ℕ) × List ℤ}
    ((stages_alone 9 (zeros 9) (ones 9), ((1, 0), ones 9))
    ∷ (stages_alone 8 (zeros 7) (ones 7), ((6, 0), ones 7))
    ∷ (stages_alone 8 (zeros 8) (ones 7), ((7, 0), ones 7))
    ∷ (stages_alone 8 (zeros 2 ++ less 50001 ∷ pos 50001 ∷ zeros 4) sample_output, ((10, 2), sample_output))
    ∷ (stages_alone 8 (zeros 3 ++ pos 100 ∷ zeros 4) sample_output, ((0, 0), sample_frame0))
    ∷ (unstages_alone 9 (zeros 9) (ones 9), ((1, 0), ones 9))
    ∷ (unstages_alone 8 large sample_output, ((9, 2), sample_output))
    ∷ (unstages_alone 8 beyond_fold sample_output, ((10, 0), sample_output))
    ∷ (unstages_alone 8 sample_frame0 sample_output, ((0, 0), zeros 3 ++ pos 100 ∷ zeros 4))
    ∷ [])
unfolding stages_alone stages_asked unstages_alone unstages_asked shaped refused_at first_where beyond by_width half_width half_turn reflected below_zero signed sines half_tangents half_tangents8 secants secants8 cosine_of sine_of half_tangent_of secant_of round floor_div tab sum root_log tangent sine cosine odd_of secant alternate tangent_amount sine_amount rotated_a rotated_b lower held top_of bottom_of amount1 amount2 amount3 stage1 stage2 stage3 stage4 stage5 stages frame unrotated_a unrotated_b unfolded unstage1 unstage2 unstage3 unstage4 unstage5 interleaved unstages
alone-given = refl
