-- Records as numbers, and the calls at width 8, computed on the definitions: what each call tells, what it leaves of the record's numbers and
-- of the output. `tests/reference.c`, written from the paper alone, gives the same frames and blocks.
use Rattle.std.specs.Prelude.{◌≡◌, refl, Bool, true, false, List, [], ◌∷◌, ◌++◌, map, ℕ, ℤ, pos, neg_ℤ, replicate}
use Rattle.integers.specs.Floor.{round, floor_div}
use Rattle.integers.specs.Places.{tab, sum}
use Rattle.integers.specs.Vectors.{sum_of}
use Rattle.tables.specs.Widths.{by_width, half_width}
use Rattle.tables.specs.Angles.{half_turn, reflected, below_zero, signed}
use Rattle.tables.specs.Numbers.{sines, half_tangents, half_tangents8, secants, secants8, cosine_of, sine_of, half_tangent_of, secant_of}
use Rattle.steps.specs.Steps.{root_log, tangent, sine, cosine, odd_of, secant, alternate, tangent_amount, sine_amount, rotated_a, rotated_b, lower, held, top_of, bottom_of, amount1, amount2, amount3, stage1, stage2, stage3, stage4, stage5, stages, frame, unrotated_a, unrotated_b, unfolded, unstage1, unstage2, unstage3, unstage4, unstage5, interleaved, unstages}
use Rattle.runs.specs.declared.record.Run.{Run}
use Rattle.runs.specs.Answers.{first_where, beyond}
use Rattle.runs.specs.Record.{zeros, record_of, zero_padded, opened, advanced, closed}
use Rattle.runs.specs.Gate.{ask, ask_each, nothing, inside, all_yes, blocks_behind, sound, dead, admitted}
use Rattle.runs.specs.Forward.{started, frame_on, taken_in, taken, ended}
use Rattle.runs.specs.Back.{framed, block_on, first_upper, first_frame, later_frame, unfolded_in, undone_in, taken_back, first_held, ended_back}
use Rattle.runs.specs.Cases.{sample, sample_output}
use Rattle.c_record.specs.Record.{packed, is_record, unpacked}
use Rattle.c_record.specs.Calls.{PackedResult, numbers_after, handed_to_c, lapped_start, lapped_take, lapped_finish, lapped_back_take, lapped_back_finish}

-- a table of what is computed and what the paper says: in every row the two are the same
abbrev Said : {A : Type 0} → List (A × A) → Type 0
Said rows = map (λ row. row.0) rows ≡ map (λ row. row.1) rows

abbrev less : ℕ → ℤ
less n = neg_ℤ (pos n)

abbrev ones : ℕ → List ℤ
ones n = replicate n (pos 1)

-- a record's numbers
abbrev numbers : ℕ → ℕ → ℕ → List ℤ → ℤ → List ℤ
numbers width count finished held total = pos width ∷ pos count ∷ pos finished ∷ held ++ total ∷ []

-- the sample's frames
abbrev one : List ℤ
one = pos 39 ∷ less 24 ∷ less 48 ∷ pos 4 ∷ pos 50 ∷ pos 14 ∷ less 44 ∷ less 33 ∷ []

abbrev two : List ℤ
two = less 3 ∷ pos 4 ∷ pos 2 ∷ less 5 ∷ pos 0 ∷ pos 5 ∷ less 3 ∷ less 3 ∷ []

-- a block with the dead mark at place 2
abbrev marked : List ℤ
marked = pos 0 ∷ pos 5 ∷ less 32768 ∷ zeros 5

-- the numbers of a fresh record, of those after the first block and after the first frame back, and numbers that are no record's
abbrev fresh : List ℤ
fresh = numbers 8 0 0 (zeros 64) (pos 0)

abbrev forward1 : List ℤ
forward1 = numbers 8 1 0 (less 10 ∷ zeros 63) (pos 100)

abbrev back1 : List ℤ
back1 = numbers 8 1 0 (zeros 3 ++ pos 100 ∷ zeros 60) (pos 0)

abbrev damaged : List ℤ
damaged = numbers 8 0 2 (zeros 64) (pos 0)

-- ---- which numbers are a record's: 68, the width and the count from 0 up, 0 or 1
records : Said {A = Bool}
    ((is_record fresh, true)
    ∷ (is_record (numbers 9 70000 1 (ones 64) (less 1)), true)
    ∷ (is_record (numbers 8 0 0 (zeros 63) (pos 0)), false)
    ∷ (is_record (numbers 8 0 0 (zeros 65) (pos 0)), false)
    ∷ (is_record (less 8 ∷ pos 0 ∷ zeros 66), false)
    ∷ (is_record (pos 8 ∷ less 1 ∷ zeros 66), false)
    ∷ (is_record (pos 8 ∷ pos 0 ∷ less 1 ∷ zeros 65), false)
    ∷ (is_record damaged, false)
    ∷ [])
unfolding is_record all_yes
records = refl

-- ---- the record of numbers, and the numbers of a record
unpacked-given : Said {A = Run}
    ((unpacked (numbers 32 7 1 (less 10 ∷ zeros 63) (less 5)), record_of 32 7 (less 10 ∷ zeros 63) true (less 5))
    ∷ (unpacked forward1, record_of 8 1 (less 10 ∷ zeros 63) false (pos 100))
    ∷ (unpacked damaged, record_of 0 0 (zeros 64) false (pos 0))
    ∷ [])
unfolding unpacked is_record all_yes opened zero_padded
unpacked-given = refl

packed-given : packed (record_of 32 7 (less 10 ∷ zeros 63) true (less 5)) ∷ packed (record_of 8 1 (ones 64) false (pos 3)) ∷ [] ≡ numbers 32 7 1 (less 10 ∷ zeros 63) (less 5) ∷ numbers 8 1 0 (ones 64) (pos 3) ∷ []
unfolding packed
packed-given = refl

-- ---- a fresh start: 1 before 2, and a refused one packed where there is room
start-given : Said {A = (ℕ × ℕ) × List ℤ}
    ((lapped_start 8 (ones 68), ((0, 0), fresh))
    ∷ (lapped_start 9 (ones 68), ((1, 0), zeros 68))
    ∷ (lapped_start 9 (ones 67), ((1, 0), ones 67))
    ∷ (lapped_start 8 (ones 67), ((2, 0), ones 67))
    ∷ (lapped_start 8 (ones 69), ((2, 0), ones 69))
    ∷ [])
unfolding lapped_start started packed opened zero_padded half_width by_width
start-given = refl

-- ---- the calls: what a refusal leaves, forward 2, 8 and 7, back 2, 11 and 5; one block there and back, and the finishes; and a record of the
-- other way
calls-given : Said {A = PackedResult}
    ((lapped_take damaged sample sample_output, ((2, 0), damaged, sample_output))
    ∷ (lapped_take fresh marked sample_output, ((8, 2), fresh, sample_output))
    ∷ (lapped_take fresh sample sample_output, ((0, 0), forward1, one))
    ∷ (lapped_finish forward1 (ones 7), ((7, 0), forward1, ones 7))
    ∷ (lapped_finish forward1 sample_output, ((0, 0), numbers 8 1 1 (zeros 64) (pos 100), two))
    ∷ (lapped_back_take damaged one sample_output, ((2, 0), damaged, sample_output))
    ∷ (lapped_back_take fresh two sample_output, ((11, 4), fresh, sample_output))
    ∷ (lapped_back_take fresh one sample_output, ((0, 0), back1, sample_output))
    ∷ (lapped_back_take back1 two sample_output, ((0, 0), numbers 8 2 0 (zeros 64) (pos 100), sample))
    ∷ (lapped_back_finish fresh, ((5, 0), fresh, []))
    ∷ (lapped_back_finish back1, ((11, 3), back1, []))
    ∷ (lapped_back_finish (numbers 8 2 0 (zeros 64) (pos 100)), ((0, 0), numbers 8 2 1 (zeros 64) (pos 100), []))
    ∷ (lapped_back_take forward1 two sample_output, ((2, 0), forward1, sample_output))
    ∷ [])
unfolding lapped_take lapped_finish lapped_back_take lapped_back_finish handed_to_c numbers_after packed unpacked is_record by_width half_width half_turn reflected below_zero signed sines half_tangents half_tangents8 secants secants8 cosine_of sine_of half_tangent_of secant_of round floor_div tab sum root_log tangent sine cosine odd_of secant alternate tangent_amount sine_amount rotated_a rotated_b lower held top_of bottom_of amount1 amount2 amount3 stage1 stage2 stage3 stage4 stage5 stages frame first_where beyond ask ask_each nothing inside all_yes blocks_behind sound admitted sum_of zero_padded opened advanced closed frame_on taken_in taken ended dead unrotated_a unrotated_b unfolded unstage1 unstage2 unstage3 unstage4 unstage5 interleaved unstages framed block_on first_upper first_frame later_frame unfolded_in undone_in taken_back first_held ended_back
calls-given = refl
