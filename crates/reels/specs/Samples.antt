-- Small reels computed on the definitions, before anything is proved.
use Rattle.std.specs.Prelude.{Ok, Err, ◌≡◌, refl, List, [], ◌∷◌, map, ℕ, ℤ, pos, negsuc}
use Prim.Native.String.{String}
use Rattle.tables.specs.Widths.{by_width, half_width}
use Rattle.runs.specs.Answers.{first_where, beyond}
use Rattle.text_runs.specs.Bytes.{bytes}
use Rattle.text_runs.specs.Decimal.{spelled, decimal, printed, is_digit, all_digits, value_of, valued, leads, sized, negative, positive, signed_in, number_in, total_in}
use Rattle.text_runs.specs.Lines.{refused_tag, end_tag, refusal, longer, fields, number_in_front, all_numbers, numbers_in, same, is_count, count_and_total, end_total}
use Rattle.text_runs.specs.Input as Input
use Rattle.text_runs.specs.Input.{lines_of}
use Rattle.text_runs.specs.EveryInput.{refusal_line}
use Rattle.feeding.specs.Program.{handed}
use Rattle.feeding.specs.Lines.{line_handed, printed_from, printed_of}
use Rattle.reels.specs.declared.verdict.Refusal.TheVariants.{Width, Full, Length, Range, OtherWidth, RunTooMany}
use Rattle.reels.specs.Verdicts.{verdict_told}
use Rattle.reels.specs.Page.{frames_tag, sum_line, sum_lines, page, sum_of_squares, sums_from, page_of}
use Rattle.reels.specs.Reel.{reel_begun, reel_over, reel_line_number, to_phase, reel_refused, taken_or, width_asked, run_begun, width_line, range_asked, frame_asked, squares_added, frame_added, frame_line, end_asked, run_line_by, run_line, reel_taken, reel_broken, reel_ended, reel_says, reel_given}
use Rattle.reels.specs.Program.{reel_line, reel_cut, reel_last, reel_printed}

-- ---- the questions to a width line, where so many runs were begun, the first of width 8; and to a frame
widths-asked : map (λ (row : ℕ × ℕ). width_asked row.0 8 row.1) ((8, 0) ∷ (32, 0) ∷ (9, 0) ∷ (8, 99) ∷ (8, 100) ∷ (32, 1) ∷ (32, 100) ∷ (9, 100) ∷ [])
    ≡ (Ok tt) ∷ (Ok tt) ∷ (Err Width) ∷ (Ok tt) ∷ (Err RunTooMany) ∷ (Err OtherWidth) ∷ (Err OtherWidth) ∷ (Err Width) ∷ []
unfolding width_asked half_width by_width
widths-asked = refl

frames-asked : map (λ (row : ℕ × List ℤ). frame_asked 2 row.0 row.1)
    ((65536, pos 1048576 ∷ pos 0 ∷ []) ∷ (65537, []) ∷ (0, []) ∷ (0, pos 0 ∷ pos 0 ∷ pos 1048577 ∷ []) ∷ (0, pos 1048577 ∷ pos 1048577 ∷ []) ∷ [])
    ≡ (Ok tt) ∷ (Err Full) ∷ (Err Length) ∷ (Err Length) ∷ (Err (Range 0)) ∷ []
unfolding frame_asked range_asked first_where beyond
frames-asked = refl

-- ---- the page of three frames
page-of-three : page_of 2 ((pos 1 ∷ negsuc 2 ∷ []) ∷ (pos 0 ∷ pos 4 ∷ []) ∷ (negsuc 9 ∷ pos 0 ∷ []) ∷ []) ≡ bytes "0,101\n1,25\nframes,3\n"
unfolding bytes page_of sums_from sum_of_squares page sum_lines sum_line frames_tag printed decimal spelled
page-of-three = refl

-- ---- whole inputs
abbrev Said : List (String × String) → Type 0
Said rows = map (λ row. reel_printed (bytes row.0)) rows ≡ map (λ row. bytes row.1) rows

reels : Said
    (("8\n1,2,3,4,5,6,7,8\nend,1,-9223372036854775808\n8\n-1,0,0,0,0,0,0,1\nend,1,9223372036854775807\n", "0,2\n1,4\n2,9\n3,16\n4,25\n5,36\n6,49\n7,65\nframes,2\n")
    ∷ ("8\n1,2,3,4,5,6,7,8\nend,1,36\n8\n-1,0,0,0,0,0,0,1\nend,1,0\n", "0,2\n1,4\n2,9\n3,16\n4,25\n5,36\n6,49\n7,65\nframes,2\n")
    ∷ ("", "refused,13,1,0\n")
    ∷ ("8\n1,2,3,4,5,6,7,8\nend,1,0\n32\n", "refused,14,4,0\n")
    ∷ ("8\n1,2,3,4,5,6,7,8\nend,1,0\n9\n", "refused,1,4,0\n")
    ∷ ("8\n1,2,3,4,5,6,7,8\nend,1,0\n\n", "refused,13,4,0\n")
    ∷ ("8\n1,2,3,4,5,6,7,8\nend,1,0\n8", "refused,13,4,0\n")
    ∷ ("8\n1,2,3,4,5,6,7,8\nend,1,9223372036854775808\n", "refused,13,3,0\n")
    ∷ ("8\n1,2,3,4,5,6,7,8\nend,1,-9223372036854775809\n", "refused,13,3,0\n")
    ∷ ("8\n1,2,3,4,5,6,7,8\nend,1\n", "refused,13,3,0\n")
    ∷ ("8\n1,2,3,4,5,6,7,8\nend,1,0,0\n", "refused,13,3,0\n")
    ∷ ("8\n1,2,3,4,5,6,7,8\nend,2,0\n", "refused,13,3,0\n")
    ∷ ("8\n1,2,3,4,5,6,7,8\n", "refused,13,3,0\n")
    ∷ ("8\nend,0,7\n", "refused,5,2,0\n")
    ∷ ("8\nend,0,-0\n", "refused,13,2,0\n")
    ∷ ("8\n1,2,3,4,5,6,7\n", "refused,6,2,0\n")
    ∷ ("8\n1,2,3,4,5,-1048577,7,8\n", "refused,9,2,5\n")
    ∷ [])
unfolding bytes printed_of printed_from line_handed handed lines_of Input.byte_in_front reel_begun reel_over reel_line_number to_phase reel_refused taken_or width_asked run_begun width_line range_asked frame_asked squares_added frame_added frame_line end_asked run_line_by run_line reel_taken reel_broken reel_ended reel_says reel_given reel_line reel_cut reel_last verdict_told frames_tag sum_line sum_lines page by_width half_width first_where beyond spelled decimal printed is_digit all_digits value_of valued leads sized negative positive signed_in number_in total_in refused_tag end_tag refusal longer fields number_in_front all_numbers numbers_in same is_count count_and_total end_total refusal_line
reels = refl
