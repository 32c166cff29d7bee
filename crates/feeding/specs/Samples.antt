-- Feeding computed on a small program: it prints each whole line again, "!" for a broken one and "." at the end.
use Rattle.std.specs.Prelude.{◌≡◌, refl, Bool, true, false, cond, not, List, [], ◌∷◌, ◌++◌, map, ℕ, pos, replicate}
use Rattle.std.proofs.Common.{sym}
use Rattle.std.proofs.lemmas.Bool.{false≢true}
use Rattle.text_runs.specs.Bytes.{bytes}
use Rattle.text_runs.specs.Decimal.{is_digit, all_digits, value_of, valued, leads, sized, negative, positive, signed_in, number_in}
use Rattle.text_runs.specs.Lines.{line_feed, refused_tag, longer, fields, number_in_front, all_numbers, numbers_in, up_to, same}
use Rattle.text_runs.specs.Input as Input
use Rattle.text_runs.specs.Input.{lines_of}
use Rattle.text_runs.specs.declared.state.Phase.TheVariants.{Between, Over}
use Rattle.text_runs.specs.State.{is_going_on}
use Rattle.feeding.specs.declared.session.Ending.{Ending}
use Rattle.feeding.specs.declared.session.Ending.TheVariants.{Open, Whole, Refused}
use Rattle.feeding.specs.Program.{Program, handed}
use Rattle.feeding.specs.Feed.{reader_begun, handed_on, gathered, byte_fed, fed, fed_pieces, rest_fed, reader_ended}
use Rattle.feeding.specs.Lines.{line_handed, printed_from, printed_of}
use Rattle.feeding.specs.Budget.{handed_by, lines_handed}
use Rattle.feeding.specs.Ending.{refused_by, last_said, ending_after}

abbrev Said : {A : Type 0} → List (A × A) → Type 0
Said rows = map (λ row. row.0) rows ≡ map (λ row. row.1) rows

-- over or not
abbrev again : Bool → List ℕ → Bool × List ℕ
again over line = cond over (over, []) (over, line ++ line_feed ∷ [])

abbrev marked : Bool → Bool × List ℕ
marked over = cond over (over, []) (true, bytes "!")

stops : (over : Bool) → (marked over).0 ≡ true
stops true = refl
stops false = refl

quiet : (over : Bool) → over ≡ true → ((line : List ℕ) → again over line ≡ (over, [])) × (marked over ≡ (over, []))
quiet true e = ((λ line. refl), refl)
quiet false e = absurd (false≢true e)

abbrev echo : Program
echo = record { State = Bool; line = again; broken = marked; end = λ over. (over, bytes "."); over = λ over. over; stops = stops; quiet = quiet }

-- an input in three pieces, and whole; a last line with no line feed; a line of 2,048 bytes, and one of 2,049
cut-and-whole : Said
    (((reader_ended echo (fed_pieces echo (reader_begun echo false) (bytes "ab" ∷ bytes "c\nd" ∷ bytes "e\n" ∷ []))).1, bytes "abc\nde\n.")
    ∷ (printed_of echo false (bytes "abc\nde\n"), bytes "abc\nde\n.")
    ∷ ((reader_ended echo (fed echo (reader_begun echo false) (bytes "a\n\nb"))).1, bytes "a\n\n!.")
    ∷ (printed_of echo false (bytes "a\n\nb"), bytes "a\n\n!.")
    ∷ ((reader_ended echo (fed echo (reader_begun echo false) (replicate 2048 97 ++ bytes "\nb\n"))).1, replicate 2048 97 ++ bytes "\nb\n.")
    ∷ ((reader_ended echo (fed echo (reader_begun echo false) (replicate 2049 97 ++ bytes "\nb\n"))).1, bytes "!.")
    ∷ (printed_of echo false (replicate 2049 97 ++ bytes "\nb\n"), bytes "!.")
    ∷ [])
unfolding bytes handed reader_begun handed_on gathered byte_fed fed fed_pieces rest_fed reader_ended line_handed printed_from printed_of lines_of Input.byte_in_front
cut-and-whole = refl

lines-handed : lines_handed echo (reader_begun echo false) (bytes "a\n\nb") ∷ lines_handed echo (reader_begun echo true) (bytes "a\n\nb") ∷ [] ≡ 2 ∷ 0 ∷ []
unfolding bytes handed reader_begun handed_on gathered byte_fed handed_by lines_handed
lines-handed = refl

-- what a last line says
endings : Said
    ((ending_after Open Over (bytes "refused,6,2,0\n"), Refused (pos 6) (pos 2) (pos 0))
    ∷ (ending_after Open Over (bytes "1,2\nend,2,3\n"), Whole)
    ∷ (ending_after Open Between (bytes "1,2\n"), Open)
    ∷ (ending_after (Refused (pos 6) (pos 2) (pos 0)) Over (bytes ""), Refused (pos 6) (pos 2) (pos 0))
    ∷ [])
unfolding bytes ending_after is_going_on last_said refused_tag same up_to refused_by is_digit all_digits value_of valued leads sized negative positive signed_in number_in longer fields number_in_front all_numbers numbers_in
endings = refl
