-- Lines of a reel of which one is refused: those before it are taken, and what is printed is one refusal, by its number.
use mathlib.Core.Path.{◌≡◌, refl, sym, ap, ◌∙◌}
use mathlib.Core.Logic.{◌⊎◌, inr, ⊎_elim}
use mathlib.Core.Bool.{true, false}
use mathlib.Core.List.{List, [], ◌∷◌, ◌++◌, append_assoc}
use Prim.Native.Nat.{ℕ, ◌≤◌, ◌<◌}
use native.Mathlib.Omega.{arith}
use lib.ListN.{length}
use Rattle.text_runs.specs.Lines.{line_feed}
use Rattle.text_runs.specs.Line.{line_limit}
use Rattle.text_runs.specs.Input.{Line, lines_of}
use Rattle.text_runs.specs.EveryInput.{refusal_line, among}
use Rattle.text_runs.specs.Own.Lacks.{lacks}
use Rattle.text_runs.proofs.LineLaws.{line-ends}
use Rattle.text_runs.proofs.TextLines.{text_of_lines, line-text, lines-text}
use Rattle.feeding.specs.Program.{handed}
use Rattle.feeding.specs.Feed.{Reader, reader_begun, handed_on, fed}
use Rattle.feeding.specs.Lines.{line_handed, printed_from}
use Rattle.feeding.proofs.FeedLaws.{fed-twice, line-fed}
use Rattle.feeding.proofs.LineLaws.{in_front_all}
use Rattle.feeding.proofs.FirstLine.{FirstStops, none-taken}
use Rattle.reels.specs.declared.reel.Reel.{Reel}
use Rattle.reels.specs.Reel.{reel_begun, reel_over, to_phase, reel_refused, reel_taken, reel_broken, reel_ended, reel_says, reel_given}
use Rattle.reels.specs.Program.{reel_is_over, reel_line, reel_last, reel_program}
use Rattle.reels.specs.EveryReel.{LinesTaken}
use Rattle.reels.proofs.ReelSteps.{given_nothing, whole-line, goes_on, refused-alone}
use Rattle.reels.proofs.AnyReelLine.{Numbered, RefusedTo, WholeLine, line-whole}
use Rattle.reels.proofs.LineNumbers.{number_of}

abbrev reel_read : Reel → List ℕ → Reader reel_program
reel_read s text = fed reel_program (reader_begun reel_program s) text

-- the state in which the refused line comes is `after`; with that line the reel is over, where the lines are those of a text
pub record Refuses (s : Reel) (lines : List Line) : Type 0 where
  pub before : List ℕ
  pub rest : List ℕ
  pub after : Reel
  pub number : ℕ
  pub place : ℕ
  pub text-is : text_of_lines lines ≡ before ++ rest
  pub taken : reel_read s before ≡ reader_begun reel_program after
  pub on : reel_is_over after ≡ false
  pub stops : lines_of (text_of_lines lines) ≡ lines → FirstStops reel_program after (lines_of rest)
  pub numbered : Numbered number
  pub placed : place < 128
  pub printed-is : printed_from reel_program s lines ≡ refusal_line number (number_of after) place

-- ---- at the end of the input, or by its first line
module _ (s : Reel) (on : reel_is_over s ≡ false) where
  refused-here : (lines : List Line) (told : ℕ × ℕ) → FirstStops reel_program s lines → Numbered told.0 → told.1 < 128
      → printed_from reel_program s lines ≡ refusal_line told.0 (number_of s) told.1 → Refuses s lines
  unfolding fed
  refused-here lines told o n p e = record {
    before = [];
    rest = text_of_lines lines;
    after = s;
    number = told.0;
    place = told.1;
    text-is = refl;
    taken = refl;
    on = on;
    stops = λ own. rw own o;
    numbered = n;
    placed = p;
    printed-is = e;
  }

  pub refused_end : reel_ended s.phase s ≡ reel_refused s (13, 0) → Refuses s []
  unfolding printed_from reel_last reel_given reel_refused to_phase reel_says among FirstStops
  refused_end e = refused-here [] (13, 0) tt refl (omega arith) (rw (on, e))

  refused-first : (line : Line) (lines : List Line) (told : ℕ × ℕ) → Numbered told.0 → told.1 < 128 → line_handed reel_program s line ≡ reel_given s (reel_refused s told) → Refuses s (line ∷ lines)
  unfolding reel_given reel_refused to_phase reel_over FirstStops
  refused-first line lines told n p e = refused-here (line ∷ lines) told (ap (λ (given : Reel × List ℕ). reel_is_over given.0) e) n p (refused-alone s told line lines on e)

  -- a line that is not whole is refused
  pub by_whole : (line : Line) (lines : List Line) (Are : Type 0) → reel_broken s.phase s ≡ reel_refused s (13, 0)
      → (WholeLine line → Are ⊎ Refuses s (line ∷ lines)) → Are ⊎ Refuses s (line ∷ lines)
  unfolding among
  by_whole line lines Are cut whole = ⊎_elim whole (λ e. inr (refused-first line lines (13, 0) refl (omega arith) e)) (line-whole s cut line)

  -- ---- behind a whole line that is taken
  line_read : (after : Reel) (bytes before : List ℕ) → lacks line_feed bytes → length bytes ≤ line_limit → reel_taken s.phase s bytes ≡ after → reel_is_over after ≡ false
      → reel_read s ((bytes ++ line_feed ∷ []) ++ before) ≡ reel_read after before
  unfolding reader_begun handed_on handed reel_line
  line_read after bytes before l h e next =
      fed-twice reel_program (reader_begun reel_program s) (bytes ++ line_feed ∷ []) before
      ∙ ap (λ (r : Reader reel_program). fed reel_program r before)
      (line-fed reel_program s on [] [] bytes l (omega arith) ∙ rw (ap (reel_given s) e ∙ given_nothing s after next))

  module _ (line : Line) (lines : List Line) (w : WholeLine line) where
    -- where the lines are those of their text, those behind the first are, too
    others-own : lacks line_feed w.bytes → lines_of (text_of_lines (line ∷ lines)) ≡ line ∷ lines → lines_of (text_of_lines lines) ≡ lines
    others-own l own =
        let first : lines_of (text_of_lines (line ∷ lines)) ≡ (true, w.bytes) ∷ lines_of (text_of_lines lines) =
        ap (λ (first : Line). lines_of (text_of_lines (first ∷ lines))) w.is
        ∙ ap lines_of (line-text w.bytes lines ∙ append_assoc w.bytes (line_feed ∷ []) (text_of_lines lines))
        ∙ line-ends w.bytes (text_of_lines lines) l in
        cc

    pub refused-behind : (after : Reel) → lacks line_feed w.bytes → reel_taken s.phase s w.bytes ≡ after → reel_is_over after ≡ false → Refuses after lines → Refuses s (line ∷ lines)
    refused-behind after l e next r = record {
      before = (w.bytes ++ line_feed ∷ []) ++ r.before;
      rest = r.rest;
      after = r.after;
      number = r.number;
      place = r.place;
      text-is =
          ap (λ (first : Line). text_of_lines (first ∷ lines)) w.is
          ∙ line-text w.bytes lines
          ∙ ap (λ (text : List ℕ). (w.bytes ++ line_feed ∷ []) ++ text) r.text-is
          ∙ sym (append_assoc (w.bytes ++ line_feed ∷ []) r.before r.rest);
      taken = line_read after w.bytes r.before l w.short e next ∙ r.taken;
      on = r.on;
      stops = λ own. r.stops (others-own l own);
      numbered = r.numbered;
      placed = r.placed;
      printed-is = ap (λ (first : Line). printed_from reel_program s (first ∷ lines)) w.is ∙ goes_on s after w.bytes lines w.short e next ∙ r.printed-is;
    }

    pub whole-refused : s.width ≤ 128 → RefusedTo s (reel_taken s.phase s w.bytes) → Refuses s (line ∷ lines)
    whole-refused n r =
        refused-first line lines r.told r.numbered (r.placed n) (ap (line_handed reel_program s) w.is ∙ whole-line s w.bytes w.short ∙ ap (reel_given s) r.after_is)

pub whole-are : (line : Line) (lines : List Line) (w : WholeLine line) (Are : List Line → Type 0) {bytes : List ℕ} → w.bytes ≡ bytes → Are ((true, bytes) ∷ lines) → Are (line ∷ lines)
whole-are line lines w Are e a = rw (w.is, e) a

-- ---- no more lines of an input are taken than those before the refused one
module _ (input : List ℕ) (r : Refuses reel_begun (lines_of input)) (more others : List ℕ) where
  pub no-more-taken : r.rest ≡ more ++ others → LinesTaken (r.before ++ more) → more ≡ []
  unfolding reader_begun in_front_all
  no-more-taken e t =
      let onwards : reel_read reel_begun (r.before ++ more) ≡ reel_read r.after more =
      fed-twice reel_program (reader_begun reel_program reel_begun) r.before more ∙ ap (λ (x : Reader reel_program). fed reel_program x more) r.taken in
      (none-taken reel_program (reader_begun reel_program r.after) more others (omega arith)
      (rw (← e) (r.stops (ap lines_of (lines-text input))))
      (ap (λ (x : Reader reel_program). reel_is_over x.state) (sym onwards) ∙ t.goes_on)
      (ap (λ (x : Reader reel_program). x.had) (sym onwards) ∙ t.whole)).1
