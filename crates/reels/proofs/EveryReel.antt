-- Every input is the texts of the runs of a reel, or is refused by one line; any cut prints the same, and nothing is printed before the end.
use mathlib.Core.Path.{◌≡◌, refl, sym, ap, ap₂, ◌∙◌}
use mathlib.Core.Logic.{inl, inr, ⊎_elim}
use mathlib.Core.Bool.{Bool, true, false}
use mathlib.Core.List.{List, [], ◌∷◌, ◌++◌}
use Prim.Native.Nat.{ℕ, zero, suc, ◌<◌}
use native.Mathlib.Omega.{arith}
use lib.IntN.{ℤ}
use lib.ListN.{get_or}
use Rattle.runs.proofs.RecordLaws.{width-pos}
use Rattle.text_runs.specs.Decimal.{spelled, decimal}
use Rattle.text_runs.specs.Lines.{refused_tag, refusal}
use Rattle.text_runs.specs.Input.{lines_of}
use Rattle.text_runs.specs.EveryInput.{refusal_line}
use Rattle.text_runs.proofs.TextLines.{lines-text, same_lines}
use Rattle.feeding.specs.Program.{handed}
use Rattle.feeding.specs.Lines.{printed_of}
use Rattle.feeding.specs.Feed.{Reader, reader_begun, handed_on, gathered, byte_fed, fed}
use Rattle.feeding.proofs.FeedLaws.{by_byte}
use Rattle.feeding.proofs.Cuts.{any-cut}
use Rattle.reels.specs.declared.reel.Reel.{Reel}
use Rattle.reels.specs.Page.{sum_line, sum_lines, page, sums_from, page_of}
use Rattle.reels.specs.Reel.{reel_begun, reel_taken, reel_broken, reel_given}
use Rattle.reels.specs.Program.{reel_is_over, reel_line, reel_cut, reel_program, reel_printed}
use Rattle.reels.specs.EveryReel.{ReelOf, texts_of, ReelAccepted, RefusedAlone, EveryReelTold, EveryCutOfAReel, NothingBefore}
use Rattle.reels.proofs.ReelSteps.{given_nothing}
use Rattle.reels.proofs.ReelTexts.{every-reel-printed}
use Rattle.reels.proofs.LineNumbers.{number_of, feeds-counted}
use Rattle.reels.proofs.ReelRefusals.{Refuses, no-more-taken}
use Rattle.reels.proofs.AnyReel.{ReelIs, reel-is}

-- ---- accepted or refused
module _ (input : List ℕ) where
  accepted : ReelIs (lines_of input) → ReelAccepted input
  accepted r =
      let N = r.width in
      let runs = r.runs-are.more in
      let reel : ReelOf N runs = record { wide = r.wide; each = r.runs-are.each; some = r.some; few = omega (arith, r.runs-are.few) } in
      let e : input ≡ texts_of N runs = same_lines input (texts_of N runs) r.runs-are.lines_are in
      record { width = N; runs = runs; reel = reel; input-is = e; printed-is = ap reel_printed e ∙ every-reel-printed N runs reel }

  refused : Refuses reel_begun (lines_of input) → RefusedAlone input
  unfolding printed_of reader_begun
  refused r =
      let on : reel_is_over (fed reel_program (reader_begun reel_program reel_begun) r.before).state ≡ false = ap (λ (x : Reader reel_program). reel_is_over x.state) r.taken ∙ r.on in
      record {
        before = r.before;
        rest = r.rest;
        number = r.number;
        place = r.place;
        input-is = sym (lines-text input) ∙ r.text-is;
        taken = record { goes_on = on; whole = ap (λ (x : Reader reel_program). x.had) r.taken };
        no_more = no-more-taken input r;
        numbered = r.numbered;
        placed = r.placed;
        printed-is =
            r.printed-is
            ∙ ap (λ (line : ℕ). refusal_line r.number line r.place)
            (ap (λ (x : Reader reel_program). number_of x.state) (sym r.taken) ∙ feeds-counted r.before on);
      }

-- ---- a page begins with the digit 0, a refusal with a letter
page-first : (N : ℕ) (frames : List (List ℤ)) → 0 < N → get_or (page_of N frames) 0 0 ≡ 48
unfolding page_of page sums_from sum_lines sum_line decimal spelled
page-first zero frames h = absurd (omega arith)
page-first (suc n) frames h = refl

refusal-first : (number line place : ℕ) → get_or (refusal_line number line place) 0 0 ≡ 114
unfolding refusal_line refusal refused_tag
refusal-first number line place = refl

never_both : (input : List ℕ) → ReelAccepted input → RefusedAlone input → ⊥
never_both input a r =
    let e : ◌≡◌ {A = ℕ} 48 114 =
    sym (page-first a.width _ (width-pos a.width a.reel.wide))
    ∙ ap (λ (text : List ℕ). get_or text 0 0) (sym a.printed-is ∙ r.printed-is)
    ∙ refusal-first r.number _ r.place in
    omega arith

pub every-reel-told : EveryReelTold
every-reel-told input = record {
  told = ⊎_elim (λ a. inl (accepted input a)) (λ r. inr (refused input r)) (reel-is (lines_of input));
  never_both = never_both input;
}

-- ---- any cut
pub every-cut-of-a-reel : EveryCutOfAReel
every-cut-of-a-reel pieces = any-cut reel_program reel_begun pieces

-- ---- nothing before the end
abbrev Silent : Reader reel_program → Type 0
Silent r = reel_is_over r.state ≡ false → r.printed ≡ []

handed-silent : (r : Reader reel_program) (whole : Bool) → reel_is_over r.state ≡ false → Silent r → Silent (handed_on reel_program whole r)
unfolding handed_on handed reel_line reel_cut reel_given
handed-silent r true on h k = ap₂ ◌++◌ (h on) (ap (λ (given : Reel × List ℕ). given.1) (given_nothing r.state (reel_taken r.state.phase r.state r.had) k))
handed-silent r false on h k = ap₂ ◌++◌ (h on) (ap (λ (given : Reel × List ℕ). given.1) (given_nothing r.state (reel_broken r.state.phase r.state) k))

fed-silent : (r : Reader reel_program) (bytes : List ℕ) → Silent r → Silent (fed reel_program r bytes)
unfolding fed gathered
fed-silent r [] h = h
fed-silent r (b ∷ bytes) h =
    fed-silent (byte_fed reel_program r b) bytes
    (by_byte reel_program r b (λ x _. Silent x) (λ o. h) (λ on e. handed-silent r true on h) (λ on other l. h) (λ on other l. handed-silent r false on h))

pub nothing-before : NothingBefore
unfolding reader_begun
nothing-before input = fed-silent (reader_begun reel_program reel_begun) input (λ _. refl)
