-- A program that is over with the first of the lines that come: no beginning of them is lines that it takes.
use mathlib.Core.Path.{◌≡◌, refl, sym, ap, subst, ◌∙◌}
use mathlib.Core.Bool.{true, false, false≢true}
use mathlib.Core.List.{List, [], ◌∷◌, ◌++◌, append-nil}
use Prim.Native.Nat.{ℕ}
use native.Mathlib.Omega.{arith}
use borrow.Author.Tests.{ne_eqb}
use lib.ListN.{length, length-append}
use Rattle.text_runs.specs.Lines.{line_feed}
use Rattle.text_runs.specs.Input.{Line, lines_of}
use Rattle.feeding.specs.Program.{Program, handed}
use Rattle.feeding.specs.Feed.{Reader, handed_on, gathered, fed}
use Rattle.feeding.specs.Lines.{line_handed}
use Rattle.feeding.proofs.FeedLaws.{by_byte, fed-over, one_more, Fits}
use Rattle.feeding.proofs.LineLaws.{in_front_all, behind-line, behind-byte, taken-short}

unfoldable pub FirstStops : (P : Program) → P.State → List Line → Type 0
FirstStops P s [] = Unit {0}
FirstStops P s (line ∷ lines) = P.over (line_handed P s line).0 ≡ true

module _ (P : Program) where
  never-goes-on : {A : Type 0} (r : Reader P) (bytes : List ℕ) → P.over r.state ≡ true → P.over (fed P r bytes).state ≡ false → A
  never-goes-on r bytes o on = absurd (false≢true (sym on ∙ ap (λ (x : Reader P). P.over x.state) (fed-over P r bytes o) ∙ o))

  module _ (r : Reader P) (fits : Fits P r) (b : ℕ) (bytes : List ℕ) (stops : FirstStops P r.state (in_front_all r.had (lines_of (b ∷ bytes)))) where
    feed-stops : b ≡ line_feed → P.over (handed P r.state true r.had).0 ≡ true
    unfolding lines_of FirstStops
    feed-stops e =
        let first : in_front_all r.had (lines_of (b ∷ bytes)) ≡ (true, r.had) ∷ lines_of bytes = rw e (behind-line r.had true [] (lines_of bytes) ∙ rw append-nil) in
        let o : P.over (line_handed P r.state (true, r.had)).0 ≡ true = subst (FirstStops P r.state) first stops in
        ap (λ (given : P.State × List ℕ). P.over given.0) (sym (taken-short P r.state true r.had fits)) ∙ o

    byte-stops : (b ≡ line_feed → ⊥) → FirstStops P r.state (in_front_all (r.had ++ b ∷ []) (lines_of bytes))
    unfolding lines_of
    byte-stops other = subst (FirstStops P r.state) (rw (ne_eqb b line_feed other) (behind-byte r.had b (lines_of bytes))) stops

  pub none-taken : (r : Reader P) (more others : List ℕ) → Fits P r → FirstStops P r.state (in_front_all r.had (lines_of (more ++ others)))
      → P.over (fed P r more).state ≡ false → (fed P r more).had ≡ [] → (r.had ≡ []) × (more ≡ [])
  unfolding fed handed_on handed gathered
  none-taken r [] others fits stops = λ on e. (e, refl)
  none-taken r (b ∷ more) others fits stops =
      by_byte P r b (λ x _. P.over (fed P x more).state ≡ false → (fed P x more).had ≡ [] → (r.had ≡ []) × (b ∷ more ≡ []))
      (λ o on e. never-goes-on r more o on)
      (λ _ f on e. never-goes-on (handed_on P true r) more (feed-stops r fits b (more ++ others) stops f) on)
      (λ _ other l on e.
      let none = none-taken (gathered P r b) more others (one_more r.had b l) (byte-stops r fits b (more ++ others) stops other) on e in
      absurd (omega (arith, ap length none.0, length-append r.had (b ∷ []))))
      (λ _ other l on e. never-goes-on (handed_on P false r) more (P.stops r.state) on)
