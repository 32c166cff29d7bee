-- What is printed stands behind what was printed before.
use mathlib.Core.Path.{◌≡◌, refl, sym, ap, ◌∙◌}
use mathlib.Core.Logic.{⊎_elim}
use mathlib.Core.Bool.{Bool, true, false, cond}
use mathlib.Core.List.{List, [], ◌∷◌, ◌++◌, append_assoc}
use Prim.Native.Nat.{ℕ}
use lib.Dec.{eqb, ltb}
use lib.ListN.{length}
use Rattle.text_runs.specs.Lines.{line_feed}
use Rattle.text_runs.specs.Line.{line_limit}
use Rattle.text_runs.proofs.UpToLaws.{tested}
use Rattle.feeding.specs.Program.{Program, handed}
use Rattle.feeding.specs.Feed.{Reader, handed_on, gathered, byte_fed, fed, rest_fed, reader_ended}
use Rattle.feeding.specs.Own.Behind.{behind, PrintedBehind, EndedBehind}

module _ (P : Program) (before : List ℕ) (r : Reader P) where
  handed-behind : (whole : Bool) → handed_on P whole (behind P before r) ≡ behind P before (handed_on P whole r)
  unfolding handed_on behind
  handed-behind whole = ap (λ (t : List ℕ). reader t) (append_assoc before r.printed _)
    where
      reader : List ℕ → Reader P
      reader t = record { state = (handed P r.state whole r.had).0; had = []; printed = t }

  byte-behind : (b : ℕ) → byte_fed P (behind P before r) b ≡ behind P before (byte_fed P r b)
  unfolding byte_fed behind gathered
  byte-behind b =
      ⊎_elim (λ o. rw o)
      (λ on. rw on
      (⊎_elim (λ e. rw e (handed-behind true))
      (λ e. rw e (⊎_elim (λ h. rw h) (λ h. rw h (handed-behind false)) (tested (ltb (length r.had) line_limit))))
      (tested (eqb b line_feed))))
      (tested (P.over r.state))

  rest-behind : rest_fed P (behind P before r) ≡ behind P before (rest_fed P r)
  unfolding rest_fed behind
  rest-behind =
      ⊎_elim (λ o. rw o)
      (λ on. rw on (⊎_elim (λ e. rw e) (λ e. rw e (handed-behind false)) (tested (eqb (length r.had) 0))))
      (tested (P.over r.state))

pub printed-behind : PrintedBehind
unfolding fed
printed-behind P before r [] = refl
printed-behind P before r (b ∷ bs) = ap (λ (x : Reader P). fed P x bs) (byte-behind P before r b) ∙ printed-behind P before (byte_fed P r b) bs

pub ended-behind : EndedBehind
unfolding reader_ended behind
ended-behind P before r =
    ap (λ (x : Reader P). ((P.end x.state).0, x.printed ++ (P.end x.state).1)) (rest-behind P before r)
    ∙ ap (λ (t : List ℕ). ((P.end (rest_fed P r).state).0, t)) (append_assoc before (rest_fed P r).printed _)
