-- Bytes fed one after another.
use mathlib.Core.Path.{◌≡◌, refl, ap, ◌∙◌}
use mathlib.Core.Logic.{◌⊎◌, inl, inr, ⊎_elim}
use mathlib.Core.Bool.{Bool, true, false}
use mathlib.Core.List.{List, [], ◌∷◌, ◌++◌, append_assoc, append-nil}
use Prim.Native.Nat.{ℕ, ◌+◌, ◌≤◌, ◌<◌}
use native.Mathlib.Omega.{arith}
use borrow.Author.Tests.{eqb-true, eqb-false, ne_eqb, lt-ltb, ltb-true, ltb-false}
use lib.Dec.{eqb, ltb}
use lib.ListN.{length, length-append}
use Rattle.text_runs.specs.Lines.{line_feed}
use Rattle.text_runs.specs.Line.{line_limit}
use Rattle.text_runs.specs.Own.Lacks.{lacks}
use Rattle.text_runs.proofs.UpToLaws.{tested}
use Rattle.feeding.specs.Program.{Program, handed}
use Rattle.feeding.specs.Feed.{Reader, handed_on, gathered, byte_fed, fed, rest_fed, reader_ended}
use Rattle.feeding.specs.Budget.{handed_by}
use Rattle.feeding.specs.Theorems.{FedTwice}

pub fed-twice : FedTwice
unfolding fed
fed-twice P r [] q = refl
fed-twice P r (b ∷ p) q = fed-twice P (byte_fed P r b) p q

-- ---- one byte, in the four ways that it can go: the reader afterwards, and how many lines are handed on
module _ (P : Program) (r : Reader P) (b : ℕ) (Q : Reader P → ℕ → Type 0) where
  pub by_byte : (P.over r.state ≡ true → Q r 0)
      → (P.over r.state ≡ false → b ≡ line_feed → Q (handed_on P true r) 1)
      → (P.over r.state ≡ false → (b ≡ line_feed → ⊥) → length r.had < line_limit → Q (gathered P r b) 0)
      → (P.over r.state ≡ false → (b ≡ line_feed → ⊥) → line_limit ≤ length r.had → Q (handed_on P false r) 1)
      → Q (byte_fed P r b) (handed_by P r b)
  unfolding byte_fed handed_by
  by_byte ignored ends more long =
      ⊎_elim
      (λ o. rw o (ignored o))
      (λ on. rw on (⊎_elim
      (λ e. rw e (ends on (eqb-true b line_feed e)))
      (λ e. rw e (⊎_elim
      (λ h. rw h (more on (eqb-false b line_feed e) (ltb-true _ _ h)))
      (λ h. rw h (long on (eqb-false b line_feed e) (ltb-false _ _ h)))
      (tested (ltb (length r.had) line_limit))))
      (tested (eqb b line_feed))))
      (tested (P.over r.state))

-- ---- a program that is over ignores what comes
pub fed-over : (P : Program) (r : Reader P) (bs : List ℕ) → P.over r.state ≡ true → fed P r bs ≡ r
unfolding fed byte_fed
fed-over P r [] o = refl
fed-over P r (b ∷ bs) o = rw (byte_fed, o) (fed-over P r bs o)

pub ended-over : (P : Program) (r : Reader P) → P.over r.state ≡ true → (reader_ended P r).1 ≡ r.printed ++ (P.end r.state).1
unfolding reader_ended rest_fed
ended-over P r o = rw o

-- ---- the bytes had never leave the room of a line
pub one_more : (had : List ℕ) (b : ℕ) → length had < line_limit → length (had ++ b ∷ []) ≤ line_limit
one_more had b h = omega (arith, length-append had (b ∷ []))

abbrev pub Fits : (P : Program) → Reader P → Type 0
Fits P r = length r.had ≤ line_limit

pub byte_fits : (P : Program) (r : Reader P) (b : ℕ) → Fits P r → Fits P (byte_fed P r b)
unfolding handed_on gathered
byte_fits P r b fits = by_byte P r b (λ x _. Fits P x) (λ o. fits) (λ on e. omega arith) (λ on other h. one_more r.had b h) (λ on other h. omega arith)

pub fed-fits : (P : Program) (r : Reader P) (bs : List ℕ) → Fits P r → Fits P (fed P r bs)
unfolding fed
fed-fits P r [] fits = fits
fed-fits P r (b ∷ bs) fits = fed-fits P (byte_fed P r b) bs (byte_fits P r b fits)

-- ---- a whole line, behind bytes of it that are had
byte-gathered : (P : Program) (r : Reader P) (b : ℕ) → P.over r.state ≡ false → (b ≡ line_feed → ⊥) → length r.had < line_limit → byte_fed P r b ≡ gathered P r b
unfolding byte_fed
byte-gathered P r b on other h = rw (on, ne_eqb b line_feed other, lt-ltb (length r.had) line_limit h)

module _ (P : Program) (s : P.State) (on : P.over s ≡ false) (out : List ℕ) where
  pub line-fed : (had bytes : List ℕ) → lacks line_feed bytes → length had + length bytes ≤ line_limit
      → fed P (record { state = s; had = had; printed = out }) (bytes ++ line_feed ∷ []) ≡ handed_on P true (record { state = s; had = had ++ bytes; printed = out })
  unfolding fed byte_fed gathered lacks
  line-fed had [] l h = rw (byte_fed, on, append-nil)
  line-fed had (b ∷ bytes) l h =
      ap (λ (r : Reader P). fed P r (bytes ++ line_feed ∷ [])) (byte-gathered P _ b on l.0 (omega arith))
      ∙ line-fed (had ++ b ∷ []) bytes l.1 (omega (arith, length-append had (b ∷ [])))
      ∙ rw append_assoc
