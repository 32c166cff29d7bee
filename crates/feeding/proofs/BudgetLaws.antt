-- Each byte fed counts, and each line.
use mathlib.Core.Path.{◌≡◌, refl, sym, ap, subst, ◌∙◌}
use mathlib.Core.Logic.{◌⊎◌, inl, inr, ⊎_elim}
use mathlib.Core.Bool.{Bool, true, false, cond}
use mathlib.Core.List.{List, [], ◌∷◌, ◌++◌}
use Prim.Native.Nat.{ℕ, suc, ◌+◌, ◌-◌, ◌*◌, ◌≤◌, ◌<◌}
use native.Mathlib.Omega.{arith}
use lib.ListN.{length, length-append}
use Rattle.text_runs.specs.Line.{line_limit}
use Rattle.text_runs.proofs.UpToLaws.{tested}
use Rattle.feeding.specs.Program.{Program, handed}
use Rattle.feeding.specs.Feed.{Reader, reader_begun, handed_on, gathered, byte_fed, fed}
use Rattle.feeding.specs.Budget.{Bounded, line_bytes, accepts, handed_by, lines_handed}
use Rattle.feeding.specs.Theorems.{BytesCounted, LinesHandedOn, LinesCounted, OverInTheEnd, OverWithinBudget}
use Rattle.feeding.proofs.FeedLaws.{by_byte, fed-over, Fits, byte_fits, fed-fits}

-- ---- lines handed on
module _ (P : Program) where
  abbrev Over : Reader P → Type 0
  Over r = P.over r.state ≡ true

  still-over : (r : Reader P) (bs : List ℕ) → Over r → Over (fed P r bs)
  still-over r bs o = ap (λ (x : Reader P). P.over x.state) (fed-over P r bs o) ∙ o

  -- a reader that is over, or that has so many bytes and lines of what it was fed
  abbrev Has : ℕ → ℕ → Reader P → Type 0
  Has n lines r = Over r ⊎ (n ≤ lines * line_bytes + length r.had)

  byte-has : (r : Reader P) (b : ℕ) → Fits P r → Has (suc (length r.had)) (handed_by P r b) (byte_fed P r b)
  unfolding handed_on gathered handed
  byte-has r b fits =
      by_byte P r b (λ x n. Has (suc (length r.had)) n x)
      inl
      (λ on e. inr (omega arith))
      (λ on other h. inr (omega (arith, length-append r.had (b ∷ []))))
      (λ on other h. inl (P.stops r.state))

  fed-has : (r : Reader P) (bs : List ℕ) → Fits P r → Has (length r.had + length bs) (lines_handed P r bs) (fed P r bs)
  unfolding fed lines_handed
  fed-has r [] fits = inr (omega arith)
  fed-has r (b ∷ bs) fits =
      ⊎_elim
      (λ o. inl (still-over (byte_fed P r b) bs o))
      (λ h. ⊎_elim inl (λ k. inr (omega (arith, h, k))) (fed-has (byte_fed P r b) bs (byte_fits P r b fits)))
      (byte-has r b fits)

pub lines-handed-on : LinesHandedOn
lines-handed-on P r bytes n fits h =
    ⊎_elim inl (λ k. inr (omega (arith, k, fed-fits P r bytes fits))) (fed-has P r bytes fits)

module _ (P : Program) (B : Bounded P) where
  byte_left : (r : Reader P) (b : ℕ) → Over P (byte_fed P r b) ⊎ (B.left (byte_fed P r b).state + handed_by P r b ≤ B.left r.state)
  unfolding handed_on gathered handed
  byte_left r b =
      by_byte P r b (λ x n. Over P x ⊎ (B.left x.state + n ≤ B.left r.state))
      inl
      (λ on e. inr (omega (arith, B.counts r.state r.had on)))
      (λ on other h. inr (omega arith))
      (λ on other h. inl (P.stops r.state))

  fed-left : (r : Reader P) (bs : List ℕ) → Over P (fed P r bs) ⊎ (B.left (fed P r bs).state + lines_handed P r bs ≤ B.left r.state)
  unfolding fed lines_handed
  fed-left r [] = inr (omega arith)
  fed-left r (b ∷ bs) =
      ⊎_elim
      (λ o. inl (still-over P (byte_fed P r b) bs o))
      (λ h. ⊎_elim inl (λ k. inr (omega (arith, h, k))) (fed-left (byte_fed P r b) bs))
      (byte_left r b)

pub lines-counted : LinesCounted
lines-counted P B r bytes = fed-left P B r bytes

-- ---- bytes accepted
module _ (P : Program) (B : Bounded P) where
  accepts-over : (r : Reader P) → P.over r.state ≡ true → accepts P B r ≡ 0
  unfolding accepts
  accepts-over r o = rw o

  accepts-on : (r : Reader P) → P.over r.state ≡ false → accepts P B r ≡ line_bytes * B.left r.state - length r.had
  unfolding accepts
  accepts-on r on = rw on

  accepts-most : (r : Reader P) → accepts P B r ≤ line_bytes * B.left r.state - length r.had
  accepts-most r = ⊎_elim (λ o. omega (arith, accepts-over r o)) (λ on. omega (arith, accepts-on r on)) (tested (P.over r.state))

  byte-counted : (r : Reader P) (b : ℕ) → Fits P r → accepts P B (byte_fed P r b) ≤ accepts P B r - 1
  unfolding handed_on gathered handed
  byte-counted r b fits =
      by_byte P r b (λ x _. accepts P B x ≤ accepts P B r - 1)
      (λ o. omega (arith, accepts-over r o))
      (λ on e. omega (arith, accepts-most (handed_on P true r), accepts-on r on, B.counts r.state r.had on))
      (λ on other h. omega (arith, accepts-most (gathered P r b), accepts-on r on, length-append r.had (b ∷ [])))
      (λ on other h. omega (arith, accepts-over (handed_on P false r) (P.stops r.state)))

  pub over-at-none : (r : Reader P) → Fits P r → accepts P B r ≡ 0 → P.over r.state ≡ true
  over-at-none r fits e =
      ⊎_elim (λ o. o) (λ on. absurd (omega (arith, accepts-on r on, B.counts r.state r.had on))) (tested (P.over r.state))

pub counted : BytesCounted
unfolding fed
counted P B r [] fits = omega arith
counted P B r (b ∷ bs) fits = omega (arith, byte-counted P B r b fits, counted P B (byte_fed P r b) bs (byte_fits P r b fits))

pub over-in-the-end : OverInTheEnd
over-in-the-end P B r bytes fits h = over-at-none P B (fed P r bytes) (fed-fits P r bytes fits) (omega (arith, counted P B r bytes fits))

pub over-within-budget : OverWithinBudget
unfolding reader_begun
over-within-budget P B s bytes h = over-in-the-end P B (reader_begun P s) bytes (omega arith) (omega (arith, accepts-most P B (reader_begun P s)))
