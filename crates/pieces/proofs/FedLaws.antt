-- A line gathered from a text, and the text fed byte by byte: one law for every program.
use mathlib.Core.Path.{◌≡◌, refl, sym, ap, ◌∙◌}
use mathlib.Core.Logic.{⊎_elim}
use mathlib.Core.Bool.{Bool, true, false, cond}
use mathlib.Core.List.{List, [], ◌∷◌, ◌++◌}
use Prim.Native.Nat.{ℕ, ◌<◌}
use native.Mathlib.Omega.{arith}
use lib.Dec.{eqb, ltb}
use lib.ListN.{length, take, drop}
use lib.Seq.{slice}
use Rattle.text_runs.specs.Lines.{line_feed}
use Rattle.text_runs.specs.Line.{line_limit}
use Rattle.text_runs.proofs.UpToLaws.{tested}
use Rattle.feeding.specs.Program.{Program, handed}
use Rattle.feeding.specs.Feed.{Reader, handed_on, gathered, byte_fed, fed}
use Rattle.pieces.specs.declared.line.LineEnd.{LineEnd}
use Rattle.pieces.specs.declared.line.LineEnd.TheVariants.{Open, Whole, Broken}
use Rattle.pieces.specs.declared.line.Gathered.{Gathered}
use Rattle.pieces.specs.Own.Gathers.{line_gathered, Gathers}
use Rattle.pieces.specs.Piece.{reader}
use Rattle.pieces.proofs.SliceLaws.{slice_front}

-- the bytes of a text that a line takes
unfoldable used : List ℕ → List ℕ → List ℕ
used had [] = []
used had (b ∷ bs) = cond (eqb b line_feed) (b ∷ []) (cond (ltb (length had) line_limit) (b ∷ used (had ++ b ∷ []) bs) (b ∷ []))

used-rest : (had text : List ℕ) → text ≡ used had text ++ (line_gathered had text).1
unfolding used line_gathered
used-rest had [] = refl
used-rest had (b ∷ bs) =
    ⊎_elim
    (λ e. rw e)
    (λ e. rw e (⊎_elim (λ h. rw h (ap (λ (t : List ℕ). b ∷ t) (used-rest (had ++ b ∷ []) bs))) (λ h. rw h) (tested (ltb (length had) line_limit))))
    (tested (eqb b line_feed))

-- how a line ends that is handed on
abbrev pub ended_as : Bool → LineEnd
ended_as true = Whole
ended_as false = Broken

-- the reader then: the line handed on, or gathered
abbrev ended_by : (P : Program) → LineEnd → Reader P → Reader P
ended_by P Open r = r
ended_by P Whole r = handed_on P true r
ended_by P Broken r = handed_on P false r

abbrev gone : (P : Program) → P.State → List ℕ → List ℕ × List ℕ × LineEnd → Reader P
gone P s printed g = ended_by P g.2 (reader P s g.0 printed)

module _ (P : Program) (r : Reader P) (on : P.over r.state ≡ false) (b : ℕ) where
  byte-ends : eqb b line_feed ≡ true → byte_fed P r b ≡ handed_on P true r
  unfolding byte_fed
  byte-ends e = rw (on, e)

  byte-goes : eqb b line_feed ≡ false → ltb (length r.had) line_limit ≡ true → byte_fed P r b ≡ gathered P r b
  unfolding byte_fed
  byte-goes e h = rw (on, e, h)

  byte-breaks : eqb b line_feed ≡ false → ltb (length r.had) line_limit ≡ false → byte_fed P r b ≡ handed_on P false r
  unfolding byte_fed
  byte-breaks e h = rw (on, e, h)

fed-used : (P : Program) (s : P.State) (had printed text : List ℕ) → P.over s ≡ false
    → fed P (reader P s had printed) (used had text) ≡ gone P s printed (line_gathered had text)
unfolding used line_gathered fed gathered
fed-used P s had printed [] on = refl
fed-used P s had printed (b ∷ bs) on =
    let r : Reader P = reader P s had printed in
    ⊎_elim
    (λ e. rw e (byte-ends P r on b e))
    (λ e. rw e
    (⊎_elim
    (λ h. rw h (ap (λ (x : Reader P). fed P x (used (had ++ b ∷ []) bs)) (byte-goes P r on b e h) ∙ fed-used P s (had ++ b ∷ []) printed bs on))
    (λ h. rw h (byte-breaks P r on b e h))
    (tested (ltb (length had) line_limit))))
    (tested (eqb b line_feed))

-- ---- a line gathered from a piece
module _ (P : Program) (s : P.State) (on : P.over s ≡ false) (printed : List ℕ)
    {piece : List ℕ} {from : ℕ} {before : List ℕ} {had : ℕ} {g : Gathered} {after : List ℕ} (h : Gathers piece from before had g after) (more : from < length piece)
  where
    between : slice from g.next piece ≡ used (take had before) (drop from piece)
    between =
        slice_front piece from g.next (used (take had before) (drop from piece)) (omega (arith, h.rises more)) h.within
        (used-rest (take had before) (drop from piece)
        ∙ ap (λ (x : List ℕ × List ℕ × LineEnd). used (take had before) (drop from piece) ++ x.1) (sym h.is))

    gathered-is : fed P (reader P s (take had before) printed) (slice from g.next piece) ≡ gone P s printed (take g.length after, drop g.next piece, g.end)
    gathered-is =
        ap (fed P (reader P s (take had before) printed)) between
        ∙ fed-used P s (take had before) printed (drop from piece) on
        ∙ ap (gone P s printed) (sym h.is)

    pub open_is : g.end ≡ Open → reader P s (take g.length after) printed ≡ fed P (reader P s (take had before) printed) (slice from g.next piece)
    open_is e = sym (rw e at gathered-is)

    pub ended_is : (whole : Bool) → g.end ≡ ended_as whole
        → handed_on P whole (reader P s (take g.length after) printed) ≡ fed P (reader P s (take had before) printed) (slice from g.next piece)
    ended_is true e = sym (rw e at gathered-is)
    ended_is false e = sym (rw e at gathered-is)

-- what the code answers for a line, put behind what is printed
pub handed-is : (P : Program) (s : P.State) (whole : Bool) (line printed : List ℕ) {given : P.State × List ℕ} {text : List ℕ}
    → given ≡ handed P s whole line → text ≡ printed ++ given.1 → reader P given.0 [] text ≡ handed_on P whole (reader P s line printed)
unfolding handed_on
handed-is P s whole line printed e t = rw (t, e)
