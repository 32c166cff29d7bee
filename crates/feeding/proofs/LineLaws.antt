-- Bytes fed one after another print what the lines print.
use mathlib.Core.Path.{◌≡◌, refl, sym, ap, ◌∙◌}
use mathlib.Core.Logic.{◌⊎◌, inl, inr, ⊎_elim}
use mathlib.Core.Bool.{Bool, true, false, ◌&&◌}
use mathlib.Core.List.{List, [], ◌∷◌, ◌++◌, append_assoc, append-nil}
use Prim.Native.Nat.{ℕ, suc, ◌≤◌, ◌<◌}
use native.Mathlib.Omega.{arith}
use borrow.Author.Tests.{le-leb, lt-leb, ne_eqb}
use lib.Dec.{leb, eqb-suc-zero}
use lib.ListN.{length, length-append}
use Rattle.text_runs.specs.Lines.{line_feed}
use Rattle.text_runs.specs.Line.{line_limit}
use Rattle.text_runs.specs.Input.{Line, byte_in_front, lines_of}
use Rattle.text_runs.proofs.UpToLaws.{tested}
use Rattle.feeding.specs.Program.{Program, handed}
use Rattle.feeding.specs.Feed.{Reader, handed_on, gathered, byte_fed, fed, rest_fed, reader_ended}
use Rattle.feeding.specs.Lines.{line_handed, printed_from}
use Rattle.feeding.proofs.FeedLaws.{by_byte, one_more, fed-over, ended-over}

-- ---- lines behind bytes of the first one
unfoldable pub in_front_all : List ℕ → List Line → List Line
in_front_all [] lines = lines
in_front_all (b ∷ had) lines = byte_in_front b (in_front_all had lines)

pub behind-line : (had : List ℕ) (ends : Bool) (bytes : List ℕ) (lines : List Line) → in_front_all had ((ends, bytes) ∷ lines) ≡ (ends, had ++ bytes) ∷ lines
unfolding in_front_all byte_in_front
behind-line [] ends bytes lines = refl
behind-line (b ∷ had) ends bytes lines = ap (byte_in_front b) (behind-line had ends bytes lines)

pub behind-byte : (had : List ℕ) (b : ℕ) (lines : List Line) → in_front_all had (byte_in_front b lines) ≡ in_front_all (had ++ b ∷ []) lines
unfolding in_front_all
behind-byte [] b lines = refl
behind-byte (a ∷ had) b lines = ap (byte_in_front a) (behind-byte had b lines)

pub behind-none : (b : ℕ) (had : List ℕ) → in_front_all (b ∷ had) [] ≡ (false, b ∷ had) ∷ []
unfolding in_front_all byte_in_front
behind-none b [] = refl
behind-none b (a ∷ had) = ap (byte_in_front b) (behind-none a had)

never-whole : (ends : Bool) → (ends && false) ≡ false
never-whole true = refl
never-whole false = refl

module _ (P : Program) where
  -- ---- one line
  quiet_line : (s : P.State) (line : Line) → P.over s ≡ true → line_handed P s line ≡ (s, [])
  unfolding line_handed handed
  quiet_line s line o =
      ⊎_elim
      (λ w. rw w ((P.quiet s o).0 line.1))
      (λ w. rw w (P.quiet s o).1)
      (tested (line.0 && leb (length line.1) line_limit))

  pub printed-over : (s : P.State) (lines : List Line) → P.over s ≡ true → printed_from P s lines ≡ (P.end s).1
  unfolding printed_from
  printed-over s [] o = refl
  printed-over s (line ∷ lines) o = rw (quiet_line s line o) (printed-over s lines o)

  pub taken-short : (s : P.State) (ends : Bool) (bytes : List ℕ) → length bytes ≤ line_limit → line_handed P s (ends, bytes) ≡ handed P s (ends && true) bytes
  unfolding line_handed
  taken-short s ends bytes h = ap (λ (short : Bool). handed P s (ends && short) bytes) (le-leb (length bytes) line_limit h)

  taken-long : (s : P.State) (ends : Bool) (had : List ℕ) (b : ℕ) (bytes : List ℕ) → length had ≡ line_limit → line_handed P s (ends, had ++ b ∷ bytes) ≡ P.broken s
  unfolding line_handed handed
  taken-long s ends had b bytes h =
      let l : line_limit < length (had ++ b ∷ bytes) = omega (arith, length-append had (b ∷ bytes)) in
      ap (λ (short : Bool). handed P s (ends && short) (had ++ b ∷ bytes)) (lt-leb (length (had ++ b ∷ bytes)) line_limit l)
      ∙ ap (λ (whole : Bool). handed P s whole (had ++ b ∷ bytes)) (never-whole ends)

  printed-line : (s : P.State) (line : Line) (lines : List Line) {given : P.State × List ℕ} → line_handed P s line ≡ given
      → printed_from P s (line ∷ lines) ≡ given.1 ++ printed_from P given.0 lines
  unfolding printed_from
  printed-line s line lines e = rw e

  module _ (s : P.State) where
    long-first : (had : List ℕ) (b : ℕ) (ends : Bool) (bytes : List ℕ) (lines : List Line) → length had ≡ line_limit
        → printed_from P s (in_front_all had ((ends, b ∷ bytes) ∷ lines)) ≡ (P.broken s).1 ++ (P.end (P.broken s).0).1
    long-first had b ends bytes lines h =
        ap (printed_from P s) (behind-line had ends (b ∷ bytes) lines)
        ∙ printed-line s _ lines (taken-long s ends had b bytes h)
        ∙ ap (λ (t : List ℕ). (P.broken s).1 ++ t) (printed-over _ lines (P.stops s))

    long-printed : (had : List ℕ) (b : ℕ) (lines : List Line) → length had ≡ line_limit
        → printed_from P s (in_front_all had (byte_in_front b lines)) ≡ (P.broken s).1 ++ (P.end (P.broken s).0).1
    unfolding byte_in_front
    long-printed had b [] h = long-first had b false [] [] h
    long-printed had b (line ∷ lines) h = long-first had b line.0 line.1 lines h

    -- the end: bytes that no line feed has ended
    rest-printed : P.over s ≡ false → (had out : List ℕ) → length had ≤ line_limit
        → (reader_ended P (record { state = s; had = had; printed = out })).1 ≡ out ++ printed_from P s (in_front_all had [])
    unfolding reader_ended rest_fed handed_on in_front_all printed_from handed
    rest-printed on [] out h = rw on
    rest-printed on (b ∷ had) out h =
        rw (on, eqb-suc-zero (length had))
        (append_assoc out _ _
        ∙ ap (λ (t : List ℕ). out ++ t) (sym (ap (printed_from P s) (behind-none b had) ∙ printed-line s _ [] (taken-short s false (b ∷ had) h))))

  -- ---- byte by byte
  abbrev as-lines : List ℕ → Reader P → Type 0
  as-lines bs r = (reader_ended P (fed P r bs)).1 ≡ r.printed ++ printed_from P r.state (in_front_all r.had (lines_of bs))

  over-as-lines : (r : Reader P) (bs : List ℕ) (lines : List Line) → P.over r.state ≡ true
      → (reader_ended P (fed P r bs)).1 ≡ r.printed ++ printed_from P r.state lines
  over-as-lines r bs lines o =
      ap (λ (x : Reader P). (reader_ended P x).1) (fed-over P r bs o)
      ∙ ended-over P r o
      ∙ ap (λ (t : List ℕ). r.printed ++ t) (sym (printed-over r.state lines o))

  module _ (r : Reader P) (b : ℕ) (bs : List ℕ) where
    -- after the byte b as it is after r, which b comes in front of
    abbrev Goes : Reader P → Type 0
    Goes x = (reader_ended P (fed P x bs)).1 ≡ r.printed ++ printed_from P r.state (in_front_all r.had (lines_of (b ∷ bs)))

    module _ (fits : length r.had ≤ line_limit) where
      feed-as-lines : b ≡ line_feed → as-lines bs (handed_on P true r) → Goes (handed_on P true r)
      unfolding lines_of handed_on in_front_all
      feed-as-lines e next =
          next
          ∙ append_assoc r.printed _ _
          ∙ ap (λ (t : List ℕ). r.printed ++ t)
          (sym
          (rw e
          (ap (printed_from P r.state) (behind-line r.had true [] (lines_of bs) ∙ rw append-nil)
          ∙ printed-line r.state _ (lines_of bs) (taken-short r.state true r.had fits))))

      module _ (other : b ≡ line_feed → ⊥) where
        byte-as-lines : as-lines bs (gathered P r b) → Goes (gathered P r b)
        unfolding lines_of gathered
        byte-as-lines next =
            next ∙ rw (ne_eqb b line_feed other) (ap (λ (ls : List Line). r.printed ++ printed_from P r.state ls) (sym (behind-byte r.had b (lines_of bs))))

        long-as-lines : line_limit ≤ length r.had → Goes (handed_on P false r)
        unfolding lines_of handed_on handed
        long-as-lines h =
            let full : length r.had ≡ line_limit = omega arith in
            ap (λ (x : Reader P). (reader_ended P x).1) (fed-over P _ bs (P.stops r.state))
            ∙ ended-over P _ (P.stops r.state)
            ∙ append_assoc r.printed _ _
            ∙ rw (ne_eqb b line_feed other) (ap (λ (t : List ℕ). r.printed ++ t) (sym (long-printed r.state r.had b (lines_of bs) full)))

  pub fed-as-lines : (r : Reader P) (bs : List ℕ) → length r.had ≤ line_limit → as-lines bs r
  unfolding fed lines_of handed_on gathered
  fed-as-lines r [] fits =
      ⊎_elim (over-as-lines r [] _) (λ on. rest-printed r.state on r.had r.printed fits) (tested (P.over r.state))
  fed-as-lines r (b ∷ bs) fits =
      by_byte P r b (λ x _. Goes r b bs x)
      (over-as-lines r bs _)
      (λ on e. feed-as-lines r b bs fits e (fed-as-lines (handed_on P true r) bs (omega arith)))
      (λ on other h. byte-as-lines r b bs fits other (fed-as-lines (gathered P r b) bs (one_more r.had b h)))
      (λ on other h. long-as-lines r b bs fits other h)
