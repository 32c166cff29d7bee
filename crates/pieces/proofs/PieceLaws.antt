-- A line of a piece, and what comes then, for every program.
use mathlib.Core.Path.{◌≡◌, refl, sym, ap, subst, ◌∙◌}
use mathlib.Core.Logic.{◌⊎◌, inl, inr}
use mathlib.Core.Bool.{Bool, true, false}
use mathlib.Core.List.{List, [], ◌++◌}
use Prim.Native.Nat.{ℕ, ◌+◌, ◌≤◌, ◌<◌}
use native.Mathlib.Omega.{arith}
use borrow.Author.Tests.{ne_eqb}
use lib.ListN.{length, take}
use lib.Seq.{slice, slice_empty, length-take-le}
use Rattle.feeding.specs.Program.{Program, handed}
use Rattle.feeding.specs.Feed.{Reader, handed_on, fed, rest_fed, reader_ended}
use Rattle.feeding.proofs.FeedLaws.{fed-over, fed-twice}
use Rattle.pieces.specs.declared.line.LineEnd.TheVariants.{Open}
use Rattle.pieces.specs.declared.line.Gathered.{Gathered}
use Rattle.pieces.specs.Own.Gathers.{Gathers}
use Rattle.pieces.specs.Piece.{Limits, Place, reader, reader_of, Buffers, Gives, HandsOn, Goes, Took, Rests, Ends}
use Rattle.pieces.proofs.SliceLaws.{le-or-lt, slice-append}
use Rattle.pieces.proofs.FedLaws.{ended_as, open_is, ended_is, handed-is}

-- ---- a line handed on
-- what is given is the same wherever the program goes on
pub gives_at : {P : Program} {L : Limits P} {given : P.State × List ℕ} {out : List ℕ} {waiting next : ℕ} {r : Place P} {out' : List ℕ} → Gives P L given out waiting next r out'
    → (at : ℕ) → Gives P L given out waiting at (record { state = r.state; had = 0; waiting = r.waiting; at = at }) out'
gives_at g at = record { state = g.state; put = g.put; short = g.short; none = refl; place = refl }

pub gives_as : {P : Program} {L : Limits P} {given told : P.State × List ℕ} {out : List ℕ} {waiting next : ℕ} {r : Place P} {out' : List ℕ} → given ≡ told
    → Gives P L given out waiting next r out' → Gives P L told out waiting next r out'
gives_as {P} {L} {out = out} {waiting} {next} {r} {out'} e g = subst (λ (t : P.State × List ℕ). Gives P L t out waiting next r out') e g

pub hands_on : (P : Program) {L : Limits P} (whole : Bool) (line out : List ℕ) (p : Place P) (next : ℕ) {given : P.State × List ℕ} {r : Place P} {out' : List ℕ}
    → Gives P L given out p.waiting next r out' → given ≡ handed P p.state whole line → HandsOn P L whole line out p next r out'
hands_on P whole line out p next {r = r} {out' = out'} g e = record {
  is = ap (λ (s : P.State). reader P s [] (take r.waiting out')) g.state ∙ handed-is P p.state whole line (take p.waiting out) e g.put.is;
  none = g.none;
  place = g.place;
  room = omega (arith, g.put.count, g.short);
}

module _ {P : Program} {L : Limits P} {whole : Bool} {line out : List ℕ} {p : Place P} {next : ℕ} {r : Place P} {out' : List ℕ} (h : HandsOn P L whole line out p next r out') where
  handed-reader : (line' : List ℕ) → reader_of P r line' out' ≡ handed_on P whole (reader P p.state line (take p.waiting out))
  unfolding reader_of
  handed-reader line' = rw h.none h.is

  pub handed-sound : L.Sound p.state → L.Sound r.state
  unfolding handed_on
  handed-sound s = subst L.Sound (sym (ap (λ (x : Reader P). x.state) h.is)) (L.kept p.state whole line s)

-- ---- the two ways that a line can go
module _ (P : Program) {L : Limits P} {piece line out : List ℕ} {p : Place P} (b : Buffers P L piece line out p) (on : P.over p.state ≡ false) (more : p.at < length piece)
    {g : Gathered} {line' : List ℕ} (h : Gathers piece p.at line p.had g line') where
  pub goes-open : g.end ≡ Open
      → Goes P L piece line out p (record { state = p.state; had = g.length; waiting = p.waiting; at = g.next }) line' out
  unfolding reader_of
  goes-open e = record {
    is = open_is P p.state on (take p.waiting out) h more e;
    within = record { place = h.within; long = b.long; fits = h.fits; room = b.room; sound = b.sound };
    rises = h.rises more;
  }

  pub goes-ended : {whole : Bool} → g.end ≡ ended_as whole → p.waiting + L.most ≤ length out → {had : ℕ} {r : Place P} {out' : List ℕ}
      → HandsOn P L whole (take g.length line') out (record { state = p.state; had = had; waiting = p.waiting; at = g.next }) g.next r out' → Goes P L piece line out p r line' out'
  unfolding reader_of
  goes-ended {whole} e free k = record {
    is = handed-reader k line' ∙ ended_is P p.state on (take p.waiting out) h more whole e ∙ ap (λ (n : ℕ). fed P (reader_of P p line out) (slice p.at n piece)) (sym k.place);
    within = record { place = omega (arith, k.place, h.within); long = b.long; fits = omega (arith, k.none); room = omega (arith, k.room); sound = handed-sound k b.sound };
    rises = omega (arith, k.place, h.rises more);
  }

-- ---- line after line: what the loop over a piece keeps
pub record Kept (P : Program) (L : Limits P) (piece line₀ out₀ : List ℕ) (p₀ : Place P) (line out : List ℕ) (p : Place P) : Type 0 where
  pub is : reader_of P p line out ≡ fed P (reader_of P p₀ line₀ out₀) (slice p₀.at p.at piece)
  pub within : Buffers P L piece line out p
  pub same_line : length line ≡ length line₀
  pub same_out : length out ≡ length out₀
  pub goes : p₀.at ≤ p.at
  pub waits : p.at ≤ p₀.at → p.waiting ≡ p₀.waiting

pub kept-first : (P : Program) {L : Limits P} {piece line out : List ℕ} {p : Place P} → Buffers P L piece line out p → Kept P L piece line out p line out p
unfolding fed
kept-first P {piece = piece} {p = p} b =
    record { is = rw (slice_empty p.at piece); within = b; same_line = refl; same_out = refl; goes = omega arith; waits = λ h. refl }

module _ (P : Program) {L : Limits P} {piece line₀ out₀ : List ℕ} {p₀ : Place P} {line out : List ℕ} {p : Place P} (k : Kept P L piece line₀ out₀ p₀ line out p) where
  -- fed on up to a later place
  on-to : (n : ℕ) → p.at ≤ n → n ≤ length piece
      → fed P (reader_of P p line out) (slice p.at n piece) ≡ fed P (reader_of P p₀ line₀ out₀) (slice p₀.at n piece)
  on-to n h l =
      ap (λ (x : Reader P). fed P x (slice p.at n piece)) k.is
      ∙ sym (fed-twice P (reader_of P p₀ line₀ out₀) (slice p₀.at p.at piece) (slice p.at n piece))
      ∙ ap (fed P (reader_of P p₀ line₀ out₀)) (slice-append piece p₀.at p.at n k.goes h l)

  pub kept_more : {r : Place P} {line' out' : List ℕ} → Goes P L piece line out p r line' out' → length line' ≡ length line → length out' ≡ length out
      → Kept P L piece line₀ out₀ p₀ line' out' r
  kept_more {r = r} g sl so = record {
    is = g.is ∙ on-to r.at (omega (arith, g.rises)) g.within.place;
    within = record { place = g.within.place; long = sl ∙ g.within.long; fits = g.within.fits; room = omega (arith, so, g.within.room); sound = g.within.sound };
    same_line = sl ∙ k.same_line;
    same_out = so ∙ k.same_out;
    goes = omega (arith, g.rises, k.goes);
    waits = λ h. absurd (omega (arith, g.rises, k.goes));
  }

  begun-within : Buffers P L piece line₀ out₀ p
  begun-within = record {
    place = k.within.place;
    long = sym k.same_line ∙ k.within.long;
    fits = k.within.fits;
    room = omega (arith, k.same_out, k.within.room);
    sound = k.within.sound;
  }

  pub took-all : length piece ≤ p.at → Took P L piece line₀ out₀ p₀ p line out
  took-all h = record {
    is = k.is;
    within = begun-within;
    used = λ _. omega (arith, k.within.place);
    goes = k.goes;
    rises = λ _ m. omega arith;
  }

  pub took-full : length out < p.waiting + L.most → Took P L piece line₀ out₀ p₀ p line out
  took-full h = record {
    is = k.is;
    within = begun-within;
    used = λ m. absurd (omega (arith, k.same_out));
    goes = k.goes;
    rises = λ m _. moved m (le-or-lt p.at p₀.at);
  }
    where
      moved : p₀.waiting + L.most ≤ length out₀ → (p.at ≤ p₀.at) ⊎ (p₀.at < p.at) → p₀.at < p.at
      moved m (inl l) = absurd (omega (arith, k.waits l, k.same_out))
      moved m (inr l) = l

  pub took-over : P.over p.state ≡ true
      → Took P L piece line₀ out₀ p₀ (record { state = p.state; had = p.had; waiting = p.waiting; at = length piece }) line out
  unfolding reader_of
  took-over o = record {
    is = sym (fed-over P (reader_of P p line out) (slice p.at (length piece) piece) o) ∙ on-to (length piece) k.within.place (omega arith);
    within = record { place = omega arith; long = begun-within.long; fits = k.within.fits; room = begun-within.room; sound = k.within.sound };
    used = λ _. refl;
    goes = omega (arith, k.goes, k.within.place);
    rises = λ _ m. m;
  }

-- ---- the end of the input
module _ (P : Program) {L : Limits P} {line out : List ℕ} {p : Place P} where
  pub rests-over : P.over p.state ≡ true → Rests P L line out p p out
  unfolding reader_of rest_fed
  rests-over o = record { is = rw o; room = omega arith }

  module _ (on : P.over p.state ≡ false) where
    pub rests-none : p.had ≡ 0 → Rests P L line out p p out
    unfolding reader_of rest_fed
    rests-none e = record { is = rw (on, e); room = omega arith }

    pub rests-some : (p.had ≡ 0 → ⊥) → p.had ≤ length line → {next : ℕ} {r : Place P} {out' : List ℕ}
        → HandsOn P L false (take p.had line) out p next r out' → Rests P L line out p r out'
    unfolding reader_of rest_fed
    rests-some e fits h =
        let l : length (take p.had line) ≡ p.had = length-take-le p.had line fits in
        record { is = handed-reader h line ∙ rw (on, l, ne_eqb p.had 0 e); room = h.room }

pub ends : (P : Program) {L : Limits P} {line out out₁ out' : List ℕ} {p m r : Place P} {given : P.State × List ℕ} {next : ℕ} → Rests P L line out p m out₁
    → Gives P L given out₁ m.waiting next r out' → given ≡ P.end m.state → p.waiting + L.most + L.most ≤ length out → Ends P line out p r out'
unfolding reader_of reader_ended
ends P {out₁ = out₁} {out' = out'} {m = m} {r = r} {given = given} h g e room = record {
  is = ap (λ (s : P.State). (s, take r.waiting out')) g.state
      ∙ ap (λ (t : List ℕ). (given.0, t)) g.put.is
      ∙ ap (λ (x : P.State × List ℕ). (x.0, take m.waiting out₁ ++ x.1)) e
      ∙ ap (λ (x : Reader P). ((P.end x.state).0, x.printed ++ (P.end x.state).1)) h.is;
  room = omega (arith, g.put.count, g.short, h.room);
}
