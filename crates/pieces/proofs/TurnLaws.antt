-- A turn of a program's loop: the piece goes on or the next one is read, the step is made, its output is written.
use mathlib.Core.Path.{◌≡◌, refl, sym, ◌∙◌}
use mathlib.Core.Logic.{◌⊎◌, ⊎_elim, inl, inr}
use mathlib.Core.Bool.{true, false}
use mathlib.Core.List.{List, []}
use Prim.Native.Nat.{ℕ, ◌+◌, ◌≤◌, ◌<◌}
use native.Mathlib.Omega.{arith}
use lib.ListN.{length, take}
use lib.Seq.{length-take-le}
use Rattle.std.specs.Prelude.{Option}
use Rattle.std.specs.Io.KnownBytes.{Appends, IsAtEnd}
use Rattle.text_runs.specs.Line.{line_limit}
use Rattle.feeding.specs.Program.{Program}
use Rattle.feeding.specs.Budget.{Bounded, accepts}
use Rattle.pieces.specs.declared.reading.PieceRead.{PieceRead}
use Rattle.pieces.specs.Own.Refills.{Refills}
use Rattle.pieces.specs.Piece.{Limits, Place, reader, Buffers, Took, Ends}
use Rattle.pieces.specs.Run.{RanToTheEnd}
use Rattle.pieces.proofs.RunLaws.{on_at, all_written, Passed, passed-first, passed-refilled, passed-took, ran_to_the_end, took-counted}

-- what the loop keeps
pub record Turns (P : Program) (L : Limits P) (s : P.State) (left left' held held' : Option (List ℕ)) (buffer line out : List ℕ) (p : Place P) (count : ℕ) : Type 0 where
  pub long : length line ≡ line_limit
  pub fits : p.had ≤ line_limit
  pub none : p.waiting ≡ 0
  pub place : p.at ≤ count
  pub within : count ≤ length buffer
  pub free : L.most + L.most ≤ length out
  pub sound : L.Sound p.state
  pub passed : Passed P s left left' held held' (take count buffer) line p

-- what falls
abbrev pub turns_left : (P : Program) → Bounded P → List ℕ → Place P → ℕ
turns_left P B line p = accepts P B (reader P p.state (take p.had line) [])

pub turns-first : (P : Program) {L : Limits P} {s : P.State} (left held : Option (List ℕ)) (buffer line out : List ℕ) → L.Sound s → length line ≡ line_limit → L.most + L.most ≤ length out
    → Turns P L s left left held held buffer line out (record { state = s; had = 0; waiting = 0; at = 0 }) 0
turns-first P {s = s} left held buffer line out h l f = record {
  long = l;
  fits = omega arith;
  none = refl;
  place = omega arith;
  within = omega arith;
  free = f;
  sound = h;
  passed = passed-first P s left held buffer line;
}

module _ (P : Program) {L : Limits P} {s : P.State} {left left' held held' : Option (List ℕ)} {buffer line out : List ℕ} {p : Place P} {count : ℕ}
    (k : Turns P L s left left' held held' buffer line out p count) {f : PieceRead} {buffer' : List ℕ} {left″ : Option (List ℕ)} (h : Refills left' left″ buffer count p.at f buffer')
    (same : length buffer' ≡ length buffer) where
  piece-long : length (take f.count buffer') ≡ f.count
  piece-long = length-take-le f.count buffer' (omega (arith, h.fits))

  pub turn-begins : Buffers P L (take f.count buffer') line out (on_at P p f.at)
  turn-begins = record { place = omega (arith, piece-long, h.place); long = k.long; fits = k.fits; room = omega (arith, k.none); sound = k.sound }

  module _ {r : Place P} {line' out' : List ℕ} (t : Took P L (take f.count buffer') line out (on_at P p f.at) r line' out') where
    pub turn-again : {held″ : Option (List ℕ)} → Appends held' held″ (take r.waiting out') → length line' ≡ length line
        → length out' ≡ length out → Turns P L s left left″ held held″ buffer' line' out' (all_written P r) f.count
    turn-again w sl so = record {
      long = sl ∙ k.long;
      fits = t.within.fits;
      none = refl;
      place = omega (arith, t.within.place, piece-long);
      within = omega (arith, same, h.fits);
      free = omega (arith, so, k.free);
      sound = t.within.sound;
      passed = passed-took P (passed-refilled P k.passed h) k.none t w;
    }

    pub turn-less : (B : Bounded P) → 0 < f.count → P.over r.state ≡ false → turns_left P B line' (all_written P r) < turns_left P B line p
    turn-less B some on = took-counted P B t k.fits (t.rises (omega (arith, k.none, k.free)) (omega (arith, h.more some, piece-long))) on

-- ---- no turn more
pub turns-end : (P : Program) {L : Limits P} {s : P.State} {left left' held held' held″ : Option (List ℕ)} {buffer line out out' : List ℕ} {p r : Place P} {count room : ℕ}
    → Turns P L s left left' held held' buffer line out p count → (count ≡ 0) ⊎ (P.over p.state ≡ true) → (count ≡ 0 → 0 < length buffer → IsAtEnd left') → length buffer ≡ room
    → Ends P line out p r out' → Appends held' held″ (take r.waiting out') → RanToTheEnd P s left left' held held″ room r.state
turns-end P {buffer = buffer} {count = count} k why ended same e w =
    let long : length (take count buffer) ≡ count = length-take-le count buffer k.within in
    ran_to_the_end P k.passed (omega (arith, long, k.place)) (⊎_elim (λ n. inl (long ∙ n)) (λ o. inr o) why) (λ n some. ended (sym long ∙ n) (omega (arith, same, some))) k.none e w

-- the same, with what the step gave first, which says what the piece is
module _ (P : Program) {L : Limits P} {s : P.State} {left left' held held' : Option (List ℕ)} {buffer line out : List ℕ} {p : Place P} {count : ℕ}
    (k : Turns P L s left left' held held' buffer line out p count) {f : PieceRead} {buffer' : List ℕ} {r : Place P} {line' out' : List ℕ}
    (t : Took P L (take f.count buffer') line out (on_at P p f.at) r line' out') {left″ : Option (List ℕ)} (h : Refills left' left″ buffer count p.at f buffer')
    (same : length buffer' ≡ length buffer) where
  pub stepped : {held″ : Option (List ℕ)} → Appends held' held″ (take r.waiting out') → length line' ≡ length line
      → length out' ≡ length out → Turns P L s left left″ held held″ buffer' line' out' (all_written P r) f.count
  stepped w sl so = turn-again P k h same t w sl so

  pub stepped-less : (B : Bounded P) → 0 < f.count → P.over r.state ≡ false → turns_left P B line' (all_written P r) < turns_left P B line p
  stepped-less B some on = turn-less P k h same t B some on

  -- no turn more behind that step
  pub stepped-last : (held″ : Option (List ℕ)) {held‴ : Option (List ℕ)} {out″ : List ℕ} {q : Place P} {room : ℕ} → Appends held' held″ (take r.waiting out') → length line' ≡ length line
      → length out' ≡ length out → (f.count ≡ 0) ⊎ (P.over r.state ≡ true) → length buffer' ≡ room
      → Ends P line' out' (all_written P r) q out″ → Appends held″ held‴ (take q.waiting out″) → RanToTheEnd P s left left″ held held‴ room q.state
  stepped-last held″ w sl so why long e last = turns-end P (turn-again P k h same t w sl so) why h.ended long e last
