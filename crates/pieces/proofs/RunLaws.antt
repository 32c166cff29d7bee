-- A whole run, turn after turn, for every program.
use mathlib.Core.Path.{◌≡◌, refl, sym, ap, subst, ◌∙◌}
use mathlib.Core.Logic.{◌⊎◌, inl, inr, ⊎_elim}
use mathlib.Core.Bool.{true, false, false≢true}
use mathlib.Core.List.{List, [], ◌++◌, append_assoc, append-nil}
use Prim.Native.Nat.{ℕ, ◌-◌, ◌≤◌, ◌<◌}
use native.Mathlib.Omega.{arith}
use lib.ListN.{length, take, drop, length-take, take-append-drop}
use lib.Seq.{slice, length-slice, take_all}
use Rattle.std.specs.Prelude.{Option}
use Rattle.std.specs.Io.KnownBytes.{Appends, Consumes, IsAtEnd}
use Rattle.std.proofs.KnownBytes.{Appends-nil, Appends-trans, Consumes-nil, Consumes-trans, Consumes-kept}
use Rattle.text_runs.specs.Line.{line_limit}
use Rattle.feeding.specs.Program.{Program}
use Rattle.feeding.specs.Feed.{Reader, reader_begun, fed, reader_ended}
use Rattle.feeding.specs.Budget.{Bounded, accepts}
use Rattle.feeding.specs.Own.Behind.{behind}
use Rattle.feeding.proofs.FeedLaws.{fed-over, fed-twice, fed-fits}
use Rattle.feeding.proofs.BudgetLaws.{counted, over-at-none}
use Rattle.feeding.proofs.BehindLaws.{printed-behind, ended-behind}
use Rattle.feeding.proofs.Cuts.{all-printed}
use Rattle.pieces.specs.declared.reading.PieceRead.{PieceRead}
use Rattle.pieces.specs.Own.Refills.{Refills}
use Rattle.pieces.specs.Piece.{Limits, Place, reader, reader_of, Took, Ends}
use Rattle.pieces.specs.Run.{Ran, RanToTheEnd}
use Rattle.pieces.proofs.SliceLaws.{le-or-lt, take-slice}

-- the place is another
abbrev pub on_at : (P : Program) → Place P → ℕ → Place P
on_at P p at = record { state = p.state; had = p.had; waiting = p.waiting; at = at }

-- nothing waits
abbrev pub all_written : (P : Program) → Place P → Place P
all_written P p = record { state = p.state; had = p.had; waiting = 0; at = p.at }

fresh : (P : Program) (s : P.State) (had printed : List ℕ) → behind P printed (reader P s had []) ≡ reader P s had printed
unfolding behind
fresh P s had printed = ap (reader P s had) (append-nil printed)

-- What it has read of the input are the pieces before and this one, and it has written what it says.
pub record Passed (P : Program) (s : P.State) (left left' held held' : Option (List ℕ)) (piece line : List ℕ) (p : Place P) : Type 0 where
  pub ran : Ran P s piece line p
  pub reads : Consumes left left' (ran.before ++ piece)
  pub writes : Appends held held' ran.written

pub passed-first : (P : Program) (s : P.State) (left held : Option (List ℕ)) (buffer line : List ℕ)
    → Passed P s left left held held (take 0 buffer) line (record { state = s; had = 0; waiting = 0; at = 0 })
unfolding reader_begun fed
passed-first P s left held buffer line = record { ran = record { before = []; written = []; is = refl }; reads = Consumes-nil left; writes = Appends-nil held }

-- ---- the piece goes on, or another comes behind it
module _ (P : Program) {s : P.State} {left left' held held' : Option (List ℕ)} {buffer line : List ℕ} {count : ℕ} {p : Place P}
    (k : Passed P s left left' held held' (take count buffer) line p) {f : PieceRead} {buffer' : List ℕ} {left″ : Option (List ℕ)}
    (h : Refills left' left″ buffer count p.at f buffer') where
  passed-stays : p.at < count → Passed P s left left″ held held' (take f.count buffer') line (on_at P p f.at)
  passed-stays l = let t = h.stays l in record {
    ran = record {
      before = k.ran.before;
      written = k.ran.written;
      is = k.ran.is
          ∙ ap (λ (n : ℕ). fed P (reader_begun P s) (k.ran.before ++ take n (take count buffer))) (sym t.2)
          ∙ ap (λ (n : ℕ). fed P (reader_begun P s) (k.ran.before ++ take f.at (take n buffer))) (sym t.1)
          ∙ ap (λ (b : List ℕ). fed P (reader_begun P s) (k.ran.before ++ take f.at (take f.count b))) (sym t.0);
    };
    reads = subst (λ (piece : List ℕ). Consumes left left″ (k.ran.before ++ piece))
        (ap (λ (n : ℕ). take n buffer) (sym t.1) ∙ ap (take f.count) (sym t.0))
        (Consumes-kept left left' left″ _ k.reads (h.unread l));
    writes = k.writes;
  }

  passed-next : count ≤ p.at → Passed P s left left″ held held' (take f.count buffer') line (on_at P p f.at)
  passed-next l =
      let all : take p.at (take count buffer) ≡ take count buffer = take_all p.at (take count buffer) (omega (arith, length-take count buffer)) in
      let so_far : List ℕ = k.ran.before ++ take count buffer in
      record {
        ran = record {
          before = so_far;
          written = k.ran.written;
          is = k.ran.is
              ∙ ap (λ (t : List ℕ). fed P (reader_begun P s) (k.ran.before ++ t)) all
              ∙ ap (fed P (reader_begun P s)) (sym (append-nil so_far))
              ∙ ap (λ (n : ℕ). fed P (reader_begun P s) (so_far ++ take n (take f.count buffer'))) (sym (h.next l));
        };
        reads = Consumes-trans left left' left″ so_far (take f.count buffer') k.reads (h.reads l);
        writes = k.writes;
      }

  pub passed-refilled : Passed P s left left″ held held' (take f.count buffer') line (on_at P p f.at)
  passed-refilled = ⊎_elim passed-next passed-stays (le-or-lt count p.at)

-- ---- a step on the piece, and its output written
pub passed-took : (P : Program) {L : Limits P} {s : P.State} {left left' held held' held″ : Option (List ℕ)} {piece line out line' out' : List ℕ} {p r : Place P}
    → Passed P s left left' held held' piece line p → p.waiting ≡ 0 → Took P L piece line out p r line' out' → Appends held' held″ (take r.waiting out')
    → Passed P s left left' held held″ piece line' (all_written P r)
unfolding behind reader_of
passed-took P {s = s} {held = held} {held' = held'} {held″} {piece = piece} {line} {out} {line'} {out'} {p} {r} k none t w =
    let ran : Ran P s piece line p = k.ran in
    let part : List ℕ = slice p.at r.at piece in
    let h : List ℕ = take p.had line in
    record {
      ran = record {
        before = ran.before;
        written = ran.written ++ take r.waiting out';
        is = ap (behind P ran.written) (t.is ∙ ap (λ (n : ℕ). fed P (reader P p.state h (take n out)) part) none)
            ∙ sym (printed-behind P ran.written (reader P p.state h []) part)
            ∙ ap (λ (x : Reader P). fed P x part) (fresh P p.state h ran.written ∙ ran.is)
            ∙ sym (fed-twice P (reader_begun P s) (ran.before ++ take p.at piece) part)
            ∙ ap (fed P (reader_begun P s)) (append_assoc ran.before (take p.at piece) part ∙ ap (λ (l : List ℕ). ran.before ++ l) (take-slice piece p.at r.at t.goes));
      };
      reads = k.reads;
      writes = Appends-trans held held' held″ ran.written (take r.waiting out') k.writes w;
    }

-- ---- the end
-- what is left of the piece is nothing, or a program that is over ignores it
pub ran-came : (P : Program) {s : P.State} {piece line : List ℕ} {p : Place P} (ran : Ran P s piece line p) → p.at ≤ length piece → (length piece ≡ 0) ⊎ (P.over p.state ≡ true)
    → reader P p.state (take p.had line) ran.written ≡ fed P (reader_begun P s) (ran.before ++ piece)
ran-came P {s} {piece} {line} {p} ran within (inl e) =
    ran.is ∙ ap (λ (t : List ℕ). fed P (reader_begun P s) (ran.before ++ t)) (take_all p.at piece (omega (arith, e)))
ran-came P {s} {piece} {line} {p} ran within (inr o) =
    let now : Reader P = reader P p.state (take p.had line) ran.written in
    let rest : List ℕ = drop p.at piece in
    sym (fed-over P now rest o)
    ∙ ap (λ (x : Reader P). fed P x rest) ran.is
    ∙ sym (fed-twice P (reader_begun P s) (ran.before ++ take p.at piece) rest)
    ∙ ap (fed P (reader_begun P s)) (append_assoc ran.before (take p.at piece) rest ∙ ap (λ (t : List ℕ). ran.before ++ t) (take-append-drop p.at piece))

-- and the end is told: what is printed is what was written, and the bytes that wait
pub ran_to_the_end : (P : Program) {s : P.State} {left left' held held' held″ : Option (List ℕ)} {piece line out out' : List ℕ} {p r : Place P} {room : ℕ}
    → Passed P s left left' held held' piece line p → p.at ≤ length piece → (length piece ≡ 0) ⊎ (P.over p.state ≡ true) → (length piece ≡ 0 → 0 < room → IsAtEnd left')
    → p.waiting ≡ 0 → Ends P line out p r out' → Appends held' held″ (take r.waiting out') → RanToTheEnd P s left left' held held″ room r.state
unfolding reader_of
ran_to_the_end P {s} {left} {left'} {held} {held'} {held″} {piece} {line} {out} {out'} {p} {r} {room} k within why ended none e w =
    let read : List ℕ = k.ran.before ++ piece in
    let written : List ℕ = k.ran.written in
    let h : List ℕ = take p.had line in
    let came : reader P p.state h written ≡ fed P (reader_begun P s) read = ran-came P k.ran within why in
    let all : (r.state, written ++ take r.waiting out') ≡ reader_ended P (fed P (reader_begun P s) read) =
    ap (λ (x : P.State × List ℕ). (x.0, written ++ x.1)) (e.is ∙ ap (λ (n : ℕ). reader_ended P (reader P p.state h (take n out))) none)
    ∙ sym (ended-behind P written (reader P p.state h []))
    ∙ ap (reader_ended P) (fresh P p.state h written ∙ came)
    in
    record {
      read = read;
      reads = k.reads;
      stops = λ some. ⊎_elim (λ n. inl (ended n some)) (λ o. inr (sym (ap (λ (x : Reader P). P.over x.state) came) ∙ o)) why;
      prints = subst (Appends held held″) (ap (λ (x : P.State × List ℕ). x.1) all ∙ all-printed P s read) (Appends-trans held held' held″ written (take r.waiting out') k.writes w);
      ends = ap (λ (x : P.State × List ℕ). x.0) all;
    }

-- ---- each turn that takes a byte counts
pub took-counted : (P : Program) (B : Bounded P) {L : Limits P} {piece line out line' out' : List ℕ} {p r : Place P} → Took P L piece line out p r line' out'
    → p.had ≤ line_limit → p.at < r.at → P.over r.state ≡ false
    → accepts P B (reader P r.state (take r.had line') []) < accepts P B (reader P p.state (take p.had line) [])
unfolding accepts reader_of
took-counted P B {piece = piece} {line} {out} {line'} {out'} {p} {r} t fits more on =
    let x : Reader P = reader_of P p line out in
    let part : List ℕ = slice p.at r.at piece in
    let short : length (take p.had line) ≤ line_limit = omega (arith, length-take p.had line) in
    let long : length part ≡ r.at - p.at = length-slice p.at r.at piece t.within.place in
    let less : accepts P B (fed P x part) ≤ accepts P B x - length part = counted P B x part short in
    let same : accepts P B (reader_of P r line' out') ≡ accepts P B (fed P x part) = ap (accepts P B) t.is in
    let left : accepts P B (fed P x part) ≡ 0 → ⊥ =
    λ e. false≢true (sym on ∙ ap (λ (y : Reader P). P.over y.state) t.is ∙ over-at-none P B (fed P x part) (fed-fits P x part short) e)
    in omega (arith, less, same, left, long)
