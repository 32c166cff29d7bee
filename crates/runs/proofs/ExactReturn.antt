-- Demand 2: a run goes back to the very readings that it came from, over the width as a letter.
use mathlib.Core.Path.{◌≡◌, refl, sym, ap, ◌∙◌}
use mathlib.Core.Logic.{⊎_elim}
use mathlib.Core.List.{List}
use Prim.Native.Nat.{ℕ, ◌+◌, ◌*◌, ◌/◌, ◌≤◌, ◌<◌}
use native.Mathlib.Omega.{arith}
use lib.IntN.{ℤ}
use lib.ListN.{length}
use Rattle.tables.proofs.ByWidth.{run-width}
use Rattle.distance.specs.Statement.{IsWidth}
use Rattle.runs.specs.Record.{block_limit}
use Rattle.runs.specs.Whole.{parts_of, blocks_in, joined}
use Rattle.runs.proofs.EveryList.{AllBlocks}
use Rattle.runs.specs.WholeBack.{whole_back}
use Rattle.runs.specs.Return.{Readings, frames_of, Returned, AcceptedExactly}
use Rattle.runs.proofs.MadeFrames.{all_frames, all-frames}
use Rattle.runs.proofs.Parts.{length-joined, parts-joined, length-parts, joined-parts, parts-blocks, blocks-rows, blocks-within}
use Rattle.runs.proofs.WholeReturn.{parts-counted, frames-length, made-whole, accepted-whole}
use Rattle.runs.proofs.WholeBackLaws.{whole-either}
use Rattle.runs.proofs.ForwardWorked.{worked-readings, worked-frames}

-- ---- blocks one behind the other are readings,
module _ (N : ℕ) (w : IsWidth N) (xs : List (List ℤ)) (hs : AllBlocks N xs) where
  long : length (joined xs) ≡ length xs * N
  long = length-joined N xs (blocks-rows N xs hs)

  counted : length (joined xs) / N ≡ length xs
  counted = parts-counted N (length xs) w (joined xs) long

  joined-readings : length xs ≤ block_limit → Readings N (joined xs)
  joined-readings few = record { whole = rw counted long; some = rw counted few; within = blocks-within N xs hs }

  joined-frames : frames_of N (joined xs) ≡ joined (all_frames N xs)
  unfolding frames_of blocks_in
  joined-frames = rw (counted, parts-joined N xs (blocks-rows N xs hs), all-frames N xs)

-- and readings are their blocks one behind the other
module _ (N : ℕ) (w : IsWidth N) (readings : List ℤ) (r : Readings N readings) where
  abbrev blocks : List (List ℤ)
  blocks = parts_of N (length readings / N) readings

  blocks-are : AllBlocks N blocks
  blocks-are = parts-blocks N (length readings / N) readings r.whole r.within

  joined_is : joined blocks ≡ readings
  joined_is = joined-parts N (length readings / N) readings r.whole

  frames-are : frames_of N readings ≡ joined (all_frames N blocks)
  frames-are = ap (frames_of N) (sym joined_is) ∙ joined-frames N w blocks blocks-are

  frames-longer : length (frames_of N readings) ≡ length readings + N
  frames-longer = rw frames-are (omega (arith, frames-length N w blocks blocks-are, long N w blocks blocks-are, ap length joined_is))

  readings-returned : (out : List ℤ) → length out ≡ length readings → whole_back N (frames_of N readings) out ≡ ((0, 0), readings)
  readings-returned out l =
      rw frames-are (made-whole N w blocks blocks-are out (omega (arith, length-parts N (length readings / N) readings, r.some)) (omega (arith, long N w blocks blocks-are, ap length joined_is)))
      ∙ ap (λ (ys : List ℤ). ((0, 0), ys)) joined_is

-- ---- 1
pub returned : Returned
returned N v readings frames out worked l =
    let w = run-width N v in
    rw (worked-frames N w readings frames worked) (readings-returned N w readings (worked-readings N w readings frames worked) out l)

-- ---- 2
module _ (N : ℕ) (w : IsWidth N) (frames : List ℤ) where
  only_one : (readings others : List ℤ) → Readings N readings → Readings N others → frames_of N readings ≡ frames → frames_of N others ≡ frames → readings ≡ others
  only_one readings others r s e f =
      let same : length readings ≡ length others = omega (arith, frames-longer N w readings r, frames-longer N w others s, ap length (e ∙ sym f)) in
      let other : whole_back N (frames_of N readings) readings ≡ ((0, 0), others) = rw (e ∙ sym f) (readings-returned N w others s readings same) in
      ap (λ (g : (ℕ × ℕ) × List ℤ). g.1) (sym (readings-returned N w readings r readings refl) ∙ other)

  accepted-made : (out : List ℤ) → (whole_back N frames out).0 ≡ (0, 0) → Readings N (whole_back N frames out).1 × (frames_of N (whole_back N frames out).1 ≡ frames)
  accepted-made out e =
      let m = accepted-whole N w frames out e in
      (rw m.given (joined-readings N w m.xs m.blocks m.few), rw m.given (joined-frames N w m.xs m.blocks ∙ sym m.frames-are))

  none-refused : (out : List ℤ) → ((readings : List ℤ) → Readings N readings → frames_of N readings ≡ frames → ⊥) → (0 < (whole_back N frames out).0.0) × ((whole_back N frames out).1 ≡ out)
  none-refused out none = ⊎_elim (λ e. let p = accepted-made out e in absurd (none (whole_back N frames out).1 p.0 p.1)) (λ p. p) (whole-either N frames out)

pub accepted-exactly : AcceptedExactly
accepted-exactly N v frames out =
    let w = run-width N v in
    record {
      accepted-made = accepted-made N w frames out;
      made-accepted = λ readings r e l. rw (← e) (readings-returned N w readings r out l);
      only = only_one N w frames;
      none-refused = none-refused N w frames out;
    }
