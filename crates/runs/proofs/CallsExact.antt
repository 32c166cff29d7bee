-- Demand 2, call by call and both ways: frames are all taken exactly if some blocks in range make them.
use mathlib.Core.Path.{◌≡◌, refl, sym, ap, ◌∙◌}
use mathlib.Core.Bool.{Bool, true, false}
use mathlib.Core.List.{List, [], ◌∷◌}
use Prim.Native.Nat.{ℕ, suc}
use native.Mathlib.Omega.{arith}
use borrow.Author.Tests.{eqb-true, eqb-false}
use lib.Dec.{eqb}
use lib.IntN.{ℤ, pos}
use lib.ListN.{length, drop, length-replicate}
use Rattle.integers.specs.Vectors.{Rows}
use Rattle.integers.proofs.PlaceLaws.{length-tab}
use Rattle.tables.proofs.ByWidth.{run-width}
use Rattle.distance.specs.Statement.{IsWidth}
use Rattle.runs.specs.Record.{zeros}
use Rattle.runs.specs.Forward.{started}
use Rattle.runs.specs.CallsReturn.{answers_back, BlocksInRange, frames_made, AllTaken, SomeRefused, blocks_given, TakenExactly}
use Rattle.runs.proofs.MadeFrames.{all_frames, all-frames}
use Rattle.runs.proofs.Parts.{blocks-rows}
use Rattle.runs.proofs.CallsBack.{all-taken, all-given}
use Rattle.runs.proofs.TakenBack.{made_by}

some-refused : (answers : List (ℕ × ℕ)) → (AllTaken answers → ⊥) → SomeRefused answers
unfolding AllTaken
some-refused [] none = absurd (none tt)
some-refused (a ∷ answers) none = by (some-refused answers) (eqb a.0 0) refl
  where
    by : ((AllTaken answers → ⊥) → SomeRefused answers) → (t : Bool) → eqb a.0 0 ≡ t → SomeRefused (a ∷ answers)
    by rest true e = let s = rest (λ z. none (eqb-true a.0 0 e, z)) in record { call = suc s.call; made = omega (arith, s.made); refused = s.refused }
    by rest false e = record { call = 0; made = omega arith; refused = omega (arith, eqb-false a.0 0 e) }

frames-made : (N : ℕ) (blocks : List (List ℤ)) → frames_made N blocks ≡ all_frames N blocks
unfolding frames_made
frames-made N blocks = all-frames N blocks

module _ (N : ℕ) (w : IsWidth N) (frames : List (List ℤ)) where
  made-long : (blocks : List (List ℤ)) → frames_made N blocks ≡ frames → length frames ≡ suc (length blocks)
  unfolding frames_made
  made-long blocks e = rw (← e) (length-tab _ (suc (length blocks)) 0)

  taken_made : (outs : List (List ℤ)) → length outs ≡ length frames → AllTaken (answers_back (started N).1 frames outs)
      → BlocksInRange N (blocks_given N frames outs) × (frames_made N (blocks_given N frames outs) ≡ frames)
  unfolding blocks_given
  taken_made outs l z =
      let m = made_by N w frames outs l z in
      let given : blocks_given N frames outs ≡ m.xs = ap (drop 1) m.outputs-are in
      (rw given (record { some = m.few; within = m.blocks }), rw given (frames-made N m.xs ∙ m.frames-are))

  made-taken : (outs : List (List ℤ)) → length outs ≡ length frames → (blocks : List (List ℤ)) → BlocksInRange N blocks → frames_made N blocks ≡ frames → Rows N outs
      → AllTaken (answers_back (started N).1 frames outs) × (blocks_given N frames outs ≡ blocks)
  unfolding blocks_given
  made-taken [] l blocks h e rows = absurd (omega (arith, made-long blocks e))
  made-taken (first ∷ outs) l blocks h e rows =
      let same : frames ≡ all_frames N blocks = sym e ∙ frames-made N blocks in
      let m : length outs ≡ length blocks = omega (arith, made-long blocks e) in
      (rw same (all-taken N w blocks outs first h.within h.some rows m), rw same (ap (drop 1) (all-given N w blocks outs first h.within h.some rows m)))

  only : (blocks others : List (List ℤ)) → BlocksInRange N blocks → BlocksInRange N others → frames_made N blocks ≡ frames → frames_made N others ≡ frames → blocks ≡ others
  only blocks others h k e f =
      let same : all_frames N others ≡ all_frames N blocks = sym (frames-made N others) ∙ f ∙ sym e ∙ frames-made N blocks in
      let rows : Rows N (zeros N ∷ blocks) = (length-replicate N (pos 0), blocks-rows N blocks h.within) in
      let these = all-given N w blocks blocks (zeros N) h.within h.some rows refl in
      let those = all-given N w others blocks (zeros N) k.within k.some rows (omega (arith, made-long blocks e, made-long others f)) in
      ap (drop 1) (sym these ∙ rw same at those)

pub taken-exactly : TakenExactly
taken-exactly N v frames outs l =
    let w = run-width N v in
    record {
      taken_made = taken_made N w frames outs l;
      made-taken = made-taken N w frames outs l;
      only = only N w frames;
      none-refused = λ none. some-refused _ (λ z. let p = taken_made N w frames outs l z in none (blocks_given N frames outs) p.0 p.1);
    }
