-- The numbers that `pair_of` reads are those of the tables and of the block, and the pair that comes of them.
use Rattle.std.proofs.Common.{◌≡◌, ◌-◌, ◌<◌, ◌≤◌, ◌^◌, ℕ, false, List, ℤ, neg_ℤ, nat_abs, w32, w64, to_z, of_z, ap, sym, ◌∙◌, arith}
use Rattle.integers.specs.Places.{at, Within}
use Rattle.integers.proofs.Num.{Num, num, num-call}
use Rattle.tables.specs.Widths.{half_width}
use Rattle.steps.specs.Steps.{tangent, sine}
use Rattle.fold.proofs.FoldLaws.{bits-size, a-rotated, b-rotated, tangent-num, sine-num}
use Rattle.fold.proofs.folding.pair_of.Goals as goal

-- a reading, as it is read and widened
reading : {block : List ℤ} → Within 50000 block → (i : ℕ) {r : ℤ} → r ≡ to_z w32 (of_z w32 (at block i)) → Num w64 50000 (of_z w64 r) (at block i)
reading {block} w i e = rw (e ∙ (num w32 (at block i) (w.size i) tt).holds.is) (num w64 (at block i) (w.size i) tt)

pub rotated-requires : goal.rotated-requires
rotated-requires c =
    let a = c.args in (
      bits-size (tangent-num a.width a.tangents.now a.n c.requires.n_bound c.requires.tangents),
      bits-size (sine-num a.width a.sines.now a.n c.requires.n_bound c.requires.sines),
      bits-size (reading c.requires.within _ c.from.ensures),
      bits-size (reading c.requires.within _ c.from-2.ensures),
    )

pub returns : goal.returns
returns c =
    let a = c.args in
    let t = tangent-num a.width a.tangents.now a.n c.requires.n_bound c.requires.tangents in
    let s = sine-num a.width a.sines.now a.n c.requires.n_bound c.requires.sines in
    let x = reading c.requires.within _ c.from.ensures in
    let y = reading c.requires.within _ c.from-2.ensures in
    (a-rotated a.width a.n false t s x y c.rotated.ensures.a_value, b-rotated a.width a.n false t s x y c.rotated.ensures.a_value c.rotated.ensures.b_value)
