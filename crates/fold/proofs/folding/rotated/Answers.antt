-- What the first two lifts of `rotated` leave is small enough for the next one.
use lib.Signed.{mag}
use Rattle.std.proofs.Common.{◌≡◌, ◌+◌, ◌^◌, ◌≤◌, ◌<◌, Bool, ℤ, nat_abs, w64, to_z, of_z, arith}
use Rattle.integers.proofs.Num.{Num, num}
use Rattle.fold.proofs.FoldLaws.{lifted, bits-size, num-lifted}
use Rattle.fold.proofs.folding.rotated.Goals as goal

abbrev bits : ℤ → ℤ
bits x = to_z w64 (of_z w64 x)

module _ (undo : Bool) (t s a b : ℤ) (small : (nat_abs t ≤ 2 ^ 28) × (nat_abs s ≤ 2 ^ 28) × (nat_abs a ≤ 50000) × (nat_abs b ≤ 50000)) (b₁ : ℤ) (ok : mag b₁ < 2 ^ 63) (is : b₁ ≡ lifted undo (bits t) (bits a) (bits b)) where
  first : Num w64 (50000 + 50000) (of_z w64 b₁) (lifted undo t a b)
  first = num-lifted undo (num w64 t small.0 tt) (num w64 a small.2 tt) (num w64 b small.3 tt) b₁ ok is

  second : (a₁ : ℤ) → mag a₁ < 2 ^ 63 → a₁ ≡ lifted undo (bits s) (bits b₁) (bits a) → Num w64 (50000 + (50000 + 50000)) (of_z w64 a₁) (lifted undo s (lifted undo t a b) a)
  second = num-lifted undo (num w64 s small.1 tt) first (num w64 a small.2 tt)

pub lift-a1-requires : goal.lift-a1-requires
lift-a1-requires c =
    let a = c.args in
    let b₁ = bits-size (first a.undo a.t a.s a.a a.b c.requires _ c.lift-b1.type_inv c.lift-b1.ensures) in
    (bits-size (num w64 a.s c.requires.1 tt), omega (arith, b₁), omega (arith, bits-size (num w64 a.a c.requires.2 tt)))

pub lift-requires : goal.lift-requires
lift-requires c =
    let a = c.args in
    let b₁ = bits-size (first a.undo a.t a.s a.a a.b c.requires _ c.lift-b1.type_inv c.lift-b1.ensures) in
    let a₁ = bits-size (second a.undo a.t a.s a.a a.b c.requires _ c.lift-b1.type_inv c.lift-b1.ensures _ c.lift-a1.type_inv c.lift-a1.ensures) in
    (bits-size (num w64 a.t c.requires.0 tt), omega (arith, a₁), omega (arith, b₁))
