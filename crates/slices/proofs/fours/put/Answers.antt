use Rattle.std.proofs.Common.{◌≡◌, arith, w64, to_z, of_z}
use Rattle.std.proofs.lemmas.Int.{ints}
use Rattle.slices.specs.Own.Fours.{stored}
use Rattle.slices.proofs.fours.put.Goals as goal

pub returns : goal.returns
unfolding stored
returns c =
    let a : to_z w64 (of_z w64 c.args.f.a) ≡ c.args.f.a = omega (arith, ints) in
    let b : to_z w64 (of_z w64 c.args.f.b) ≡ c.args.f.b = omega (arith, ints) in
    let e : to_z w64 (of_z w64 c.args.f.c) ≡ c.args.f.c = omega (arith, ints) in
    let d : to_z w64 (of_z w64 c.args.f.d) ≡ c.args.f.d = omega (arith, ints) in
    rw (a, b, e, d)
