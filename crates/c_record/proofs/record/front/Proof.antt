-- `c_record::record::front` meets its contract.
use native.Mathlib.Omega.{arith}
use mathlib.Core.Path.{sym, subst}
use mathlib.Core.List.{List}
use Prim.Native.Nat.{◌≤◌}
use lib.Dec.{T}
use lib.IntN.{ℤ}
use lib.ListN.{length}
use lib.Signed.{nat_abs-le}
use mir.Syntax.{w64}
use Rattle.integers.specs.Places.{at}
use Rattle.integers.proofs.Held.{held-ok, asks-nat}
use Rattle.c_record.proofs.RecordLaws.{has_room, has_width, has-count, some-record, natural}
use Rattle.c_record.proofs.record.front.Statement.{statement}
use Rattle.c_record.proofs.record.front.Tie as tie

abbrev numbers : tie.Start → List ℤ
numbers s = s.args.numbers.now

long : (s : tie.Start) → 3 ≤ length (numbers s)
long s = omega (arith, has_room (numbers s) s.requires)

shared-slice-copy-out-t3 : tie.Need-bounds-numbers-0
shared-slice-copy-out-t3 c = omega (arith, long c)

cast-t4 : tie.Need-overflow_cast-result
cast-t4 c =
    let s = c.before in
    let x = at (numbers s) 0 in
    asks-nat w64 (held-ok w64 x c.result-1.given) (subst T (sym (has_width (numbers s) s.requires)) tt) (omega (arith, nat_abs-le x c.result-1.given))

shared-slice-copy-out-t6 : tie.Need-bounds-numbers-1
shared-slice-copy-out-t6 c = omega (arith, long c.before)

cast-t7 : tie.Need-overflow_cast-result-2
cast-t7 c =
    let s = c.before.before in
    let x = at (numbers s) 1 in
    asks-nat w64 (held-ok w64 x c.result-2-1.given) (subst T (sym (has-count (numbers s) s.requires)) tt) (omega (arith, nat_abs-le x c.result-2-1.given))

shared-slice-copy-out-t9 : tie.Need-bounds-numbers-2
shared-slice-copy-out-t9 c = omega (arith, long c.before.before)

shared-slice-copy-out-t12 : tie.Need-bounds-numbers-67
shared-slice-copy-out-t12 c = let s = c.before.before.before in omega (arith, has_room (numbers s) s.requires)

returns : tie.Need-returns
returns c =
    let flag = c in
    let s = flag.before.before.before.before in
    let l = numbers s in
    let count = (held-ok w64 (at l 1) flag.result-2-1.given).is in
    let total = (held-ok w64 (at l 67) c.result-4-1.given).is in (
      some-record l _ _ _ (held-ok w64 (at l 0) flag.result-1.given).is count total s.requires,
      (rw count (natural (at l 1) (has-count l s.requires)), sym total),
    )

pub front_spec : {M : Type 1} → statement M
front_spec =
    tie.close
    (tie.spec
    shared-slice-copy-out-t3
    cast-t4
    shared-slice-copy-out-t6
    cast-t7
    shared-slice-copy-out-t9
    shared-slice-copy-out-t12
    returns)
