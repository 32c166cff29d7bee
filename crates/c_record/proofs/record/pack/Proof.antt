-- `c_record::record::pack` meets its contract.
use borrow.Author.Rules.{rules}
use native.Mathlib.Omega.{arith}
use mathlib.Core.Path.{◌≡◌, sym, ap, ◌∙◌}
use mathlib.Core.List.{List}
use lib.IntN.{ℤ}
use lib.ListN.{length, length-take, length-drop, length-set}
use mir.Syntax.{w64}
use mir.Val.{to_z, of_z}
use Rattle.integers.proofs.Held.{held-ok}
use Rattle.runs.specs.declared.record.Run.{Run}
use Rattle.c_record.proofs.RecordLaws.{begun, packed-is}
use Rattle.c_record.proofs.record.pack.Statement.{statement}
use Rattle.c_record.proofs.record.pack.Tie as tie

module _ (s : tie.Start) where
  abbrev run : Run
  run = s.args.run

  abbrev numbers : List ℤ
  numbers = s.args.numbers.now

  held-long : length run.held ≡ 64
  held-long = search rules

-- the total, read before anything is written
module _ (t : tie.After-struct_told-1) where
  abbrev start : tie.Start
  start = t.before.before

  room : length (numbers start) ≡ 68
  room = start.requires.room

  total-is : to_z w64 (of_z w64 (run start).total) ≡ (run start).total
  total-is = (held-ok w64 _ t.struct_told-1.given.1.1.1.1.0.1).is

  begun-long : length (begun (run start) (numbers start) start.requires) ≡ 68
  begun-long = simp length-set room

slice-set-from-numbers : tie.Need-bounds-numbers-0
slice-set-from-numbers c = omega (arith, room c.before)

slice-set-from-numbers-2 : tie.Need-bounds-numbers-1
slice-set-from-numbers-2 c = simp length-set (omega (arith, room c.before.before))

cast-numbers-3 : tie.Need-overflow_cast-numbers-3
cast-numbers-3 c = tt

slice-set-from-numbers-3 : tie.Need-bounds-numbers-2
slice-set-from-numbers-3 c = let t = c.before.before.before in simp length-set (omega (arith, room t))

part-copy-end : tie.Need-slice_bounds-copy-end-2
part-copy-end c = let known = c in let t = known.before.before.before.before in simp length-set (omega (arith, room t))

copy-requires : tie.Need-copy-requires
copy-requires c κs =
    let known = c in
    let t = known.before.before.before.before.before in
    held-long (start t) ∙ sym (simp (length-take, length-drop, length-set, room t))

slice-set-from-total : tie.Need-bounds-numbers-67
slice-set-from-total c = let known = c in let t = known.before.before.before.before.before.before.before in omega (arith, c.numbers-1.given.1, begun-long t)

same_length : tie.Need-shape_of-numbers
same_length c = simp length-set (c.numbers-1.given.1 ∙ simp length-set)

returns : tie.Need-returns
returns c =
    let known = c in
    let t = known.before.before.before.before.before.before.before in
    packed-is (run (start t)) (numbers (start t)) (start t).requires _ _ c.copy.ensures (ap length c.copy.ensures ∙ held-long (start t)) (total-is t)

pub pack_spec : {M : Type 1} → statement M
pack_spec =
    tie.close
    (tie.spec
    (λ c. search rules)
    slice-set-from-numbers
    (λ c. search rules)
    slice-set-from-numbers-2
    cast-numbers-3
    slice-set-from-numbers-3
    (λ c. search rules)
    (λ c. search rules)
    (λ c. search rules)
    part-copy-end
    copy-requires
    slice-set-from-total
    same_length
    returns)
