-- `c_record::record::unpack` meets its contract.
use borrow.Author.Rules.{rules}
use native.Mathlib.Omega.{arith}
use mathlib.Core.Path.{◌≡◌, sym, ap, ap₂, ◌∙◌}
use mathlib.Core.Bool.{true}
use mathlib.Core.List.{List}
use Prim.Native.Nat.{◌≤◌}
use lib.IntN.{ℤ, pos}
use lib.ListN.{length, length-replicate}
use mir.Syntax.{w64}
use Rattle.integers.proofs.Held.{held-ok}
use Rattle.runs.specs.Record.{record_of}
use Rattle.c_record.specs.Record.{is_record}
use Rattle.c_record.proofs.RecordLaws.{has_room, held-long, no_record}
use Rattle.c_record.proofs.record.unpack.Statement.{statement}
use Rattle.c_record.proofs.record.unpack.Tie as tie

abbrev numbers : tie.Start → List ℤ
numbers s = s.args.numbers.now

module _ (e : tie.Else-not-is_record) where
  abbrev from : tie.Start
  from = e.before.before.before

  is-record : is_record (numbers from) ≡ true
  is-record = sym e.is_record.ensures ∙ e.if-not-is_record.false

  long : 67 ≤ length (numbers from)
  long = omega (arith, has_room (numbers from) is-record)

returns : tie.Need-returns-then-not-is_record
returns c =
    let t = c in
    c.make.ensures ∙ no_record (numbers t.before.before.before.before) _ t.nothing_held-held.ensures (sym t.is_record.ensures ∙ t.if-not-is_record.true)

copy-requires : tie.Need-copy-requires
copy-requires c κs =
    let e = c.before.before in
    held-long (numbers (from e)) (has_room (numbers (from e)) (is-record e)) ∙ sym (ap length e.nothing_held-held.ensures ∙ length-replicate 64 (pos 0))

front-requires : tie.Need-front-head-requires
front-requires c κs =
    let else1 = c.before.before.before.before in
    is-record else1

returns-2 : tie.Need-returns
returns-2 c =
    let f = c in
    let p = f in
    let head = f.front-head.result in
    c.make-2.ensures
    ∙ ap₂ (λ (xs : List ℤ) (t : ℤ). record_of head.width head.count xs head.finished t) p.copy.ensures (held-ok w64 _ c.struct_told-1.given.1.1.1.0.1).is
    ∙ f.front-head.ensures.0

pub unpack_spec : {M : Type 1} → statement M
unpack_spec =
    tie.close
    (tie.spec
    (λ c κs. search rules)
    (λ c κs. search rules)
    (λ c κs. search rules)
    returns
    (λ c. search rules)
    (λ c. search rules)
    (λ c. omega (arith, long c))
    (λ c. search rules)
    copy-requires
    front-requires
    (λ c κs. search rules)
    returns-2)
