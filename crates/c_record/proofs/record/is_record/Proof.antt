-- `c_record::record::is_record` meets its contract.
use borrow.Author.Rules.{rules}
use mathlib.Core.Path.{◌≡◌, ap, ◌∙◌}
use mathlib.Core.Bool.{Bool}
use mathlib.Core.List.{List}
use Prim.Native.Nat.{ℕ, ◌^◌, ◌<◌}
use lib.IntN.{ℤ, pos}
use lib.Signed.{mag, lt_z}
use mir.Syntax.{w64}
use mir.Val.{to_z, of_z}
use Rattle.integers.specs.Places.{at}
use Rattle.integers.proofs.Held.{held-ok, h-lt}
use Rattle.integers.proofs.Num.{num_lit}
use Rattle.c_record.proofs.RecordLaws.{no_room, no-width, no-count, no_flag, by_flag}
use Rattle.c_record.proofs.record.is_record.Statement.{statement}
use Rattle.c_record.proofs.record.is_record.Tie as tie

abbrev numbers : tie.Start → List ℤ
numbers s = s.args.numbers.now

-- what the code's test of a number says of it
below-0 : (l : List ℤ) (i : ℕ) {b : Bool} → mag (at l i) < 2 ^ 63 → lt_z (to_z w64 (of_z w64 (at l i))) (pos 0) ≡ b → lt_z (at l i) (pos 0) ≡ b
below-0 l i h = h-lt (held-ok w64 (at l i) h) (num_lit w64 0 tt).holds

returns : tie.Need-returns-then-numbers-ne68
returns c = no_room (numbers c.before) c.if-numbers-ne68.true

returns-2 : tie.Need-returns-then-numbers-lt0
returns-2 c =
    let o = c in
    let l = numbers o.before.before.before in
    no-width l o.if-numbers-ne68.false (below-0 l 0 c.t5-1.given c.if-numbers-lt0.true)

returns-3 : tie.Need-returns-then-numbers-lt0-2
returns-3 c =
    let w = c in
    let o = w in
    let l = numbers o.before.before.before.before.before in
    no-count l o.if-numbers-ne68.false (below-0 l 0 w.t5-1.given w.if-numbers-lt0.false) (below-0 l 1 c.t5-2-1.given c.if-numbers-lt0-2.true)

returns-4 : tie.Need-returns-then-numbers-lt0-3
returns-4 c =
    let n = c in
    let w = n in
    let o = w in
    let l = numbers o.before.before.before.before.before.before.before in
    no_flag l o.if-numbers-ne68.false (below-0 l 0 w.t5-1.given w.if-numbers-lt0.false) (below-0 l 1 n.t5-2-1.given n.if-numbers-lt0-2.false) (below-0 l 2 c.t5-3-1.given c.if-numbers-lt0-3.true)

returns-5 : tie.Need-returns
returns-5 c =
    let f = c in
    let n = f in
    let w = n in
    let o = w in
    let l = numbers o.before.before.before.before.before.before.before.before in
    ap (λ z. lt_z z (pos 2)) (held-ok w64 (at l 2) c.result-1.given).is
    ∙ by_flag l o.if-numbers-ne68.false (below-0 l 0 w.t5-1.given w.if-numbers-lt0.false) (below-0 l 1 n.t5-2-1.given n.if-numbers-lt0-2.false) (below-0 l 2 f.t5-3-1.given f.if-numbers-lt0-3.false)

pub is_record_spec : {M : Type 1} → statement M
is_record_spec =
    tie.close
    (tie.spec
    returns
    (λ c. search rules)
    returns-2
    (λ c. search rules)
    returns-3
    (λ c. search rules)
    returns-4
    (λ c. search rules)
    returns-5)
