-- `gate::questions::in_parts` meets its contract.
use borrow.Author.Rules.{rules}
use borrow.Author.Tests.{eq-eqb, ne_eqb, le-leb, lt-leb}
use native.Mathlib.Omega.{arith}
use mathlib.Core.Path.{◌≡◌, sym, ◌∙◌}
use Prim.Native.Nat.{ℕ, ◌<◌}
use Rattle.tables.specs.Widths.{half_width}
use Rattle.runs.specs.Answers.{told}
use Rattle.runs.proofs.RecordLaws.{width-pos}
use Rattle.gate.specs.Own.Asked.{whole_parts, in_parts}
use Rattle.gate.proofs.questions.in_parts.Statement.{statement}
use Rattle.gate.proofs.questions.in_parts.Tie as tie

module _ (e : tie.Else-half_width-eq0) where
  abbrev N : ℕ
  N = e.args.width

  has_width : half_width N ≡ 0 → ⊥
  has_width h = e.if-half_width-eq0.false (e.half_width.ensures ∙ h)

  wide : 0 < N
  wide = width-pos N (omega (arith, has_width))

returns : tie.Need-returns-then-half_width-eq0
unfolding told in_parts
returns c = let z : half_width c.args.width ≡ 0 = sym c.half_width.ensures ∙ c.if-half_width-eq0.true in rw (eq-eqb _ 0 z)

returns-2 : tie.Need-returns-then-given-width-ne0
unfolding told in_parts whole_parts
returns-2 c = rw (ne_eqb _ 0 (has_width c.before), ne_eqb _ 0 c.if-given-width-ne0.true)

returns-3 : tie.Need-returns-then-most-parts
unfolding told in_parts whole_parts
returns-3 c = rw (ne_eqb _ 0 (has_width c.before.before), eq-eqb _ 0 c.if-given-width-ne0.false, lt-leb _ _ c.if-most-parts.true)

returns-4 : tie.Need-returns-then-parts-least
unfolding told in_parts whole_parts
returns-4 c = let f = c in rw (ne_eqb _ 0 (has_width f.before.before.before), eq-eqb _ 0 f.if-given-width-ne0.false, le-leb _ _ f.if-most-parts.false, lt-leb _ _ c.if-parts-least.true)

returns-5 : tie.Need-returns
unfolding told in_parts whole_parts
returns-5 c = let f = c in rw (ne_eqb _ 0 (has_width f.before.before.before), eq-eqb _ 0 f.if-given-width-ne0.false, le-leb _ _ f.if-most-parts.false, le-leb _ _ c.if-parts-least.false)

pub in_parts_spec : {M : Type 1} → statement M
in_parts_spec = tie.close (tie.spec (λ c κs. search rules) returns (λ c. wide c) returns-2 (λ c. wide c.before) returns-3 returns-4 returns-5)
