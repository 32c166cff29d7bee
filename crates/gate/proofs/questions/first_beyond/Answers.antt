-- The search of the whole slice is the search from i on.
use Rattle.std.proofs.Common.{◌≡◌, ◌∙◌, sym, ap, Bool, ℤ, pos, get_or, length, of_z, to_z, w32, w64, rules, arith}
use mathlib.Core.Path.{ap₂}
use mir.Val.{SFits}
use Rattle.integers.proofs.Held.{held}
use Rattle.runs.specs.Answers.{beyond, first_beyond}
use Rattle.gate.proofs.LimitLaws.{stops, goes_on, ends}
use Rattle.gate.proofs.questions.first_beyond.Goals as goal

-- what a call's bits say, of the numbers
of_numbers : (r l x : ℤ) (t : Bool) → SFits w64 r → SFits w64 x → r ≡ l → t ≡ beyond (to_z w64 (of_z w64 r)) (to_z w64 (of_z w64 x)) → beyond l x ≡ t
of_numbers r l x t f g e b = sym (b ∙ ap₂ beyond ((held w64 r f).is ∙ e) (held w64 x g).is)

pub returns-then-beyond : goal.returns-then-beyond
returns-then-beyond c =
    let l = to_z w32 (of_z w32 c.args.limit) in
    let f : SFits w64 c.from-high.result = search rules in
    let g : SFits w64 (get_or c.args.x.now c.loop-i.i (pos 0)) = search rules in
    let found = stops (beyond l) c.args.x.now c.loop-i.i c.loop-i-test.true (of_numbers _ l _ _ f g c.from-high.ensures c.if-beyond.ensures) in
    sym (ap (λ (l : ℤ). first_beyond l c.args.x.now 0) (sym (held w32 _ c.ranges.limit).is) ∙ c.loop-i.invariant ∙ found)

pub loop-i-preserved : goal.loop-i-preserved
loop-i-preserved c =
    let l = to_z w32 (of_z w32 c.args.limit) in
    let f : SFits w64 c.from-high.result = search rules in
    let g : SFits w64 (get_or c.args.x.now c.loop-i.i (pos 0)) = search rules in
    c.loop-i.invariant ∙ goes_on (beyond l) c.args.x.now c.loop-i.i c.loop-i-test.true (of_numbers _ l _ _ f g c.from-high.ensures c.if-beyond.ensures)

pub returns : goal.returns
returns c =
    let e : c.loop-i.i ≡ length c.args.x.now = omega arith in
    sym (ap (λ (l : ℤ). first_beyond l c.args.x.now 0) (sym (held w32 _ c.ranges.limit).is) ∙ c.loop-i.invariant ∙ ends _ _ _ e)
