-- `gate::questions::sound` meets its contract.
use borrow.Author.Rules.{rules}
use borrow.Author.Tests.{not-true, not-false}
use native.Mathlib.Omega.{arith}
use mathlib.Core.Path.{◌≡◌, refl, sym, ap, ap₂, ◌∙◌}
use mathlib.Core.Bool.{false}
use mathlib.Core.List.{List}
use Prim.Native.Nat.{ℕ, ◌-◌, ◌*◌, ◌≤◌}
use lib.IntN.{ℤ, pos}
use lib.ListN.{length, take, drop}
use mir.Syntax.{w64}
use Rattle.integers.proofs.Held.{held}
use Rattle.tables.specs.Widths.{half_width}
use Rattle.tables.proofs.ByWidth.{half-width-le}
use Rattle.steps.specs.Limits.{reading_limit}
use Rattle.slices.proofs.Parts.{part-long}
use Rattle.runs.specs.declared.record.Run.{Run}
use Rattle.runs.specs.Record.{record_of}
use Rattle.runs.specs.Answers.{beyond}
use Rattle.runs.specs.Gate.{inside, blocks_behind}
use Rattle.runs.proofs.RecordLaws.{width-le}
use Rattle.gate.proofs.GateLaws.{rest_part, no-width, no-count, no-total, rest-held, none-taken, run-over, run-open}
use Rattle.gate.proofs.questions.sound.Statement.{statement}
use Rattle.gate.proofs.questions.sound.Tie as tie

abbrev run : tie.Start → Run
run s = record_of s.args.width s.args.count s.args.held.now s.args.finished s.args.total

module _ (e : tie.Else-half-eq0) where
  abbrev start : tie.Start
  start = e.before.before

  abbrev N : ℕ
  N = start.args.width

  abbrev held-values : List ℤ
  held-values = start.args.held.now

  abbrev half : ℕ
  half = e.half_width-half.result

  has_width : half_width N ≡ 0 → ⊥
  has_width h = e.if-half-eq0.false (e.half_width-half.ensures ∙ h)

  half_le : half ≤ length held-values
  half_le = omega (arith, start.requires.1, e.half_width-half.ensures, half-width-le N)

  front-is : (limit : ℤ) → inside limit (take half held-values) ≡ inside limit (take (half_width N) held-values)
  front-is limit = ap (λ (n : ℕ). inside limit (take n held-values)) e.half_width-half.ensures

  rest-is : take (length held-values - half) (drop half held-values) ≡ drop (half_width N) held-values
  rest-is = rest_part (length held-values) half _ held-values refl e.half_width-half.ensures

-- the count is one that a run can have: what is asked of the total
module _ (t : tie.After-total_beyond) where
  abbrev few : tie.Else-top-count
  few = t.before.before

  abbrev from : tie.Start
  from = start few.before

  abbrev most : ℕ
  most = blocks_behind from.args.top from.args.count * from.args.width * reading_limit

  total-asked : t.total_beyond.result ≡ beyond (pos most) from.args.total
  total-asked = t.total_beyond.ensures ∙ ap₂ (λ (n : ℕ) (x : ℤ). beyond (pos n) x) t.greatest_total.ensures.0 (held w64 _ from.ranges.total).is

-- what the places from half on are found to be
module _ (i : tie.After-clear) where
  abbrev fitting : tie.Else-total_beyond
  fitting = i.before.before

  abbrev counted : tie.Else-top-count
  counted = few fitting.before

  abbrev first : tie.Else-half-eq0
  first = counted.before

  total-fits : beyond (pos (most fitting.before)) (start first).args.total ≡ false
  total-fits = sym (total-asked fitting.before) ∙ fitting.if-total_beyond.false

  rest-seen : inside (pos 0) (drop (half_width (N first)) (held-values first)) ≡ i.clear.result
  rest-seen = sym (i.clear.ensures ∙ ap (inside (pos 0)) (rest-is first))

greatest-total-requires : tie.Need-greatest_total-requires
greatest-total-requires c κs = let e = c.before in (c.if-top-count.false, (start e).requires.0, width-le (N e) (omega (arith, has_width e)))

total-beyond-requires : tie.Need-total_beyond-requires
total-beyond-requires c κs = c.greatest_total.ensures.1

returns : tie.Need-returns-then-half-eq0
returns c = let s = c.before.before in no-width s.args.top (run s) (sym c.half_width-half.ensures ∙ c.if-half-eq0.true)

returns-2 : tie.Need-returns-then-top-count
returns-2 c = let e = c.before in no-count (start e).args.top (run (start e)) (has_width e) c.if-top-count.true

returns-3 : tie.Need-returns-then-total_beyond
returns-3 c =
    let t = c.before in
    let e = (few t).before in
    no-total (start e).args.top (run (start e)) (has_width e) (few t).if-top-count.false (sym (total-asked t) ∙ c.if-total_beyond.true)

mul-clear : tie.Need-offset_bounds-held-half
mul-clear c = let e = (few c.before).before in record { fits = omega (arith, half_le e, (start e).requires.1) }

sub-clear : tie.Need-slice_bounds-clear-count
sub-clear c = half_le (few c.before).before

part-clear-start : tie.Need-slice_bounds-clear-start
part-clear-start c = half_le (few c.before).before

returns-4 : tie.Need-returns-then-not-clear
returns-4 c =
    let i = c.before in
    let e = first i in
    rest-held (start e).args.top (run (start e)) (has_width e) (counted i).if-top-count.false (total-fits i) (rest-seen i ∙ c.if-not-clear.true)

slice-aggregate-clear : tie.Need-slice_bounds-clear-end-then-count-eq0
slice-aggregate-clear c = let e = first c.before.before in part-long _ (held-values e) (half_le e)

returns-5 : tie.Need-returns-then-count-eq0
returns-5 c =
    let f = c in
    let i = f.before.before.before in
    let e = first i in
    c.clear-then-count-eq0.ensures ∙ front-is e _ ∙ none-taken (start e).args.top (run (start e)) (has_width e) (counted i).if-top-count.false (total-fits i) (rest-seen i ∙ f.if-not-clear.false) c.if-count-eq0.true

slice-aggregate-clear-2 : tie.Need-slice_bounds-clear-end-then-finished
slice-aggregate-clear-2 c = let at_clear = c.before.before.before in let e = first at_clear in part-long _ (held-values e) (half_le e)

returns-6 : tie.Need-returns-then-finished
returns-6 c =
    let f = c in
    let i = f.before.before.before.before in
    let e = first i in
    c.clear-then-finished.ensures ∙ front-is e _ ∙ run-over (start e).args.top (run (start e)) (has_width e) (counted i).if-top-count.false (total-fits i) (rest-seen i ∙ f.if-not-clear.false) c.if-count-eq0.false c.if-finished.true

slice-aggregate-inside : tie.Need-slice_bounds-inside-end
slice-aggregate-inside c = let at_clear = c.before.before.before in let e = first at_clear in part-long _ (held-values e) (half_le e)

returns-7 : tie.Need-returns
returns-7 c =
    let f = c in
    let i = f.before.before.before.before in
    let e = first i in
    c.inside.ensures ∙ front-is e _ ∙ run-open (start e).args.top (run (start e)) (has_width e) (counted i).if-top-count.false (total-fits i) (rest-seen i ∙ f.if-not-clear.false) c.if-count-eq0.false c.if-finished.false

pub sound_spec : {M : Type 1} → statement M
sound_spec =
    tie.close
    (tie.spec
    (λ c κs. search rules)
    returns
    returns-2
    greatest-total-requires
    total-beyond-requires
    returns-3
    mul-clear
    sub-clear
    part-clear-start
    (λ c. search rules)
    (λ c κs. search rules)
    returns-4
    slice-aggregate-clear
    (λ c κs. search rules)
    returns-5
    slice-aggregate-clear-2
    (λ c κs. search rules)
    returns-6
    slice-aggregate-inside
    (λ c κs. search rules)
    returns-7)
