-- `decimal::read::count_and_total` meets its contract.
use borrow.Author.Rules.{rules}
use native.Mathlib.Omega.{arith}
use mathlib.Core.Path.{◌≡◌, sym, ap, ◌∙◌}
use mathlib.Core.List.{List}
use Prim.Native.Nat.{ℕ, ◌≤◌}
use lib.ListN.{length}
use Rattle.text_runs.specs.Decimal.{number_in, total_in}
use Rattle.text_runs.specs.Lines.{comma, up_to, is_count}
use Rattle.text_runs.proofs.UpToLaws.{part_cut}
use Rattle.decimal.proofs.EndRead.{end-within, next-within, stop-within, one_field, third-field, other-count, this-count}
use Rattle.decimal.proofs.read.count_and_total.Statement.{statement}
use Rattle.decimal.proofs.read.count_and_total.Tie as tie

-- behind the first field, and behind the second
module _ (f : tie.After-end_of-end) where
  abbrev line : List ℕ
  line = f.args.line.now

  abbrev count : ℕ
  count = f.args.count

module _ (n : tie.After-end_of-stop) where
  abbrev first : tie.After-end_of-end
  first = n.before.before

  ends : first.end_of-end.result ≤ length (line first)
  ends = end-within (count first) (line first) first.end_of-end.ensures

  stops : n.end_of-stop.result ≤ length (line first)
  stops = stop-within (count first) (line first) first.end_of-end.ensures n.if-end-long.false n.end_of-stop.ensures

module _ (i : tie.After-is_count) where
  abbrev next : tie.After-end_of-stop
  next = i.before.before.before

  -- the count that was asked is that of the first field
  asked : i.is_count.result ≡ is_count (count (first next)) (number_in (up_to comma (line (first next))))
  asked = i.is_count.ensures ∙ ap (λ (bs : List ℕ). is_count (count (first next)) (number_in bs)) (part_cut comma (line (first next)) 0 (first next).end_of-end.result (first next).end_of-end.ensures)

returns : tie.Need-returns-then-end-long
returns c = sym (one_field (count c.before) (line c.before) c.end_of-end.ensures c.if-end-long.true)

add-from : tie.Need-overflow_add-from
add-from c = record { fits = omega (arith, next-within (count c.before) (line c.before) c.end_of-end.ensures c.if-end-long.false) }

end-of-requires-2 : tie.Need-end_of-stop-requires
end-of-requires-2 c κs = next-within (count c.before) (line c.before) c.end_of-end.ensures c.if-end-long.false

returns-2 : tie.Need-returns-then-stop-long
returns-2 c =
    let n = c.before in
    sym (third-field (count (first n)) (line (first n)) (first n).end_of-end.ensures n.if-end-long.false n.end_of-stop.ensures c.if-stop-long.true)

part-is-count-end : tie.Need-slice_bounds-is_count-end
part-is-count-end c = ends c.before

returns-3 : tie.Need-returns-then-not-is_count
returns-3 c =
    let i = c.before in
    let n = next i in
    sym
    (other-count (count (first n)) (line (first n)) (first n).end_of-end.ensures n.if-end-long.false n.end_of-stop.ensures i.if-stop-long.false
    (sym (asked i) ∙ c.if-not-is_count.true))

part-total-end : tie.Need-slice_bounds-total-end
part-total-end c = stops (next c.before)

returns-4 : tie.Need-returns
returns-4 c =
    let e = c in
    let i = e.before.before.before in
    let n = next i in
    c.total.ensures
    ∙ ap total_in (part_cut comma (line (first n)) _ n.end_of-stop.result n.end_of-stop.ensures)
    ∙ sym
    (this-count (count (first n)) (line (first n)) (first n).end_of-end.ensures n.if-end-long.false n.end_of-stop.ensures i.if-stop-long.false
    (sym (asked i) ∙ e.if-not-is_count.false))

pub count_and_total_spec : {M : Type 1} → statement M
count_and_total_spec =
    tie.close
    (tie.spec
    (λ c κs. search rules)
    returns
    add-from
    end-of-requires-2
    returns-2
    (λ c. search rules)
    (λ c. search rules)
    part-is-count-end
    (λ c κs. search rules)
    returns-3
    (λ c. search rules)
    (λ c. search rules)
    part-total-end
    (λ c κs. search rules)
    returns-4)
