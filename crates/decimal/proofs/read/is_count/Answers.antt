-- A number below zero is no count.
use Rattle.std.proofs.Common.{◌≡◌, ◌∙◌, ap, sym, eqb, Some}
use Rattle.text_runs.specs.Decimal.{number_in}
use Rattle.text_runs.specs.Lines.{is_count}
use Rattle.text_runs.proofs.Inverse.{number_fits}
use Rattle.decimal.proofs.EndRead.{count-held, count_below}
use Rattle.decimal.proofs.FieldsRead.{number-kept}
use Rattle.decimal.proofs.read.is_count.Goals as goal

pub returns-in_default : goal.returns-in_default
unfolding is_count
returns-in_default c = ap (is_count c.args.count) (sym c.in_default.is ∙ c.number.ensures)

pub returns-in-Ok : goal.returns-in-Ok
returns-in-Ok c =
    let x = c.in-Some.n in
    let e : number_in c.args.field.now ≡ Some x = sym c.number.ensures ∙ c.in-Some.is in
    let k = number-kept _ x e in
    let h = rw k at c.in-Ok.ensures in
    ap (λ n. eqb n c.args.count) h.1 ∙ count-held c.args.count x h.0 ∙ ap (is_count c.args.count) (sym e)

pub returns-in-Err : goal.returns-in-Err
returns-in-Err c =
    let x = c.in-Some.n in
    let e : number_in c.args.field.now ≡ Some x = sym c.number.ensures ∙ c.in-Some.is in
    let k = number-kept _ x e in
    let h = rw k at c.in-Err.ensures in
    count_below c.args.count x (number_fits _ x e) h ∙ ap (is_count c.args.count) (sym e)
