use mathlib.Core.Path.{sym, ◌∙◌}
use native.Mathlib.Omega.{arith}
use Rattle.decimal.proofs.FieldsRead.{asks-narrow}
use Rattle.text_runs.proofs.Inverse.{number_fits}
use Rattle.case_lines.proofs.line.field.Goals as goal

pub overflow_cast-x : goal.overflow_cast-x
overflow_cast-x c =
    let e = sym c.number.ensures ∙ c.in-Some.is in
    asks-narrow _ _ (omega (arith, number_fits _ _ e)) e
