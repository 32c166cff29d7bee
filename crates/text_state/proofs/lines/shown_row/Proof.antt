-- `text_state::lines::shown_row` meets its contract.
use borrow.Author.Rules.{rules}
use native.Mathlib.Omega.{arith}
use mathlib.Core.Path.{sym, ap, ◌∙◌}
use Rattle.text_runs.specs.Way.{shown_row}
use Rattle.text_state.proofs.lines.shown_row.Statement.{statement}
use Rattle.text_state.proofs.lines.shown_row.Tie as tie

enum_told : tie.Need-enum_told-1
enum_told c = search rules

row-line-requires : tie.Need-row_line-requires
row-line-requires c κs = search rules

enum-told-2 : tie.Need-enum_told-in-Back
enum-told-2 c = search rules

shown-block-requires : tie.Need-shown_block-requires
shown-block-requires c κs = search rules

same_length : tie.Need-shape_of-text-in-Forward
same_length c = c.text-1.given

returns : tie.Need-returns-in-Forward
unfolding shown_row
returns c =
    let at-enum-told = c in
    let s = at-enum-told.args in
    let p = c.row_line.ensures in
    (p.0.is ∙ sym (ap (λ w. shown_row w s.run s.out.now) at-enum-told.in-Forward.is), omega (arith, p.1))

same-length-2 : tie.Need-shape_of-text-in-Back
same-length-2 c = c.text-in-Back-1.given

returns-2 : tie.Need-returns-in-Back
returns-2 c =
    let at-enum-told2 = c in
    let s = at-enum-told2.args in
    let p = c.shown_block.ensures in
    (p.0 ∙ sym (ap (λ w. shown_row w s.run s.out.now) at-enum-told2.in-Back.is), p.1)

pub shown_row_spec : {M : Type 1} → statement M
shown_row_spec =
    tie.close
    (tie.spec
    enum_told
    row-line-requires
    enum-told-2
    shown-block-requires
    same_length
    returns
    same-length-2
    returns-2)
