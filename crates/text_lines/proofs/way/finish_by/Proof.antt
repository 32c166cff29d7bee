-- `text_lines::way::finish_by` meets its contract.
use borrow.Author.Rules.{rules}
use mathlib.Core.Path.{sym, ap, ◌∙◌}
use Rattle.runs.specs.Gate.{CallResult}
use Rattle.text_runs.specs.Way.{ended_by}
use Rattle.text_lines.proofs.way.finish_by.Statement.{statement}
use Rattle.text_lines.proofs.way.finish_by.Tie as tie

enum_told : tie.Need-enum_told-1
enum_told c = search rules

finish-requires : tie.Need-finish-requires
finish-requires c κs = search rules

enum-told-2 : tie.Need-enum_told-in-Back
enum-told-2 c = search rules

finish-requires-2 : tie.Need-finish-requires-in-Back
finish-requires-2 c κs = search rules

same_length : tie.Need-shape_of-out
same_length c = search rules

returns : tie.Need-returns-in-Forward
unfolding ended_by
returns c =
    let start = c in
    c.finish.ensures ∙ sym (ap (λ w. ended_by w start.args.run start.args.out.now) c.in-Forward.is)

returns-2 : tie.Need-returns-in-Back
unfolding ended_by
returns-2 c =
    ap (λ (g : CallResult). (g.0, g.1, c.args.out.now)) c.finish-in-Back.ensures
    ∙ sym (ap (λ w. ended_by w c.args.run c.args.out.now) c.in-Back.is)

pub finish_by_spec : {M : Type 1} → statement M
finish_by_spec =
    tie.close
    (tie.spec
    enum_told
    finish-requires
    enum-told-2
    finish-requires-2
    same_length
    returns
    returns-2)
