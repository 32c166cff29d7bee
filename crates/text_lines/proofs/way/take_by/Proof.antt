-- `text_lines::way::take_by` meets its contract.
use borrow.Author.Rules.{rules}
use mathlib.Core.Path.{sym, ap, ◌∙◌}
use Rattle.text_runs.specs.Way.{taken_by}
use Rattle.text_lines.proofs.way.take_by.Statement.{statement}
use Rattle.text_lines.proofs.way.take_by.Tie as tie

enum_told : tie.Need-enum_told-1
enum_told c = search rules

take-requires : tie.Need-take-requires
take-requires c κs = search rules

enum-told-2 : tie.Need-enum_told-in-Back
enum-told-2 c = search rules

take-requires-2 : tie.Need-take-requires-in-Back
take-requires-2 c κs = search rules

same_length : tie.Need-shape_of-out-in-Forward
same_length c = search rules

returns : tie.Need-returns-in-Forward
unfolding taken_by
returns c =
    let start = c in
    c.take.ensures ∙ sym (ap (λ w. taken_by w start.args.run start.args.numbers.now start.args.out.now) c.in-Forward.is)

same-length-2 : tie.Need-shape_of-out-in-Back
same-length-2 c = search rules

returns-2 : tie.Need-returns-in-Back
unfolding taken_by
returns-2 c =
    let start = c in
    c.take-in-Back.ensures ∙ sym (ap (λ w. taken_by w start.args.run start.args.numbers.now start.args.out.now) c.in-Back.is)

pub take_by_spec : {M : Type 1} → statement M
take_by_spec =
    tie.close
    (tie.spec
    enum_told
    take-requires
    enum-told-2
    take-requires-2
    same_length
    returns
    same-length-2
    returns-2)
