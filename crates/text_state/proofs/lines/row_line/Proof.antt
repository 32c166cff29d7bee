-- `text_state::lines::row_line` meets its contract.
use borrow.Author.Rules.{rules}
use native.Mathlib.Omega.{arith}
use mathlib.Core.Path.{◌∙◌}
use Rattle.decimal.proofs.PutLaws.{put_then}
use Rattle.text_runs.specs.Way.{row_line}
use Rattle.text_state.proofs.lines.row_line.Statement.{statement}
use Rattle.text_state.proofs.lines.row_line.Tie as tie

numbers-requires : tie.Need-numbers-n-requires
numbers-requires c κs = search rules

bytes-requires : tie.Need-bytes-requires
bytes-requires c κs = search rules

same_length : tie.Need-shape_of-text
same_length c = let at-text = c in c.text-2-1.given ∙ at-text.text-1.given

returns : tie.Need-returns
unfolding row_line
returns c =
    let at-numbers = c in
    let p = at-numbers.numbers-n.ensures in
    let q = c.bytes.ensures in
    (put_then p.0 q, omega (arith, p.1, q.count))

pub row_line_spec : {M : Type 1} → statement M
row_line_spec =
    tie.close (tie.spec
    numbers-requires
    bytes-requires
    same_length
    returns)
