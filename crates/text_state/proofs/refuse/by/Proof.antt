-- `text_state::refuse::by` meets its contract.
use borrow.Author.Rules.{rules}
use native.Mathlib.Omega.{arith}
use mathlib.Core.Path.{◌∙◌}
use Rattle.decimal.proofs.PutLaws.{put_then}
use Rattle.text_state.proofs.GivenLaws.{given-text, refused-by}
use Rattle.text_state.proofs.refuse.by.Statement.{statement}
use Rattle.text_state.proofs.refuse.by.Tie as tie

line-number-requires : tie.Need-line_number-line-requires
line-number-requires c κs = tt

slice-aggregate-refusal : tie.Need-slice_bounds-refusal-end
slice-aggregate-refusal c = search rules

refusal-requires : tie.Need-refusal-n-requires
refusal-requires c κs = search rules

slice-aggregate-bytes : tie.Need-slice_bounds-bytes-end
slice-aggregate-bytes c = search rules

bytes-requires : tie.Need-bytes-length-requires
bytes-requires c κs = search rules

with-run-requires : tie.Need-with_run-requires
with-run-requires c κs = tt

returns : tie.Need-returns
returns c =
    let at-bytes = c in
    let at-refusal = at-bytes in
    let start = at-refusal in
    let p = at-refusal.refusal-n.ensures in
    let q = at-bytes.bytes-length.ensures in
    (given-text _ _ _ _ _ c.with_run.ensures (put_then p.0 q).is ∙ refused-by start.args.state _ _ _ at-refusal.line_number-line.ensures, omega (arith, p.1, q.count))

pub by_spec : {M : Type 1} → statement M
by_spec =
    tie.close
    (tie.spec
    line-number-requires
    slice-aggregate-refusal
    refusal-requires
    slice-aggregate-bytes
    bytes-requires
    with-run-requires
    returns)
