-- `text_state::lines::last_line` meets its contract.
use borrow.Author.Rules.{rules}
use native.Mathlib.Omega.{arith}
use mathlib.Core.Path.{ap}
use mir.Syntax.{w64}
use Rattle.integers.proofs.Held.{held}
use Rattle.decimal.proofs.PutLaws.{put_then, put_as}
use Rattle.text_runs.specs.Lines.{end_line}
use Rattle.text_runs.specs.Way.{last_line}
use Rattle.text_state.proofs.lines.last_line.Statement.{statement}
use Rattle.text_state.proofs.lines.last_line.Tie as tie

end-line-requires : tie.Need-end_line-n-requires
end-line-requires c κs = search rules

bytes-requires : tie.Need-bytes-requires
bytes-requires c κs = search rules

same_length : tie.Need-shape_of-text
same_length c = search rules

returns : tie.Need-returns
unfolding last_line
returns c =
    let at-end-line = c in
    let s = at-end-line in
    let total = (held w64 s.args.total s.ranges.total).is in
    let p = at-end-line.end_line-n.ensures in
    let q = c.bytes.ensures in
    (put_then (put_as _ _ _ _ (ap (end_line s.args.count) total) p.0) q, omega (arith, p.1, q.count))

pub last_line_spec : {M : Type 1} → statement M
last_line_spec =
    tie.close (tie.spec
    end-line-requires
    bytes-requires
    same_length
    returns)
