-- `case_lines::line::end` meets its contract.
use native.Mathlib.Omega.{arith}
use borrow.Author.Rules.{rules}
use lib.ListN.{drop, length-drop}
use Rattle.text_runs.proofs.UpToLaws.{part_length}
use Rattle.case_lines.proofs.line.end.Statement.{statement}
use Rattle.case_lines.proofs.line.end.Tie as tie

end-of-requires : tie.Need-end_of-requires
end-of-requires c κs = search rules

returns : tie.Need-returns
returns c =
    let text = c.args.text.now in
    let rest = drop c.args.from text in
    omega (arith, c.end_of.ensures, part_length c.args.byte rest, length-drop c.args.from text)

pub end_spec : {M : Type 1} → statement M
end_spec = tie.close (tie.spec end-of-requires returns)
