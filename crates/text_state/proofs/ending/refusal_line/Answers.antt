-- A refusal's three numbers behind its tag.
use Rattle.std.proofs.Common.{◌∙◌, sym, ap, arith, w32}
use Rattle.integers.proofs.Held.{held-ok}
use Rattle.text_runs.specs.Lines.{refused_tag}
use Rattle.text_runs.specs.Way.{row_line}
use Rattle.feeding.specs.Ending.{ending_line}
use Rattle.decimal.proofs.PutLaws.{put-none, put_then, put_as}
use Rattle.text_state.proofs.EndingLaws.{refused_as, line_none}
use Rattle.text_state.proofs.ending.refusal_line.Goals as goal

pub returns-in-Open : goal.returns-in-Open
returns-in-Open c = (put_as _ _ _ _ (line_none c.in-Open.is) (put-none _ _), omega arith)

pub returns-in-Refused : goal.returns-in-Refused
unfolding ending_line refused_tag row_line
returns-in-Refused c =
    let same = refused_as (held-ok w32 c.in-Refused.number (omega arith)).is (held-ok w32 c.in-Refused.line (omega arith)).is (held-ok w32 c.in-Refused.place (omega arith)).is in (
      put_as _ _ _ _ (ap ending_line same ∙ sym (ap ending_line c.in-Refused.is)) (put_then c.bytes-n.ensures c.row_line.ensures.0),
      omega (arith, c.bytes-n.ensures.count, c.row_line.ensures.1),
    )
