use Rattle.pieces.proofs.PieceLaws.{gives_as}
use Rattle.text_pieces.proofs.TextLaws.{end-given}
use Rattle.text_pieces.proofs.piece.TextProgram.end.Goals as goal

pub returns : goal.returns
returns c = gives_as (end-given c.args.state c.end.ensures.result_value) c.put.ensures
