use Rattle.pieces.proofs.PieceLaws.{gives_as}
use Rattle.text_pieces.proofs.TextLaws.{line-given}
use Rattle.text_pieces.proofs.piece.TextProgram.hand_on.Goals as goal

pub returns : goal.returns
returns c = gives_as (line-given c.args.state c.args.whole c.args.line.now c.requires.room.0 c.take.ensures.result_value) c.put.ensures
