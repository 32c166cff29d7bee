use Rattle.tables.proofs.Reading.{half_is}
use Rattle.width_tables.proofs.parts.Tables.half.Goals as goal

pub returns : goal.returns
returns c = half_is c.args.self.now.width c.args.self.now.known
