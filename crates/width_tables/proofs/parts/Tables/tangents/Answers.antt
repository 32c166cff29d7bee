use Rattle.std.proofs.Common.{rules}
use Rattle.width_tables.proofs.CutLaws.{cut}
use Rattle.width_tables.proofs.parts.Tables.tangents.Goals as goal

pub slice_bounds-result-end : goal.slice_bounds-result-end
slice_bounds-result-end c = let w = cut c.args.self.now.known c.args.self.now.filled in search rules
