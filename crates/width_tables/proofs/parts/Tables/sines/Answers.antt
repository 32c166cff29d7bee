use Rattle.std.proofs.Common.{arith, rules}
use Rattle.width_tables.proofs.CutLaws.{cut, sines-cut}
use Rattle.width_tables.proofs.parts.Tables.sines.Goals as goal

pub offset_bounds-self-half : goal.offset_bounds-self-half
offset_bounds-self-half c = let w = cut c.args.self.now.known c.args.self.now.filled in omega (arith, w, c.half-half.ensures)

pub slice_bounds-result-count : goal.slice_bounds-result-count
slice_bounds-result-count c = let w = cut c.args.self.now.known c.args.self.now.filled in omega (arith, w, c.half-half.ensures)

pub slice_bounds-result-start : goal.slice_bounds-result-start
slice_bounds-result-start c = let w = cut c.args.self.now.known c.args.self.now.filled in omega (arith, w, c.half-half.ensures)

pub slice_bounds-result-end : goal.slice_bounds-result-end
slice_bounds-result-end c = let w = cut c.args.self.now.known c.args.self.now.filled in search rules

pub returns : goal.returns
returns c = sines-cut c.args.self.now.known c.args.self.now.filled c.half-half.result c.half-half.ensures
