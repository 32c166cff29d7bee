use Rattle.std.proofs.Common.{arith, rules}
use Rattle.width_tables.proofs.CutLaws.{cut, cosine-leaves-cut}
use Rattle.width_tables.proofs.parts.Tables.cosine_leaves.Goals as goal

pub overflow_mul-from : goal.overflow_mul-from
overflow_mul-from c = let w = cut c.args.self.now.known c.args.self.now.filled in omega (arith, w, c.half-from.ensures)

pub overflow_add-middle : goal.overflow_add-middle
overflow_add-middle c = let w = cut c.args.self.now.known c.args.self.now.filled in omega (arith, w, c.half-from.ensures)

pub offset_bounds-self-from : goal.offset_bounds-self-from
offset_bounds-self-from c = let w = cut c.args.self.now.known c.args.self.now.filled in omega (arith, w, c.half-from.ensures)

pub slice_bounds-result-count : goal.slice_bounds-result-count
slice_bounds-result-count c = let w = cut c.args.self.now.known c.args.self.now.filled in omega (arith, w, c.half-from.ensures)

pub slice_bounds-result-start : goal.slice_bounds-result-start
slice_bounds-result-start c = let w = cut c.args.self.now.known c.args.self.now.filled in omega (arith, w, c.half-from.ensures)

pub slice_bounds-result-end : goal.slice_bounds-result-end
slice_bounds-result-end c = let w = cut c.args.self.now.known c.args.self.now.filled in search rules

pub returns : goal.returns
returns c = cosine-leaves-cut c.args.self.now.known c.args.self.now.filled c.half-from.result c.half-from.ensures
