use Rattle.std.proofs.Common.{arith}
use Rattle.width_tables.proofs.CutLaws.{cut, secant-leaves-cut}
use Rattle.width_tables.proofs.parts.Tables.secant_leaves.Goals as goal

pub overflow_mul-middle : goal.overflow_mul-middle
overflow_mul-middle c = let w = cut c.args.self.now.known c.args.self.now.filled in omega (arith, w, c.half.ensures)

pub overflow_add-middle : goal.overflow_add-middle
overflow_add-middle c = let w = cut c.args.self.now.known c.args.self.now.filled in omega (arith, w, c.half.ensures)

pub offset_bounds-self-middle : goal.offset_bounds-self-middle
offset_bounds-self-middle c = let w = cut c.args.self.now.known c.args.self.now.filled in omega (arith, w, c.half.ensures)

pub slice_bounds-result-count : goal.slice_bounds-result-count
slice_bounds-result-count c = let w = cut c.args.self.now.known c.args.self.now.filled in omega (arith, w, c.half.ensures)

pub slice_bounds-result-start : goal.slice_bounds-result-start
slice_bounds-result-start c = let w = cut c.args.self.now.known c.args.self.now.filled in omega (arith, w, c.half.ensures)

pub returns : goal.returns
returns c = secant-leaves-cut c.args.self.now.known c.args.self.now.filled c.half.result c.half.ensures
