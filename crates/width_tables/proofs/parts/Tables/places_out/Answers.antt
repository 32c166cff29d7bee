use Rattle.std.proofs.Common.{arith, rules}
use Rattle.width_tables.proofs.CutLaws.{cut}
use Rattle.width_tables.proofs.parts.Tables.places_out.Goals as goal

pub overflow_mul-result : goal.overflow_mul-result
overflow_mul-result c = let w = cut c.args.self.now.known c.args.self.now.filled in omega (arith, w, c.half-half.ensures)

pub overflow_mul-result-2 : goal.overflow_mul-result-2
overflow_mul-result-2 c = let w = cut c.args.self.now.known c.args.self.now.filled in omega (arith, w, c.half-half.ensures)

pub offset_bounds-self-half : goal.offset_bounds-self-half
offset_bounds-self-half c = let w = cut c.args.self.now.known c.args.self.now.filled in omega (arith, w, c.half-half.ensures)

pub slice_bounds-result-end : goal.slice_bounds-result-end
slice_bounds-result-end c = let w = cut c.args.self.now.known c.args.self.now.filled in search rules
