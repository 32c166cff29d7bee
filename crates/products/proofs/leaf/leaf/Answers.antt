-- The products, and what goes into them, fit; their sums are the leaf's product.
use borrow.Author.Rules.{rules}
use Rattle.products.proofs.LeafLaws.{p-fit, r-fit, t-fit, sum-02, sum-13, sums-fit, leaf_is}
use Rattle.products.proofs.leaf.leaf.Goals as goal

pub two-p-requires : goal.two-p-requires
two-p-requires c = p-fit c.args.l c.args.x c.requires (search rules)

pub two-r-requires : goal.two-r-requires
two-r-requires c = r-fit c.args.l c.args.x c.requires (search rules)

pub overflow_add-x : goal.overflow_add-x
overflow_add-x c = sum-02 c.args.l c.args.x c.requires

pub overflow_add-x-2 : goal.overflow_add-x-2
overflow_add-x-2 c = sum-13 c.args.l c.args.x c.requires

pub two-t-requires : goal.two-t-requires
two-t-requires c = t-fit c.args.l c.args.x c.requires (search rules)

pub overflow_add-result : goal.overflow_add-result
overflow_add-result c = (sums-fit c.args.l c.args.x c.requires (search rules) c.two-p.ensures c.two-r.ensures c.two-t.ensures (search rules) (search rules) (search rules)).0

pub overflow_add-result-2 : goal.overflow_add-result-2
overflow_add-result-2 c = (sums-fit c.args.l c.args.x c.requires (search rules) c.two-p.ensures c.two-r.ensures c.two-t.ensures (search rules) (search rules) (search rules)).1

pub overflow_add-result-3 : goal.overflow_add-result-3
overflow_add-result-3 c = (sums-fit c.args.l c.args.x c.requires (search rules) c.two-p.ensures c.two-r.ensures c.two-t.ensures (search rules) (search rules) (search rules)).2

pub overflow_add-result-4 : goal.overflow_add-result-4
overflow_add-result-4 c = (sums-fit c.args.l c.args.x c.requires (search rules) c.two-p.ensures c.two-r.ensures c.two-t.ensures (search rules) (search rules) (search rules)).3

pub returns : goal.returns
returns c = leaf_is c.args.l c.args.x c.requires (search rules) c.two-p.ensures c.two-r.ensures c.two-t.ensures (search rules) (search rules) (search rules)
