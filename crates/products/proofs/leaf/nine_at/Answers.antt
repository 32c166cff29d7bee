-- The second four stand behind the first.
use Rattle.std.proofs.Common.{◌≡◌, ◌∙◌, ◌+◌, ap, arith}
use borrow.Author.Rules.{rules}
use Rattle.integers.specs.Places.{at}
use Rattle.integers.proofs.PlaceLaws.{places-ext}
use Rattle.products.proofs.LeafLaws.{nine-read}
use Rattle.products.proofs.leaf.nine_at.Goals as goal

pub returns : goal.returns
returns c =
    let x = c.args.x.now in
    let p = c.args.p in
    nine-read (λ j. at x (p + j)) c.four_at-low.result c.four_at-high.result c.four_at-low.ensures
    (c.four_at-high.ensures ∙ places-ext 4 _ _ (λ j l. ap (at x) (let e : p + 4 + j ≡ p + (4 + j) = omega arith in e))) (search rules) (search rules) (search rules)
