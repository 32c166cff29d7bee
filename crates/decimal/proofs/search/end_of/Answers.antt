-- The part ends at the first byte that is the one sought.
use Rattle.std.proofs.Common.{◌≡◌, ℕ, ◌+◌, eqb, ltb, cond, Some, None, List, [], ◌∷◌, length, drop, length-drop, refl, sym, ◌∙◌, arith, rules, tests}
use Rattle.std.specs.List.{position_or_len}
use Rattle.std.proofs.lemmas.Iterator.{YieldsList-from_slice}
use Rattle.std.proofs.lemmas.Iterator.Search.{position_from_yields_List}
use Rattle.std.proofs.lemmas.List.Recursion.{is_position_or_len}
use Rattle.std.proofs.lemmas.Option.{cond_some, none-some}
use mathlib.Core.Bool.{Bool, true, false}
use Rattle.text_runs.specs.Lines.{up_to}
use Rattle.text_runs.proofs.UpToLaws.{part_length}
use borrow.Author.Tests.{ltb-false}
use Rattle.decimal.proofs.ReadLaws.{rest_part}
use Rattle.decimal.proofs.search.end_of.Goals as goal

one-more : (b : Bool) (x : ℕ) (xs : List ℕ) → length (cond b [] (x ∷ xs)) ≡ cond b 0 (1 + length xs)
one-more true x xs = refl
one-more false x xs = omega arith

part-found : (b : ℕ) (xs : List ℕ) → length (up_to b xs) ≡ position_or_len (λ x. eqb x b) xs
unfolding up_to
part-found b xs = is_position_or_len (λ ys. length (up_to b ys)) (λ x. eqb x b) refl (λ x ys. one-more (eqb x b) x (up_to b ys)) xs

none-past : (b : Bool) (n : ℕ) → cond b (Some n) None ≡ None → b ≡ false
none-past true n e = absurd (none-some n (sym e))
none-past false n e = refl

pub returns-in-Some : goal.returns-in-Some
returns-in-Some c =
    let xs = drop c.args.from c.args.text.now in
    let r = position_from_yields_List (λ x. eqb x c.args.byte) _ _ c.position.result c.position.ensures.ran (YieldsList-from_slice xs (c.iter.ensures.rest ∙ rest_part c.args.from c.args.text.now)) (λ x b q k. search (rules, tests)) in
    let p = cond_some _ _ _ (sym r ∙ c.in-Some.is) in
    omega (arith, p.1, part-found c.args.byte xs)

pub returns-in-None : goal.returns-in-None
returns-in-None c =
    let xs = drop c.args.from c.args.text.now in
    let r = position_from_yields_List (λ x. eqb x c.args.byte) _ _ c.position.result c.position.ensures.ran (YieldsList-from_slice xs (c.iter.ensures.rest ∙ rest_part c.args.from c.args.text.now)) (λ x b q k. search (rules, tests)) in
    let p = none-past (ltb (position_or_len (λ x. eqb x c.args.byte) xs) (length xs)) _ (sym r ∙ c.in-None.is) in
    let past = ltb-false _ _ p in
    omega (arith, past, part_length c.args.byte xs, part-found c.args.byte xs, length-drop c.args.from c.args.text.now)
