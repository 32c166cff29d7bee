use Rattle.std.proofs.Common.{arith, ◌≡◌, ℕ, length, sym, ap, ap₂, subst, ◌∙◌}
use lib.ListN.{take, drop}
use Rattle.integers.specs.Places.{places, at}
use Rattle.integers.proofs.PlaceLaws.{length-places, within-up}
use Rattle.tables.proofs.ByWidth.{half-width-le}
use Rattle.products.specs.Own.Whole.{LeafLists}
use Rattle.width_tables.specs.Filled.{secant_list}
use Rattle.rows.specs.Orders.{secant_in}
use Rattle.rows.proofs.Parts.{front-le, front_long, room-kept}
use Rattle.rows.proofs.SecantOrder.{secant-given, secant-rows}
use Rattle.rows.proofs.sums.secant_sums.Goals as goal

pub slice_bounds-secant_in-end : goal.slice_bounds-secant_in-end
slice_bounds-secant_in-end c = front-le _ _ c.half-half.ensures _ c.requires.x_len.1

pub slice_bounds-secant_in-end-2 : goal.slice_bounds-secant_in-end-2
slice_bounds-secant_in-end-2 c = sym (front_long _ _ c.half-half.ensures c.args.room.now c.requires.x_len.1)

pub secant_in-requires-clause-out_len : goal.secant_in-requires-clause-out_len
secant_in-requires-clause-out_len c =
    (front_long _ _ c.half-half.ensures c.args.room.now c.requires.x_len.1 ∙ c.half-half.ensures ∙ sym c.requires.x_len.0, omega (arith, c.requires.x_len.0, half-width-le c.args.t.now.width))

pub product-requires : goal.product-requires
product-requires c =
    let h = c.half-half.ensures in
    let f = front_long _ _ h c.args.room.now c.requires.x_len.1 in
    secant-given c.args.t.now.width c.half-half.result c.args.t.now.known h (drop c.half-half.result c.args.room.now)
    (subst (λ (m : ℕ). LeafLists m (secant_list c.args.t.now.width) c.secant_leaves.result.now) (sym h) c.secant_leaves.ensures) c.requires.within
    (c.secant_in.ensures ∙ ap₂ (λ (n k : ℕ). places n (secant_in k (at c.args.x.now))) f c.requires.x_len.0)
    (room-kept _ _ h c.args.room.now c.requires.x_len.1 _ (ap length c.secant_in.ensures ∙ length-places _ _))

pub returns : goal.returns
returns c =
    let h = c.half-half.ensures in
    let f = front_long _ _ h c.args.room.now c.requires.x_len.1 in
    secant-rows c.args.t.now.width c.half-half.result c.args.t.now.known h (drop c.half-half.result c.args.room.now)
    (subst (λ (m : ℕ). LeafLists m (secant_list c.args.t.now.width) c.secant_leaves.result.now) (sym h) c.secant_leaves.ensures) c.requires.within
    (c.secant_in.ensures ∙ ap₂ (λ (n k : ℕ). places n (secant_in k (at c.args.x.now))) f c.requires.x_len.0)
    (room-kept _ _ h c.args.room.now c.requires.x_len.1 _ (ap length c.secant_in.ensures ∙ length-places _ _)) c.product.new.room c.product.ensures
