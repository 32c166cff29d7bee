use Rattle.std.proofs.Common.{arith, ◌≡◌, ℕ, length, sym, ap, subst, ◌∙◌}
use lib.ListN.{take, drop}
use Rattle.integers.specs.Places.{places}
use Rattle.integers.proofs.PlaceLaws.{length-places, within-up}
use Rattle.products.specs.Own.Whole.{LeafLists}
use Rattle.width_tables.specs.Filled.{cosine_list}
use Rattle.rows.specs.Orders.{Order, row_at}
use Rattle.rows.proofs.Parts.{front-le, front_long, room-kept}
use Rattle.rows.proofs.CosineOrder.{cosine-order, row-size, cosine-given, cosine-rows}
use Rattle.rows.proofs.sums.cosine_sums.Goals as goal

pub slice_bounds-in_order-end : goal.slice_bounds-in_order-end
slice_bounds-in_order-end c = front-le _ _ c.half-half.ensures _ c.requires.x_len.1

pub slice_bounds-in_order-end-2 : goal.slice_bounds-in_order-end-2
slice_bounds-in_order-end-2 c = sym (front_long _ _ c.half-half.ensures c.args.room.now c.requires.x_len.1)

pub in_order-requires-clause-out_len : goal.in_order-requires-clause-out_len
in_order-requires-clause-out_len c =
    (front_long _ _ c.half-half.ensures c.args.room.now c.requires.x_len.1 ∙ c.half-half.ensures ∙ sym c.requires.x_len.0, omega (arith, c.requires.x_len.0, c.args.t.now.filled.cosines.power.is))

pub in_order-requires-clause-order : goal.in_order-requires-clause-order
in_order-requires-clause-order c =
    subst (λ (n : ℕ). Order n c.places_in.result.now c.signs_in.result.now) (sym c.requires.x_len.0) (cosine-order c.args.alternated c.args.t.now.width c.places_in.ensures c.signs_in.ensures)

pub in_order-requires-clause-by_index : goal.in_order-requires-clause-by_index
in_order-requires-clause-by_index c m h = row-size c.args.alternated c.args.t.now.width c.places_in.ensures c.signs_in.ensures (within-up c.requires.within (omega arith)) m

pub product-requires : goal.product-requires
product-requires c =
    let h = c.half-half.ensures in
    let f = front_long _ _ h c.args.room.now c.requires.x_len.1 in
    cosine-given c.args.alternated c.args.t.now.width c.places_in.ensures c.signs_in.ensures c.half-half.result c.args.t.now.known h (drop c.half-half.result c.args.room.now)
    (subst (λ (m : ℕ). LeafLists m (cosine_list c.args.t.now.width) c.cosine_leaves.result.now) (sym h) c.cosine_leaves.ensures) c.requires.x_len.0 c.requires.within
    (c.in_order.ensures ∙ ap (λ (n : ℕ). places n (row_at c.places_in.result.now c.signs_in.result.now c.args.x.now)) f)
    (room-kept _ _ h c.args.room.now c.requires.x_len.1 _ (ap length c.in_order.ensures ∙ length-places _ _))

pub returns : goal.returns
returns c =
    let h = c.half-half.ensures in
    let f = front_long _ _ h c.args.room.now c.requires.x_len.1 in
    cosine-rows c.args.alternated c.args.t.now.width c.places_in.ensures c.signs_in.ensures c.half-half.result c.args.t.now.known h (drop c.half-half.result c.args.room.now)
    (subst (λ (m : ℕ). LeafLists m (cosine_list c.args.t.now.width) c.cosine_leaves.result.now) (sym h) c.cosine_leaves.ensures) c.requires.x_len.0 c.requires.within
    (c.in_order.ensures ∙ ap (λ (n : ℕ). places n (row_at c.places_in.result.now c.signs_in.result.now c.args.x.now)) f)
    (room-kept _ _ h c.args.room.now c.requires.x_len.1 _ (ap length c.in_order.ensures ∙ length-places _ _)) c.product.new.room c.product.ensures
