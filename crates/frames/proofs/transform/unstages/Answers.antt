use Rattle.std.proofs.Common.{arith, length, ap, sym, subst, ◌∙◌, ℕ, ◌%◌}
use Rattle.integers.specs.Places.{places, Within}
use Rattle.steps.specs.Limits.{coefficient_limit}
use Rattle.steps.proofs.Lengths.{length-unstages}
use Rattle.slices.specs.Own.Moves.{woven_at}
use Rattle.slices.proofs.Parts.{part-long, front}
use Rattle.stages.proofs.PartLaws.{half-in-fours}
use Rattle.frames.proofs.FrameLaws.{half_le, lower-long, upper-long, unstages_is, take_within}
use Rattle.frames.proofs.transform.unstages.Goals as goal

pub slice_bounds-widen-end : goal.slice_bounds-widen-end
slice_bounds-widen-end c = part-long _ _ (half_le _ c.args.t.now.known c.requires.given_len c.half-half.ensures)

pub widen-requires : goal.widen-requires
widen-requires c =
    let l = lower-long _ c.args.t.now.known c.requires.given_len c.half-half.ensures in
    (l ∙ sym c.requires.wide_room.halves.top-long, ap (λ n. n % 4) l ∙ half-in-fours c.args.t.now.width)

pub widen-requires-2 : goal.widen-requires-2
widen-requires-2 c =
    let l = upper-long _ c.args.t.now.known c.requires.given_len c.half-half.ensures in
    (l ∙ sym c.requires.wide_room.halves.bottom-long, ap (λ n. n % 4) l ∙ half-in-fours c.args.t.now.width)

pub backward-requires-clause-within : goal.backward-requires-clause-within
backward-requires-clause-within c = subst (Within coefficient_limit) (sym c.widen.ensures) (take_within c.args.t.now.width coefficient_limit _ c.requires.within c.half-half.result)

pub returns : goal.returns
returns c =
    let made =
    c.interleave.ensures
    ∙ ap (λ (n : ℕ). places n (woven_at c.backward.new.top c.backward.new.bottom)) (sym (part-long c.args.t.now.width c.backward.new.y (omega (arith, c.requires.wide_room.y-wide, c.backward.auto.y))))
    ∙ unstages_is _ c.args.t.now.known c.requires.given_len c.half-half.ensures c.widen.ensures c.widen-2.ensures c.backward.ensures in
    front c.args.t.now.width _ _ (ap length made ∙ length-unstages c.args.t.now.width c.args.given.now) ∙ made
