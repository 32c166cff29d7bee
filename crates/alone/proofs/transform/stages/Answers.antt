use Rattle.std.proofs.Common.{◌≡◌, ◌∙◌, sym, ap, ℕ, ℤ, List, ◌++◌, ◌+◌, ◌*◌, ◌≤◌, ◌<◌, length, arith}
use mathlib.Core.Path.{ap₂, subst}
use Rattle.integers.specs.Places.{places, at, Within}
use Rattle.tables.specs.Widths.{half_width}
use Rattle.steps.specs.Limits.{folded_limit}
use Rattle.steps.specs.Steps.{top_of, bottom_of}
use Rattle.steps.proofs.Lengths.{width-half, length-stages}
use Rattle.stages.specs.Own.Stages.{top4, bottom5}
use Rattle.stages.proofs.FrameSizes.{long4, long5}
use Rattle.slices.proofs.Parts.{part-long, front}
use Rattle.frames.proofs.FrameLaws.{read-evens, read-odds, stages-halves, top_within, bottom-within}
use Rattle.alone.proofs.transform.stages.Goals as goal

-- the numbers at the even places, and at the odd ones
module _ (N : ℕ) (work : List ℤ) where
  evens : {n : ℕ} {xs : List ℤ} → xs ≡ places n (λ i. at work (2 * i + 0)) → n ≡ half_width N → xs ≡ top_of N work
  evens e l = e ∙ ap (λ n. places n (λ i. at work (2 * i + 0))) l ∙ read-evens N work

  odds : {n : ℕ} {xs : List ℤ} → xs ≡ places n (λ i. at work (2 * i + 1)) → n ≡ half_width N → xs ≡ bottom_of N work
  odds e l = e ∙ ap (λ n. places n (λ i. at work (2 * i + 1))) l ∙ read-odds N work

pub every_second-requires : goal.every_second-requires
every_second-requires c = (omega arith, omega (arith, width-half c.args.t.now.width c.args.t.now.known, c.requires.given_len, c.requires.wide_room.halves.top-long))

pub every_second-requires-2 : goal.every_second-requires-2
every_second-requires-2 c = (omega arith, omega (arith, width-half c.args.t.now.width c.args.t.now.known, c.requires.given_len, c.requires.wide_room.halves.bottom-long))

pub forward-requires-clause-within : goal.forward-requires-clause-within
forward-requires-clause-within c =
    let N = c.args.t.now.width in
    let work = c.args.given.now in
    subst (Within folded_limit) (sym (evens N work c.every_second.ensures c.requires.wide_room.halves.top-long)) (top_within N folded_limit work c.requires.within)

pub forward-requires-clause-within_2 : goal.forward-requires-clause-within_2
forward-requires-clause-within_2 c =
    let N = c.args.t.now.width in
    let work = c.args.given.now in
    subst (Within folded_limit) (sym (odds N work c.every_second-2.ensures c.requires.wide_room.halves.bottom-long)) (bottom-within N folded_limit work c.requires.within)

pub join-requires : goal.join-requires
join-requires c =
    let N = c.args.t.now.width in
    let y-wide : N ≤ length c.forward.new.y = omega (arith, c.forward.auto.y, c.requires.wide_room.y-wide) in
    sym (part-long _ _ y-wide) ∙ omega (arith, width-half N c.args.t.now.known, ap length c.forward.ensures.0 ∙ long4 N _ _, ap length c.forward.ensures.1 ∙ long5 N _ _)

pub returns : goal.returns
returns c =
    let N = c.args.t.now.width in
    let work = c.args.given.now in
    let halves = c.requires.wide_room.halves in
    let top = evens N work c.every_second.ensures halves.top-long in
    let bottom = odds N work c.every_second-2.ensures halves.bottom-long in
    let joined = c.join.ensures ∙ ap₂ ◌++◌ (c.forward.ensures.0 ∙ ap₂ (top4 N) top bottom) (c.forward.ensures.1 ∙ ap₂ (bottom5 N) top bottom) ∙ stages-halves N work in
    front N _ _ (ap length joined ∙ length-stages N work ∙ width-half N c.args.t.now.known) ∙ joined
