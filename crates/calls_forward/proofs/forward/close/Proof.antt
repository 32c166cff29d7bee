-- `calls_forward::forward::close` meets its contract.
use borrow.Author.Rules.{rules}
use mathlib.Core.Path.{◌≡◌, sym, ap, ap₂, subst, ◌∙◌}
use mathlib.Core.Bool.{true}
use mathlib.Core.List.{List}
use Prim.Native.Nat.{ℕ, ◌≤◌}
use lib.IntN.{ℤ, pos}
use mir.Syntax.{w64}
use Rattle.integers.proofs.Held.{held-ok}
use lib.ListN.{length, take, length-replicate}
use Rattle.integers.specs.Places.{Within}
use Rattle.steps.specs.Limits.{reading_limit, folded_limit}
use Rattle.steps.specs.Steps.{frame}
use Rattle.slices.proofs.Parts.{part-long}
use Rattle.frames.proofs.FrameLaws.{take_within}
use Rattle.runs.specs.Record.{zeros, closed}
use Rattle.gate.proofs.FaultLaws.{width_room, half_room}
use Rattle.gate.proofs.ReadyLaws.{frame_on_lem, zero-part, zero-within}
use Rattle.calls_forward.proofs.forward.close.Statement.{statement}
use Rattle.calls_forward.proofs.forward.close.Tie as tie

module _ (s : tie.Start) where
  abbrev N : ℕ
  N = s.args.run.width

  abbrev before : List ℤ
  before = s.args.run.held

  held-long : length before ≡ 64
  held-long = search rules

  half_le : s.args.half ≤ length before
  half_le = half_room N s.args.half before s.requires.0.half_is held-long

-- a block of zeros, as long as the width
module _ (z : tie.After-zero_block-zeros) where
  abbrev from : tie.Start
  from = z.before.before

  zeros-le : N from ≤ length z.zero_block-zeros.result
  zeros-le = width_room (N from) z.zero_block-zeros.result from.requires.0.wide (sym (ap length z.zero_block-zeros.ensures ∙ length-replicate 128 (pos 0)))

  block-is : take (N from) z.zero_block-zeros.result ≡ zeros (N from)
  block-is = zero-part (N from) _ from.requires.0.wide z.zero_block-zeros.ensures

array-share-prefix-zeros : tie.Need-slice_bounds-zeros-end
array-share-prefix-zeros c = zeros-le c.before

slice-aggregate-step-in : tie.Need-slice_bounds-step_in-end
slice-aggregate-step-in c = let z = c.before.before in part-long _ z.zero_block-zeros.result (zeros-le z)

array-borrow-prefix-held : tie.Need-slice_bounds-held-end
array-borrow-prefix-held c = half_le (from c.before.before)

slice-aggregate-step-in-2 : tie.Need-slice_bounds-step_in-end-2
slice-aggregate-step-in-2 c = let s = from c.before.before.before in part-long _ (before s) (half_le s)

step-in-requires : tie.Need-step_in-requires
step-in-requires c κs =
    let z = c.before.before.before.before in
    let s = from z in
    let ready = s.requires.0 in (
      ready.wide,
      (
        (sym (part-long _ z.zero_block-zeros.result (zeros-le z)), sym (part-long _ (before s) (half_le s)) ∙ ready.half_is, s.requires.1),
        (take_within (N s) folded_limit (before s) ready.within s.args.half, subst (Within reading_limit) (sym (block-is z)) (zero-within (N s))),
      ),
    )

returns : tie.Need-returns
unfolding closed
returns c =
    let t = c.before.before.before.before in
    let z = t.before.before.before.before.before in
    let s = from z in (
      c.make.ensures ∙ ap₂ (λ (h : List ℤ) (t : ℤ). record { width = N s; count = s.args.run.count; held = h; finished = true; total = t }) c.nothing_held.ensures (held-ok w64 _ z.struct_told-1.given.1.1.1.1.0.1).is,
      t.step_in.ensures.1 ∙ ap (frame (N s) (take s.args.half (before s))) (block-is z) ∙ frame_on_lem s.args.run s.args.half s.requires.0 (zeros (N s)),
    )

pub close_spec : {M : Type 1} → statement M
close_spec =
    tie.close
    (tie.spec
    (λ c κs. search rules)
    array-share-prefix-zeros
    slice-aggregate-step-in
    array-borrow-prefix-held
    slice-aggregate-step-in-2
    step-in-requires
    (λ c κs. search rules)
    (λ c κs. search rules)
    (λ c. search rules)
    returns)
