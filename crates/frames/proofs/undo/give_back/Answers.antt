use Rattle.std.proofs.Common.{arith, List, ℤ, length, drop, ap, sym, subst, ◌∙◌, ◌%◌, ◌^◌}
use Rattle.integers.specs.Places.{Within}
use Rattle.integers.proofs.PlaceLaws.{within-up}
use Rattle.tables.specs.Widths.{half_width}
use Rattle.steps.specs.Steps.{unfolded}
use Rattle.steps.proofs.Lengths.{length-unstages, length-unfolded, width-half}
use Rattle.slices.proofs.Parts.{front}
use Rattle.runs.proofs.RecordLaws.{width-in-fours}
use Rattle.frames.proofs.undo.give_back.Goals as goal

pub write-requires-clause-wide_len : goal.write-requires-clause-wide_len
write-requires-clause-wide_len c =
    let N = c.args.t.now.width in
    let between = ap length c.block_between.ensures ∙ length-unfolded N _ _ in
    let long = ap length (front N _ (drop N c.unstages.new.z) between) ∙ between in
    (long ∙ sym c.requires.frame_len.2, ap (λ n. n % 4) long ∙ width-in-fours N c.args.t.now.known, omega (arith, c.requires.frame_len.1, width-half N c.args.t.now.known, ap length c.unstages.ensures ∙ length-unstages N _))

pub write-requires-clause-within : goal.write-requires-clause-within
write-requires-clause-within c =
    let N = c.args.t.now.width in
    let made = c.block_between.ensures ∙ ap (λ (l : List ℤ). unfolded N c.args.held.now (drop (half_width N) l)) c.unstages.ensures in
    subst (Within (2 ^ 30)) (sym (front N _ (drop N c.unstages.new.z) (ap length made ∙ length-unfolded N _ _) ∙ made)) (within-up c.requires.unrefused.readings (omega arith))
