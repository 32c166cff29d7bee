use native.Mathlib.Omega.{arith}
use mathlib.Core.Path.{refl, sym, ap, ◌∙◌}
use lib.ListN.{length}
use Rattle.decimal.proofs.PutLaws.{put-none, put_as}
use Rattle.pieces.proofs.PieceLaws.{gives_as}
use Rattle.reels.specs.Reel.{reel_given}
use Rattle.reels.specs.Program.{reel_program}
use Rattle.reels.proofs.PrintedLaws.{says-few}
use Rattle.reel_stream.specs.Reel.{reel_limits}
use Rattle.reel_stream.proofs.ReelLaws.{over-says, going-says, end-given, end_kept}
use Rattle.reel_stream.proofs.piece.SquaresProgram.end.Goals as goal

pub says-behind-requires : goal.says-behind-requires
says-behind-requires c = (end_kept c.args.state c.end-given.ensures c.requires.0, c.requires.1)

pub returns-then-is_over : goal.returns-then-is_over
unfolding reel_given
returns-then-is_over c =
    let before = c.args.state in
    let given = c.end-given.result in
    let e = over-says before given (sym c.is_over.ensures ∙ c.if-is_over.true) in
    gives_as {P = reel_program} {L = reel_limits} (end-given before c.end-given.ensures)
    (record { state = refl; put = put_as _ _ _ _ e (put-none _ _); short = omega (arith, ap length e); none = refl; place = refl })

pub returns-else-is_over : goal.returns-else-is_over
unfolding reel_given
returns-else-is_over c =
    let before = c.args.state in
    let given = c.end-given.result in
    let e = going-says before given (sym c.is_over.ensures ∙ c.if-is_over.false) in
    let few = says-few given.phase given (end_kept before c.end-given.ensures c.requires.0) in
    gives_as {P = reel_program} {L = reel_limits} (end-given before c.end-given.ensures)
    (record { state = refl; put = put_as _ _ _ _ e c.says-behind.ensures; short = omega (arith, ap length e, few); none = refl; place = refl })
