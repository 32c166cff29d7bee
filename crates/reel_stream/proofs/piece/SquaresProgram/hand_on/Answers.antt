use native.Mathlib.Omega.{arith}
use mathlib.Core.Path.{◌≡◌, refl, ap}
use mathlib.Core.Bool.{cond}
use lib.ListN.{length}
use Rattle.decimal.proofs.PutLaws.{put_as}
use Rattle.pieces.proofs.PieceLaws.{gives_as}
use Rattle.std.proofs.lemmas.Grind.{common_steps}
use Rattle.reels.specs.Reel.{reel_taken, reel_broken, reel_given}
use Rattle.reels.specs.Program.{reel_program}
use Rattle.reel_stream.specs.Reel.{reel_limits}
use Rattle.reel_stream.proofs.ReelLaws.{line-given, line-says}
use Rattle.reel_stream.proofs.piece.SquaresProgram.hand_on.Goals as goal

pub returns : goal.returns
unfolding reel_given
returns c =
    let s = c.args in
    let p = c.refusal.ensures in
    let is : c.take-given.result ≡ cond s.whole (reel_taken s.state.phase s.state s.line.now) (reel_broken s.state.phase s.state) = grind (arith, common_steps) in
    let e = line-says s.state s.whole s.line.now c.requires.sound.1 is in
    gives_as {P = reel_program} {L = reel_limits} (line-given s.state s.whole s.line.now is)
    (record { state = refl; put = put_as _ _ _ _ e p.0; short = omega (arith, ap length e, p.0.count, p.1); none = refl; place = refl })
