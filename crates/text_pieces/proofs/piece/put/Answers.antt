use native.Mathlib.Omega.{arith}
use mathlib.Core.Path.{refl, ap}
use lib.ListN.{length-take}
use Rattle.text_runs.specs.State.{result_of}
use Rattle.feeding.specs.Text.{session_after}
use Rattle.text_pieces.proofs.piece.put.Goals as goal

pub returns : goal.returns
unfolding result_of session_after
returns c = record {
  state = ap (λ e. record { state = c.args.given.state; ending = e }) c.after-ending.ensures;
  put = c.bytes.ensures;
  short = omega (arith, length-take c.args.given.length c.args.given.text, c.requires.0);
  none = refl;
  place = refl;
}
