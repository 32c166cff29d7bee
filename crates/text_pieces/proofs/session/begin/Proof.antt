-- `text_pieces::session::begin` meets its contract.
use borrow.Author.Rules.{rules}
use mathlib.Core.Path.{ap}
use Rattle.feeding.specs.declared.session.Ending.TheVariants.{Open}
use Rattle.feeding.specs.Text.{session_begun}
use Rattle.text_pieces.proofs.session.begin.Statement.{statement}
use Rattle.text_pieces.proofs.session.begin.Tie as tie

begin-requires : tie.Need-begin-fresh-requires
begin-requires c κs = search rules

returns : tie.Need-returns
unfolding session_begun
returns c = ap (λ s. record { state = s; ending = Open }) c.begin-fresh.ensures

pub begin_spec : {M : Type 1} → statement M
begin_spec = tie.close (tie.spec begin-requires returns)
