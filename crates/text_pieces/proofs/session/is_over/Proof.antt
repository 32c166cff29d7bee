-- `text_pieces::session::is_over` meets its contract.
use borrow.Author.Rules.{rules}
use mathlib.Core.Path.{ap}
use mathlib.Core.Bool.{not}
use Rattle.text_pieces.proofs.session.is_over.Statement.{statement}
use Rattle.text_pieces.proofs.session.is_over.Tie as tie

goes-on-requires : tie.Need-goes_on-requires
goes-on-requires c κs = search rules

returns : tie.Need-returns
returns c = ap not c.goes_on.ensures

pub is_over_spec : {M : Type 1} → statement M
is_over_spec = tie.close (tie.spec goes-on-requires returns)
