-- An input in pieces, however it is cut.
use mathlib.Core.Path.{◌≡◌, refl, sym, ap, ◌∙◌}
use mathlib.Core.List.{List, [], ◌∷◌, ◌++◌}
use Prim.Native.Nat.{ℕ}
use native.Mathlib.Omega.{arith}
use Rattle.feeding.specs.Program.{Program}
use Rattle.feeding.specs.Feed.{Reader, reader_begun, fed, fed_pieces, reader_ended}
use Rattle.feeding.specs.Lines.{printed_of}
use Rattle.feeding.specs.Theorems.{joined, AnyCut, SameForEveryCut, NothingTakenBack}
use Rattle.feeding.proofs.FeedLaws.{fed-twice, fed-fits}
use Rattle.feeding.proofs.LineLaws.{in_front_all, fed-as-lines}

pub pieces-joined : (P : Program) (r : Reader P) (pieces : List (List ℕ)) → fed_pieces P r pieces ≡ fed P r (joined pieces)
unfolding fed_pieces joined fed
pieces-joined P r [] = refl
pieces-joined P r (piece ∷ pieces) = pieces-joined P (fed P r piece) pieces ∙ sym (fed-twice P r piece (joined pieces))

pub all-printed : (P : Program) (s : P.State) (input : List ℕ) → (reader_ended P (fed P (reader_begun P s) input)).1 ≡ printed_of P s input
unfolding reader_begun printed_of in_front_all
all-printed P s input = fed-as-lines P (reader_begun P s) input (omega arith)

pub any-cut : AnyCut
any-cut P s pieces = ap (λ (x : Reader P). (reader_ended P x).1) (pieces-joined P (reader_begun P s) pieces) ∙ all-printed P s (joined pieces)

pub same-for-every-cut : SameForEveryCut
same-for-every-cut P s pieces pieces' e =
    ap (reader_ended P) (pieces-joined P (reader_begun P s) pieces ∙ ap (fed P (reader_begun P s)) e ∙ sym (pieces-joined P (reader_begun P s) pieces'))

pub nothing-taken-back : NothingTakenBack
unfolding reader_begun
nothing-taken-back P s p q = (
  _,
  sym (all-printed P s (p ++ q))
      ∙ ap (λ (x : Reader P). (reader_ended P x).1) (fed-twice P (reader_begun P s) p q)
      ∙ fed-as-lines P (fed P (reader_begun P s) p) q (fed-fits P (reader_begun P s) p (omega arith)),
)
