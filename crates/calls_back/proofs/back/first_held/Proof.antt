-- `calls_back::back::first_held` meets its contract.
use borrow.Author.Rules.{rules}
use native.Mathlib.Omega.{arith}
use mathlib.Core.Path.{◌≡◌, ap, ◌∙◌}
use Prim.Native.Nat.{ℕ, ◌≤◌}
use lib.IntN.{pos}
use lib.ListN.{length, take}
use Rattle.tables.proofs.ByWidth.{half-width-le}
use Rattle.runs.specs.Answers.{first_beyond}
use Rattle.slices.proofs.Parts.{part-long}
use Rattle.runs.specs.Back.{first_held}
use Rattle.calls_back.proofs.back.first_held.Statement.{statement}
use Rattle.calls_back.proofs.back.first_held.Tie as tie

module _ (s : tie.Start) where
  held-long : length s.args.run.held ≡ 64
  held-long = search rules

  half_le : s.args.half ≤ length s.args.run.held
  half_le = omega (arith, held-long, s.requires.half_is, half-width-le s.args.run.width)

array-share-prefix-held : tie.Need-slice_bounds-held-end
array-share-prefix-held c = half_le c.before

slice-aggregate-first-beyond : tie.Need-slice_bounds-first_beyond-end
slice-aggregate-first-beyond c = let s = c.before.before in part-long _ s.args.run.held (half_le s)

returns : tie.Need-returns
unfolding first_held
returns c = let s = c in c.first_beyond.ensures ∙ ap (λ (n : ℕ). first_beyond (pos 0) (take n s.args.run.held) 0) s.requires.half_is

pub first_held_spec : {M : Type 1} → statement M
first_held_spec =
    tie.close
    (tie.spec array-share-prefix-held slice-aggregate-first-beyond (λ c κs. search rules) returns)
