-- `integers::rounded` meets its contract.
use borrow.Author.Rules.{rules}
use mathlib.Core.Path.{ap₂, ◌∙◌}
use Prim.Native.Nat.{◌*◌, ◌-◌, ◌%◌, ◌^◌, ◌≤◌}
use lib.Pow.{pow_mono}
use native.Mathlib.Omega.{arith}
use lib.IntN.{pos, ◌+ℤ◌}
use mir.Syntax.{w64}
use mir.Val.{SFits, of_z}
use Rattle.integers.specs.Floor.{above, floor_div}
use Rattle.integers.proofs.Order.{nat_abs-+ℤ}
use Rattle.integers.proofs.Rounding.{round_is}
use Rattle.integers.proofs.Held.{Held, held, held-ok, held-power, asks-add, h-add}
use Rattle.integers.proofs.Words.{small}
use Rattle.integers.proofs.rounded.Statement.{statement}
use Rattle.integers.proofs.rounded.Tie as tie

module _ (s : tie.Start) where
  value : Held w64 (of_z w64 s.args.v) s.args.v
  value = held w64 _ s.ranges.v

  half : Held w64 ((1 * 2 ^ (s.args.k - 1)) % 2 ^ 64) (pos (2 ^ (s.args.k - 1)))
  half = held-power (s.args.k - 1) (omega (arith, s.requires))

  -- v within 2^62 and half a unit within 2^61
  fits : SFits w64 (s.args.v +ℤ pos (2 ^ (s.args.k - 1)))
  fits =
      let l : 2 ^ (s.args.k - 1) ≤ 2 ^ 61 = pow_mono {i = s.args.k - 1} {j = 61} (omega (arith, s.requires)) in
      small w64 _ (omega (arith, nat_abs-+ℤ s.args.v (pos (2 ^ (s.args.k - 1))), s.requires.2))

add-floor-div : tie.Need-overflow_add-v
add-floor-div c = asks-add (value c) (half c) (fits c)

returns : tie.Need-returns
unfolding above
returns c =
    let s = c.before in
    (held-ok w64 _ c.floor_div.type_inv).is
    ∙ c.floor_div.ensures
    ∙ ap₂ (λ v p. floor_div v (above p)) (h-add (value s) (half s) (fits s)).is (held-power s.args.k (omega (arith, s.requires))).is
    ∙ round_is s.args.k s.args.v (omega (arith, s.requires))

pub rounded_spec : {M : Type 1} → statement M
rounded_spec =
    tie.close
    (tie.spec
    (λ c. search rules)
    (λ c. search rules)
    (λ c. search rules)
    add-floor-div
    (λ c. search rules)
    (λ c. search rules)
    (λ c κs. search rules)
    returns)
