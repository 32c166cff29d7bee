-- `reel_page::page::sum_line` meets its contract.
use borrow.Author.Rules.{rules}
use native.Mathlib.Omega.{arith}
use mathlib.Core.Path.{ap, ◌∙◌}
use Prim.Native.Nat.{ℕ, ◌+◌, ◌≤◌}
use lib.IntN.{nat_abs}
use lib.ListN.{length}
use mir.Syntax.{w64}
use mir.Val.{to_z, of_z}
use Rattle.integers.proofs.Held.{Held, held, asks-nat}
use Rattle.text_runs.specs.Decimal.{decimal}
use Rattle.decimal.proofs.PutLaws.{put_then, put_as}
use Rattle.reels.proofs.SumLaws.{sum-size, sum-from-zero}
use Rattle.reel_page.proofs.SumLines.{sum_digits, sum-line-is, sum-line-long}
use Rattle.reel_page.proofs.page.sum_line.Statement.{statement}
use Rattle.reel_page.proofs.page.sum_line.Tie as tie

-- ---- the places of the walk, from the last call on
abbrev second : tie.After-last_natural-arg-1 → tie.After-bytes-m
second c = c.before.before.before

abbrev first : tie.After-bytes-arg-2-1 → tie.After-natural-n
first c = c.before.before.before.before

abbrev start : tie.After-natural-arg-1 → tie.Start
start c = c.before.before

-- the sum as the code holds it
module _ (s : tie.Start) where
  kept : Held w64 (of_z w64 s.args.sum) s.args.sum
  kept = held w64 s.args.sum s.ranges.sum

  abbrev digits : ℕ
  digits = nat_abs (to_z w64 (of_z w64 s.args.sum))

  room : s.args.at + (length (decimal s.args.number) + (length (decimal digits) + 2)) ≤ length s.args.out.now
  room = omega (arith, s.requires.1, sum-line-long _ s.args.number s.args.sum s.requires.0, ap (λ z. length (decimal (nat_abs z))) kept.is)

natural-requires : tie.Need-natural-n-requires
natural-requires c κs = omega (arith, room (start c))

bytes-requires : tie.Need-bytes-m-requires
bytes-requires c κs = let f = first c.before in let s = start f.before in omega (arith, room s, f.natural-n.ensures.count, c.out-1.given)

cast-last-natural : tie.Need-overflow_cast-sum
cast-last-natural c =
    let s = start (first (second c).before.before).before in
    asks-nat w64 (kept s) (sum-from-zero _ s.args.sum s.requires.0) (omega (arith, sum-size _ s.args.sum s.requires.0))

last-natural-requires : tie.Need-last_natural-requires
last-natural-requires c κs =
    let b = second c in
    let f = first b.before.before in
    let s = start f.before in
    let at_out = b.before.before.before.before in
    omega (arith, room s, f.natural-n.ensures.count, b.bytes-m.ensures.count, c.out-2-1.given, at_out.out-1.given)

same_length : tie.Need-shape_of-out
same_length c = search rules

returns : tie.Need-returns
returns c =
    let l = c in
    let b = second l.before.before.before in
    let f = first b.before.before in
    let s = start f.before in
    put_as _ _ _ _ (ap (λ z. sum_digits s.args.number (nat_abs z)) (kept s).is ∙ sum-line-is _ s.args.number s.args.sum s.requires.0)
    (put_then f.natural-n.ensures (put_then b.bytes-m.ensures l.last_natural.ensures))

pub sum_line_spec : {M : Type 1} → statement M
sum_line_spec =
    tie.close
    (tie.spec
    natural-requires
    bytes-requires
    cast-last-natural
    last-natural-requires
    same_length
    returns)
