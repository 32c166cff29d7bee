-- `reel_page::page::page` meets its contract.
use borrow.Author.Rules.{rules}
use native.Mathlib.Omega.{arith}
use mathlib.Core.Path.{sym}
use mathlib.Core.List.{[], ◌∷◌, ◌++◌, append_assoc}
use Prim.Native.Nat.{◌+◌, ◌≤◌}
use lib.ListN.{length, length-append}
use Rattle.text_runs.specs.Decimal.{decimal}
use Rattle.text_runs.specs.Lines.{line_feed}
use Rattle.decimal.proofs.PutLaws.{put_then, put_as}
use Rattle.reels.specs.Page.{frames_tag, sum_lines, page}
use Rattle.reel_page.proofs.page.page.Statement.{statement}
use Rattle.reel_page.proofs.page.page.Tie as tie

-- ---- the places of the walk, from the last call on
abbrev second : tie.After-last_natural-arg-1 → tie.After-bytes-m
second c = c.before.before.before

abbrev first : tie.After-bytes-arg-2-1 → tie.After-sum_lines-n
first c = c.before.before.before.before

abbrev start : tie.After-sum_lines-arg-1 → tie.Start
start c = c.before.before

room : (s : tie.Start) → s.args.at + (length (sum_lines 0 s.args.sums.now) + (length (decimal s.args.frames) + 8)) ≤ length s.args.out.now
unfolding page frames_tag
room s =
    let lines = sum_lines 0 s.args.sums.now in
    omega (arith, s.requires.1, length-append (lines ++ frames_tag ++ decimal s.args.frames) (line_feed ∷ []), length-append (lines ++ frames_tag) (decimal s.args.frames), length-append lines frames_tag)

sum-lines-requires : tie.Need-sum_lines-n-requires
sum-lines-requires c κs = let s = start c in (s.requires.0, omega (arith, room s))

bytes-requires : tie.Need-bytes-m-requires
bytes-requires c κs = let f = first c.before in let s = start f.before in omega (arith, room s, f.sum_lines-n.ensures.count, c.out-1.given)

last-natural-requires : tie.Need-last_natural-requires
last-natural-requires c κs =
    let b = second c in
    let f = first b.before.before in
    let s = start f.before in
    let at_out = b.before.before.before.before in
    omega (arith, room s, f.sum_lines-n.ensures.count, b.bytes-m.ensures.count, c.out-2-1.given, at_out.out-1.given)

same_length : tie.Need-shape_of-out
same_length c = search rules

returns : tie.Need-returns
unfolding page frames_tag
returns c =
    let l = c in
    let b = second l.before.before.before in
    let f = first b.before.before in
    let s = (start f.before).args in
    put_as _ _ _ _ (sym (append_assoc (sum_lines 0 s.sums.now ++ frames_tag) (decimal s.frames) (line_feed ∷ [])))
    (put_then (put_then f.sum_lines-n.ensures b.bytes-m.ensures) l.last_natural.ensures)

pub page_spec : {M : Type 1} → statement M
page_spec =
    tie.close
    (tie.spec
    sum-lines-requires
    bytes-requires
    last-natural-requires
    same_length
    returns)
