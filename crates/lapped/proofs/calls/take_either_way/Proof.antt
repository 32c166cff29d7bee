-- `lapped::calls::take_either_way` meets its contract, either way.
use borrow.Author.Rules.{rules}
use native.Mathlib.Omega.{arith}
use mathlib.Core.Path.{◌≡◌, refl, sym, ap, ◌∙◌}
use mathlib.Core.Bool.{true}
use mathlib.Core.List.{List}
use Prim.Native.Nat.{◌≤◌}
use borrow.Rule.Slice.PartMut.{put_mid}
use lib.IntN.{ℤ, pos}
use lib.ListN.{length, take, drop, set}
use mir.Syntax.{w64}
use mir.Val.{to_z, of_z}
use Rattle.integers.proofs.Held.{held-ok}
use Rattle.runs.specs.Answers.{told}
use Rattle.runs.specs.declared.record.Run.{Run}
use Rattle.runs.specs.Record.{record_of, next_count, next_total}
use Rattle.runs.proofs.Refusals.{total_kept}
use Rattle.c_record.specs.Record.{run_length, is_record, unpacked}
use Rattle.c_record.specs.Ready.{readings_of}
use Rattle.c_record.proofs.RecordLaws.{has_room, held-long}
use Rattle.lapped.proofs.CallLaws.{no_call, count-stays, total-stays, few-taken, fits-taken, long-taken, called}
use Rattle.lapped.proofs.calls.take_either_way.Statement.{statement}
use Rattle.lapped.proofs.calls.take_either_way.Tie as tie

abbrev numbers : tie.Start → List ℤ
numbers s = s.args.run.now

module _ (e : tie.Else-not-is_record) where
  abbrev from : tie.Start
  from = e.before.before

  is-record : is_record (numbers from) ≡ true
  is-record = sym e.is_record.ensures ∙ e.if-not-is_record.false

  room : length (numbers from) ≡ run_length
  room = has_room (numbers from) is-record

  long : 67 ≤ length (numbers from)
  long = omega (arith, room)

-- what the call in place gives
module _ (t : tie.After-take_held-answer) where
  abbrev read : tie.After-front-head
  read = t.before.before.before

  abbrev passing : tie.Else-not-is_record
  passing = read.before

  abbrev source : tie.Start
  source = from passing

  abbrev lent : Run
  lent = let head = read.front-head.result in record_of head.width head.count (take 64 (drop 3 (numbers source))) head.finished head.total

  lent-run : lent ≡ unpacked (numbers source)
  lent-run = read.front-head.ensures.0

  abbrev given : List ℤ
  given = source.args.given.now

  -- the held values, the output and the readings as the call left them
  abbrev held : List ℤ
  held = t.take_held-answer.new.held

  abbrev now-out : List ℤ
  now-out = t.take_held-answer.new.out

  abbrev readings : List ℤ
  readings = readings_of source.args.back read.front-head.result.count given now-out

returns : tie.Need-returns-then-not-is_record
returns c =
    let i = c in
    let s = i.before.before.before.before in
    no_call (numbers s) s.args.given.now s.args.out.now (sym i.is_record.ensures ∙ c.if-not-is_record.true) s.args.back _ c.tell.ensures

front-requires : tie.Need-front-head-requires
front-requires c κs = is-record c

-- once the held values are back in their place
module _ (r : tie.After-run-1) where
  abbrev done : tie.After-take_held-answer
  done = r.before

  abbrev out : List ℤ
  out = (source done).args.out.now

  held-now : length (held done) ≡ 64
  held-now = r.run-1.given.0 ∙ held-long (numbers (source done)) (room (passing done))

total-after-requires : tie.Need-total_after-total-requires
total-after-requires c κs z =
    let r = c.before in
    let t = done r in
    let s = source t in
    let l = long-taken (numbers s) (is-record (passing t)) (lent t) (lent-run t) _ (held t) (readings t) (held-now r) s.args.back (given t) (out r) (now-out t) t.take_held-answer.ensures z in (
      l.0,
      omega (arith, l.1, c.out-1.given),
      fits-taken (numbers s) (is-record (passing t)) (lent t) (lent-run t) _ (held t) (readings t) (held-now r) s.args.back (given t) (out r) (now-out t) t.take_held-answer.ensures z,
    )

-- the total after it, by its bits
module _ (n : tie.After-total_after-total) where
  abbrev back-in-place : tie.After-run-1
  back-in-place = n.before.before

  abbrev taken-held : tie.After-take_held-answer
  taken-held = done back-in-place

  total-then : to_z w64 (of_z w64 n.total_after-total.result) ≡ next_total (told taken-held.take_held-answer.result).0 (read taken-held).front-head.result.total (readings taken-held)
  total-then = (held-ok w64 _ n.total_after-total.type_inv).is ∙ n.total_after-total.ensures

store-requires : tie.Need-store-requires
store-requires c κs =
    let n = c.before in
    let r = back-in-place n in
    let t = done r in
    let s = source t in
    let e = passing t in (
      few-taken (numbers s) (is-record e) (lent t) (lent-run t) _ (held t) (readings t) (held-now r) s.args.back (given t) (out r) (now-out t) t.take_held-answer.ensures,
      (
        (r.run-1.given.1 ∙ room e, count-stays (numbers s) (held t) (room e) ∙ (read t).front-head.ensures.1.0),
        λ no. total-stays (numbers s) (held t) (room e) (held-now r) ∙ (read t).front-head.ensures.1.1 ∙ total_kept _ _ (readings t) no ∙ sym (total-then n),
      ),
    )

returns-2 : tie.Need-returns
returns-2 c =
    let stored = c in
    let n = stored.before.before.before.before.before in
    let r = back-in-place n in
    let t = done r in
    let s = source t in
    called (numbers s) (is-record (passing t)) (lent t) (lent-run t) _ (held t) (readings t) (held-now r) s.args.back (given t) (out r) (now-out t) t.take_held-answer.ensures _ _ c.tell-2.ensures
    (stored.store.ensures ∙ ap (λ (x : ℤ). set (set (put_mid 3 64 (numbers s) (held t)) 1 (pos (next_count (told t.take_held-answer.result).0 (read t).front-head.result.count))) 67 x) (total-then n))

pub take_either_way_spec : {M : Type 1} → statement M
take_either_way_spec =
    tie.close
    (tie.spec
    (λ c κs. search rules)
    (λ c κs. search rules)
    (λ c. refl)
    returns
    front-requires
    (λ c. search rules)
    (λ c. search rules)
    (λ c. long c.before)
    (λ c κs. let earlier = c.before.before.before in held-long (numbers (from earlier)) (room earlier))
    total-after-requires
    store-requires
    (λ c κs. search rules)
    (λ c. let n = c.before.before.before.before.before in c.run-2-1.given ∙ (back-in-place n).run-1.given.1)
    (λ c. let n = c in n.out-1.given)
    returns-2)
