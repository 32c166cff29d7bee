-- What the calls give: a call that works had the numbers of a record and leaves a record whose numbers fit, and what is handed back then.
use Rattle.std.specs.Prelude.{Err, Option, Some, None}
use mathlib.Core.Path.{◌≡◌, refl, sym, ap, ap₂, subst, ◌∙◌}
use mathlib.Core.Bool.{Bool, true, false, cond}
use mathlib.Core.List.{List, [], ◌∷◌, ◌++◌}
use Prim.Native.Nat.{ℕ, zero, suc, ◌+◌, ◌^◌, ◌≤◌, ◌<◌}
use native.Mathlib.Nat.{zero-add}
use native.Mathlib.Omega.{arith}
use borrow.Author.Tests.{ltb-true, leb-true, eqb-true, eqb-false, eq-eqb, ne_eqb}
use borrow.Rule.Slice.PartMut.{put_mid}
use lib.Dec.{eqb}
use lib.IntN.{ℤ, pos, nat_abs, ◌+ℤ◌}
use lib.ListN.{length, take, drop, set}
use lib.Seq.{length-take-le, get_or-drop}
use Rattle.integers.specs.Places.{at}
use Rattle.integers.specs.Vectors.{sum_of}
use Rattle.tables.specs.Widths.{by_width, half_width}
use Rattle.runs.specs.Answers.{told}
use Rattle.runs.specs.declared.answer.Refusal.TheVariants.{Record}
use Rattle.runs.specs.declared.record.Run.{Run}
use Rattle.runs.specs.Record.{block_limit, frame_limit, zeros, record_of, next_count, next_total, opened, closed}
use Rattle.runs.specs.Gate as Gate
use Rattle.runs.specs.Gate.{ask, ask_each, admitted, sound}
use Rattle.runs.specs.Forward.{started, taken, ended}
use Rattle.runs.specs.Back.{taken_back, ended_back}
use Rattle.runs.specs.Totals.{total_limit}
use Rattle.runs.proofs.AskLaws.{record-refused}
use Rattle.runs.proofs.CallLaws.{every-answer}
use Rattle.runs.proofs.RecordLaws.{width-le}
use Rattle.runs.proofs.Refusals.{Same, total-raised, admitted-passed, admitted-few, same_taken, same-taken-back}
use Rattle.runs.proofs.TotalsFit.{forward-fits, back_fits}
use Rattle.runs.proofs.AnswerLaws.{sound-wide}
use Rattle.c_record.specs.Record.{run_length, is_record, packed, unpacked}
use Rattle.c_record.specs.Ready.{Packable}
use Rattle.c_record.specs.Calls.{PackedResult, numbers_after, handed_to_c, lapped_start, lapped_take, lapped_back_take}
use Rattle.c_record.proofs.RecordLaws.{has_room, last-long, total-stored, no_record, packed-unpacked}
use Rattle.c_record.proofs.AnswerLaws.{kept-refused, kept-worked}

-- ---- a sound record is one of 68 numbers, and its own fit
module _ (numbers : List ℤ) (top : ℕ) (s : sound top (unpacked numbers) ≡ true) where
  wide : 0 < half_width (unpacked numbers).width
  unfolding sound
  wide = ltb-true 0 _ (every-answer _ s 0)

  few : (unpacked numbers).count ≤ top
  unfolding sound
  few = leb-true _ top (every-answer _ s 1)

  sound-record : (b : Bool) → is_record numbers ≡ b → b ≡ true
  unfolding half_width by_width
  sound-record true e = refl
  sound-record false e = absurd (let h : 0 < half_width 0 = subst (λ r. 0 < half_width r.width) (sym (no_record numbers (zeros 64) refl e)) wide in omega (arith, h))

  fits : top ≤ frame_limit → (run : Run) → run.width ≡ (unpacked numbers).width → run.count ≤ (unpacked numbers).count → Packable run numbers
  fits t run w c =
      record { narrow = omega (arith, width-le (unpacked numbers).width wide); few = omega (arith, few); room = has_room numbers (sound-record _ refl) }

-- ---- one question after the other
record Works (numbers : List ℤ) (given : Gate.CallResult) : Type 0 where
  packable : given.0.0 ≡ 0 → Packable given.1 numbers

module _ {numbers : List ℤ} (n : ℕ) where
  asked : (answer : Bool) (run : Run) (out : List ℤ) (next : Gate.CallResult) → (answer ≡ true → Works numbers next) → Works numbers (ask (suc n) answer run out next)
  unfolding ask
  asked true run out next h = h refl
  asked false run out next h = record { packable = λ e. absurd (omega (arith, e)) }

  asked-each : (found : Option ℕ) (run : Run) (out : List ℤ) (next : Gate.CallResult) → Works numbers next → Works numbers (ask_each (suc n) found run out next)
  unfolding ask_each
  asked-each (Some place) run out next h = record { packable = λ e. absurd (omega (arith, e)) }
  asked-each None run out next h = h

module _ (numbers : List ℤ) where
  abbrev run : Run
  run = unpacked numbers

  module _ (top : ℕ) (t : top ≤ frame_limit) (s : sound top run ≡ true) where
    closes : (out : List ℤ) → Works numbers ((0, 0), closed run, out)
    unfolding closed
    closes out = record { packable = λ _. fits numbers top s t (closed run) refl (omega arith) }

  -- ---- the two finishes
  finish-works : (out : List ℤ) → Works numbers (ended run out)
  unfolding ended
  finish-works out = asked _ _ _ _ _ (λ s. asked _ _ _ _ _ (λ _. asked _ _ _ _ _ (λ _. closes block_limit (omega arith) s _)))

  back-finish-works : Works numbers (ended_back run)
  unfolding ended_back
  back-finish-works = asked _ _ _ _ _ (λ s. asked _ _ _ _ _ (λ _. asked _ _ _ _ _ (λ _. asked-each _ _ _ _ _ (closes frame_limit (omega arith) s _))))

-- ---- what is handed back of a call on the record that the numbers are
module _ (numbers : List ℤ) (call : Run → Gate.CallResult) (run after : Run) (answer : ℕ × ℕ) (out : List ℤ) (is : run ≡ unpacked numbers) (e : (answer, after, out) ≡ call run) where
  given_is : (answer, after, out) ≡ call (unpacked numbers)
  given_is = e ∙ ap call is

  packs : Works numbers (call (unpacked numbers)) → answer.0 ≡ 0 → Packable after numbers
  packs w = subst (λ (g : Gate.CallResult). g.0.0 ≡ 0 → Packable g.1 numbers) (sym given_is) w.packable

  pub handed-is : (a : ℕ × ℕ) (stays : List ℤ) → a ≡ answer → stays ≡ numbers_after answer.0 after numbers → (a, stays, out) ≡ handed_to_c numbers (call (unpacked numbers))
  unfolding handed_to_c
  handed-is a stays p q = ap₂ (λ (x : ℕ × ℕ) (y : List ℤ). (x, y, out)) p q ∙ ap (handed_to_c numbers) given_is

module _ (numbers : List ℤ) (run after : Run) (answer : ℕ × ℕ) (is : run ≡ unpacked numbers) where
  pub finish-packs : (out now : List ℤ) → (answer, after, now) ≡ ended run out → answer.0 ≡ 0 → Packable after numbers
  finish-packs out now e = packs numbers (λ (r : Run). ended r out) run after answer now is e (finish-works numbers out)

  pub back-finish-packs : (answer, after, []) ≡ ended_back run → answer.0 ≡ 0 → Packable after numbers
  back-finish-packs e = packs numbers ended_back run after answer [] is e (back-finish-works numbers)

-- ---- a block forward or a frame back
abbrev either : Bool → Run → List ℤ → List ℤ → Gate.CallResult
either back = cond back taken_back taken

same-either : (back : Bool) (run : Run) (given out : List ℤ) → Same run (either back run given out)
same-either true = same-taken-back
same-either false = same_taken

few-either : (back : Bool) (run : Run) (given out : List ℤ) → (either back run given out).0.0 ≡ 0 → run.count < frame_limit
unfolding taken taken_back
few-either true run given out e = admitted-few frame_limit run given out _ e
few-either false run given out e = let n = admitted-few block_limit run given out _ e in omega arith

fits-either : (back : Bool) (run : Run) (given out : List ℤ) → (either back run given out).0.0 ≡ 0 → nat_abs (either back run given out).1.total ≤ total_limit
fits-either true run given out e = back_fits run given out e
fits-either false run given out e = forward-fits run given out e

long-either : (back : Bool) (run : Run) (given out : List ℤ) → (either back run given out).0.0 ≡ 0 → (length given ≤ 128) × (length out ≤ 128)
unfolding taken taken_back
long-either true run given out e = let p = admitted-passed frame_limit run given out _ e in let w = width-le run.width (sound-wide frame_limit run p.sound-is) in (omega (arith, p.long), omega (arith, p.room))
long-either false run given out e = let p = admitted-passed block_limit run given out _ e in let w = width-le run.width (sound-wide block_limit run p.sound-is) in (omega (arith, p.long), omega (arith, p.room))

handed-either : (back : Bool) (numbers given out : List ℤ) → handed_to_c numbers (either back (unpacked numbers) given out) ≡ cond back lapped_back_take lapped_take numbers given out
unfolding lapped_take lapped_back_take
handed-either true numbers given out = refl
handed-either false numbers given out = refl

-- numbers that are no record
module _ (numbers given out : List ℤ) (n : is_record numbers ≡ false) where
  refused : (top : ℕ) (next : Gate.CallResult) → (told (Err Record), unpacked numbers, out) ≡ admitted top (unpacked numbers) given out next
  unfolding admitted
  refused top next = record-refused top (unpacked numbers) out _ (by (sound top (unpacked numbers)) refl)
    where
      by : (b : Bool) → sound top (unpacked numbers) ≡ b → b ≡ false
      by true s = sym (sound-record numbers top s false n)
      by false s = refl

  refused-either : (back : Bool) → (told (Err Record), unpacked numbers, out) ≡ either back (unpacked numbers) given out
  unfolding taken taken_back
  refused-either true = refused frame_limit _
  refused-either false = refused block_limit _

  pub no_call : (back : Bool) (a : ℕ × ℕ) → a ≡ told (Err Record) → (a, numbers, out) ≡ cond back lapped_back_take lapped_take numbers given out
  unfolding told
  no_call back a p =
      let run = unpacked numbers in
      handed-is numbers (λ (r : Run). either back r given out) run run (told (Err Record)) out refl (refused-either back) a numbers p (kept-refused numbers 2 run (λ z. omega arith))
      ∙ handed-either back numbers given out

-- what is stored in the held values leaves the count and the total
second : (numbers rest : List ℤ) → length numbers ≡ run_length → at (take 3 numbers ++ rest) 1 ≡ at numbers 1
second [] rest l = absurd (omega arith)
second (a ∷ []) rest l = absurd (omega arith)
second (a ∷ b ∷ numbers) rest l = refl

pub count-stays : (numbers held : List ℤ) → length numbers ≡ run_length → at (put_mid 3 64 numbers held) 1 ≡ at numbers 1
count-stays numbers held l = second numbers (held ++ drop 64 (drop 3 numbers)) l

at-behind : (xs ys : List ℤ) (n k : ℕ) → n ≡ length xs + k → at (xs ++ ys) n ≡ at ys k
at-behind [] ys n k e = ap (at ys) (e ∙ zero-add k)
at-behind (x ∷ xs) ys zero k e = absurd (omega arith)
at-behind (x ∷ xs) ys (suc n) k e = at-behind xs ys n k (omega arith)

pub total-stays : (numbers held : List ℤ) → length numbers ≡ run_length → length held ≡ 64 → at (put_mid 3 64 numbers held) 67 ≡ at numbers 67
total-stays numbers held l m =
    let last = drop 64 (drop 3 numbers) in
    let three : length (take 3 numbers) ≡ 3 = length-take-le 3 numbers (omega arith) in
    at-behind (take 3 numbers) (held ++ last) 67 64 (omega (arith, three))
    ∙ at-behind held last 64 0 (omega (arith, m))
    ∙ get_or-drop 64 (drop 3 numbers) 0 (pos 0)
    ∙ get_or-drop 3 numbers 64 (pos 0)

-- the call in place: the held values, then the count and the total
module _ (numbers : List ℤ) (r : is_record numbers ≡ true) (run : Run) (is : run ≡ unpacked numbers) (answer : ℕ × ℕ) (held readings : List ℤ) (long : length held ≡ 64) where
  abbrev after : Run
  after = record_of run.width (next_count answer.0 run.count) held run.finished (next_total answer.0 run.total readings)

  abbrev left : List ℤ
  left = set (set (put_mid 3 64 numbers held) 1 (pos after.count)) 67 after.total

  packed-run : packed run ≡ numbers
  packed-run = ap packed is ∙ packed-unpacked numbers r

  stored : left ≡ packed after
  unfolding packed
  stored =
      ap (λ (l : List ℤ). set (set (take 3 l ++ (held ++ drop 64 (drop 3 numbers))) 1 (pos after.count)) 67 after.total) (sym packed-run)
      ∙ total-stored _ _ _ held (drop 64 (drop 3 numbers)) after.total long (last-long numbers (has_room numbers r))

  module _ (back : Bool) (given out now : List ℤ) (e : (answer, after, now) ≡ either back run given out) where
    pub few-taken : answer.0 ≡ 0 → run.count < frame_limit
    few-taken z = few-either back run given out (ap (λ (g : Gate.CallResult). g.0.0) (sym e) ∙ z)

    pub fits-taken : answer.0 ≡ 0 → nat_abs (run.total +ℤ sum_of readings) ≤ total_limit
    fits-taken z =
        rw (total-raised answer.0 run.total readings z)
        (subst (λ (g : Gate.CallResult). nat_abs g.1.total ≤ total_limit) (sym e) (fits-either back run given out (ap (λ (g : Gate.CallResult). g.0.0) (sym e) ∙ z)))

    pub long-taken : answer.0 ≡ 0 → (length given ≤ 128) × (length out ≤ 128)
    long-taken z = long-either back run given out (ap (λ (g : Gate.CallResult). g.0.0) (sym e) ∙ z)

    kept-is : left ≡ numbers_after answer.0 after numbers
    kept-is = by (eqb answer.0 0) refl
      where
        by : (b : Bool) → eqb answer.0 0 ≡ b → left ≡ numbers_after answer.0 after numbers
        by true z = stored ∙ kept-worked numbers _ _ (eqb-true _ 0 z)
        by false z =
            let n = eqb-false answer.0 0 z in
            let same = (same-either back run given out).same (λ d. n (ap (λ (g : Gate.CallResult). g.0.0) e ∙ d)) in
            stored ∙ ap packed (ap (λ (g : Gate.CallResult). g.1) e ∙ same) ∙ packed-run ∙ kept-refused numbers _ _ n

    pub called : (a : ℕ × ℕ) (stays : List ℤ) → a ≡ answer → stays ≡ left → (a, stays, now) ≡ cond back lapped_back_take lapped_take numbers given out
    called a stays p q = handed-is numbers (λ (r : Run). either back r given out) run after answer now is e a stays p (q ∙ kept-is) ∙ handed-either back numbers given out

-- ---- a fresh start
module _ (N : ℕ) (numbers : List ℤ) where
  pub start_fits : length numbers ≡ run_length → Packable (started N).1 numbers
  unfolding started opened
  start_fits l = by (eqb (half_width N) 0) refl
    where
      by : (b : Bool) → eqb (half_width N) 0 ≡ b → Packable (cond {A = (ℕ × ℕ) × Run} b ((1, 0), opened 0 0 (pos 0) []) ((0, 0), opened N 0 (pos 0) [])).1 numbers
      by true e = record { narrow = omega arith; few = omega arith; room = l }
      by false e = let h : 0 < half_width N = omega (arith, eqb-false (half_width N) 0 e) in record { narrow = omega (arith, width-le N h); few = omega arith; room = l }

  module _ (a answer : ℕ × ℕ) (run : Run) (e : (answer, run) ≡ started N) where
    pub start-packed : (after : List ℤ) → length numbers ≡ run_length → a ≡ answer → after ≡ packed run → (a, after) ≡ lapped_start N numbers
    unfolding lapped_start
    start-packed after l p q = rw (eq-eqb _ _ l) (ap₂ (λ (x : ℕ × ℕ) (y : List ℤ). (x, y)) p q ∙ ap (λ (g : (ℕ × ℕ) × Run). (g.0, packed g.1)) e)

    module _ (l : length numbers ≡ run_length → ⊥) where
      pub start-no-room : answer.0 ≡ 0 → a ≡ (2, 0) → (a, numbers) ≡ lapped_start N numbers
      unfolding lapped_start
      start-no-room z p = rw (ne_eqb _ _ l, ← e, eq-eqb _ _ z, p)

      pub start-refused : (answer.0 ≡ 0 → ⊥) → a ≡ answer → (a, numbers) ≡ lapped_start N numbers
      unfolding lapped_start
      start-refused z p = rw (ne_eqb _ _ l, ← e, ne_eqb _ _ z, p)
