-- What a frame, and a finish, that a run back accepts tell.
use mathlib.Core.Path.{◌≡◌, refl, ap, ◌∙◌}
use mathlib.Core.Bool.{Bool, true, false}
use mathlib.Core.List.{List, [], ◌∷◌}
use Prim.Native.Nat.{ℕ, zero, suc, ◌<◌, zero-le}
use native.Mathlib.Omega.{arith}
use borrow.Author.Tests.{ltb-true, eqb-true}
use lib.Dec.{eqb, ltb}
use lib.IntN.{ℤ, pos, ◌+ℤ◌}
use lib.ListN.{length, length-drop, take-append-drop}
use lib.Seq.{length-take-le}
use Rattle.integers.specs.Vectors.{sum_of, AllAbs}
use Rattle.integers.proofs.Sums.{sum-none}
use Rattle.tables.specs.Widths.{half_width}
use Rattle.steps.specs.Limits.{reading_limit, folded_limit, coefficient_limit}
use Rattle.steps.specs.Steps.{lower, held, frame, unstages, unfolded}
use Rattle.steps.proofs.Lengths.{length-unstages, length-unfolded, width-half}
use Rattle.steps.proofs.Undo.{stages-unstages}
use Rattle.runs.specs.Answers.{beyond}
use Rattle.distance.specs.Statement.{IsWidth, Block}
use Rattle.runs.specs.declared.record.Run.{Run}
use Rattle.runs.specs.Record.{frame_limit, zeros, opened, closed}
use Rattle.runs.specs.Gate.{CallResult, ask, all_yes, inside, admitted}
use Rattle.runs.proofs.Searches.{all-inside}
use Rattle.runs.proofs.RecordLaws.{all_take, zeros-are, added-limit}
use Rattle.runs.proofs.CallLaws.{Decided, granted, asked, answered-yes, every-answer}
use Rattle.runs.specs.Back.{undone_in, taken_back, ended_back}
use Rattle.runs.proofs.BackLaws.{ReachedBack, summed-later, back-sound, back-first, back-next, taken-undone, low_half, high_half, first-undone, later-undone, ended-decided, nothing-anywhere}

-- a frame that is taken has N numbers, its output too, and fewer than the greatest count were taken before
pub record Admitted (N b : ℕ) (c out : List ℤ) : Type 0 where
  pub below : b < frame_limit
  pub long : length c ≡ N
  pub room : length out ≡ N

module _ (N b : ℕ) (t : ℤ) (low : List ℤ) (r : ReachedBack N b t low) (c out : List ℤ) where
  taken-asked : Decided (all_yes (ltb b frame_limit ∷ eqb (length c) N ∷ eqb (length out) N ∷ [])) (opened N b t low) out (undone_in (opened N b t low) c out) (taken_back (opened N b t low) c out)
  unfolding taken_back admitted ask opened all_yes
  taken-asked = rw (back-sound N b t low r) (asked 3 (ltb b frame_limit) (asked 5 (eqb (length c) N) (asked 6 (eqb (length out) N) (granted _ refl))))

  pub taken-admitted : (taken_back (opened N b t low) c out).0.0 ≡ 0 → Admitted N b c out
  taken-admitted e =
      let yes = answered-yes taken-asked e in
      record { below = ltb-true b frame_limit (every-answer _ yes 0); long = eqb-true (length c) N (every-answer _ yes 1); room = eqb-true (length out) N (every-answer _ yes 2) }

zeros-inside : (n : ℕ) (xs : List ℤ) → length xs ≡ n → inside (pos 0) xs ≡ true → xs ≡ zeros n
unfolding inside
zeros-inside n xs l e = zeros-are xs (all-inside 0 xs e) ∙ ap zeros l

-- ---- a frame of N numbers undone
low-within : (N : ℕ) (c : List ℤ) → inside (pos folded_limit) (unstages N c) ≡ true → AllAbs folded_limit (low_half N c)
unfolding inside
low-within N c e = all_take folded_limit (half_width N) (unstages N c) (all-inside folded_limit (unstages N c) e)

module _ (N : ℕ) (w : IsWidth N) (c : List ℤ) where
  pub low-long : length (low_half N c) ≡ half_width N
  low-long = length-take-le (half_width N) (unstages N c) (omega (arith, length-unstages N c, width-half N w))

  pub high-long : length (high_half N c) ≡ half_width N
  high-long = omega (arith, length-drop (half_width N) (unstages N c), length-unstages N c, width-half N w)

  -- it is the frame of the blocks whose halves it has
  pub halves-frame : (p x : List ℤ) → length c ≡ N → high_half N c ≡ held N p → low_half N c ≡ lower N x → frame N (held N p) x ≡ c
  unfolding frame
  halves-frame p x l e f = rw (← e, ← f, take-append-drop (half_width N) (unstages N c)) (stages-unstages N (width-half N w) c l)

-- ---- the first frame
pub record FirstAccepted (N : ℕ) (c out : List ℤ) : Type 0 where
  pub given : taken_back (opened N 0 (pos 0) (zeros (half_width N))) c out ≡ ((0, 0), opened N 1 (pos 0) (low_half N c), out)
  pub reached : ReachedBack N 1 (pos 0) (low_half N c)
  pub upper : high_half N c ≡ zeros (half_width N)

pub first-accepted : (N : ℕ) → IsWidth N → (c out : List ℤ) → length c ≡ N → length out ≡ N → (taken_back (opened N 0 (pos 0) (zeros (half_width N))) c out).0.0 ≡ 0 → FirstAccepted N c out
unfolding inside
first-accepted N w c out l m e =
    let same = taken-undone N 0 (pos 0) (zeros (half_width N)) (back-first N w) c out l m (omega arith) in
    let d = first-undone N (pos 0) (zeros (half_width N)) c out in
    let yes = answered-yes d (rw same at e) in
    record {
      given = same ∙ d.when-yes yes ∙ rw (sum-none (pos 0));
      reached = back-next N 0 (pos 0) (zeros (half_width N)) (back-first N w) (pos 0) (low_half N c) (omega arith) (low-long N w c) (low-within N c (every-answer _ yes 1)) zero-le;
      upper = zeros-inside (half_width N) (high_half N c) (high-long N w c) (nothing-anywhere (beyond (pos 0)) (high_half N c) 0 (half_width N) ∙ every-answer _ yes 2);
    }

-- ---- a later frame, and the finish
pub record LaterAccepted (N b : ℕ) (t : ℤ) (low c out : List ℤ) : Type 0 where
  pub given : taken_back (opened N (suc b) t low) c out ≡ ((0, 0), opened N (suc (suc b)) (t +ℤ sum_of (unfolded N low (high_half N c))) (low_half N c), unfolded N low (high_half N c))
  pub reached : ReachedBack N (suc (suc b)) (t +ℤ sum_of (unfolded N low (high_half N c))) (low_half N c)
  pub coefficients : AllAbs coefficient_limit c
  pub values : AllAbs folded_limit (unstages N c)
  pub readings : Block N reading_limit (unfolded N low (high_half N c))

module _ (N b : ℕ) (t : ℤ) (low : List ℤ) (r : ReachedBack N (suc b) t low) where
  pub later-accepted : (c out : List ℤ) → length c ≡ N → length out ≡ N → suc b < frame_limit → (taken_back (opened N (suc b) t low) c out).0.0 ≡ 0 → LaterAccepted N b t low c out
  unfolding inside
  later-accepted c out l m h e =
      let same = taken-undone N (suc b) t low r c out l m h in
      let d = later-undone N b t low c out r.long in
      let yes = answered-yes d (rw same at e) in
      let given : Block N reading_limit (unfolded N low (high_half N c)) = record { long = length-unfolded N low (high_half N c); within = all-inside reading_limit (unfolded N low (high_half N c)) (every-answer _ yes 2) } in
      record {
        given = same ∙ d.when-yes yes;
        reached = back-next N (suc b) t low r _ (low_half N c) h (low-long N r.wide c) (low-within N c (every-answer _ yes 1)) (added-limit b N t _ (summed-later r) given);
        coefficients = all-inside coefficient_limit c (every-answer _ yes 0);
        values = all-inside folded_limit (unstages N c) (every-answer _ yes 1);
        readings = given;
      }

  pub ended-accepted : (ended_back (opened N (suc b) t low)).0.0 ≡ 0 → low ≡ zeros (half_width N)
  ended-accepted e = zeros-inside (half_width N) low r.long (every-answer _ (answered-yes (ended-decided N b t low r) e) 0)

  pub ended-closed : (ended_back (opened N (suc b) t low)).0.0 ≡ 0 → ended_back (opened N (suc b) t low) ≡ ((0, 0), closed (opened N (suc b) t low), [])
  ended-closed e = let d = ended-decided N b t low r in d.when-yes (answered-yes d e)

-- ---- any frame: without a fault its lower half is held, and what it gives is added
pub record UndoneNext (N b : ℕ) (t : ℤ) (low c out : List ℤ) : Type 0 where
  pub total : ℤ
  pub record_is : (undone_in (opened N b t low) c out).1 ≡ opened N (suc b) total (low_half N c)
  pub reached : ReachedBack N (suc b) total (low_half N c)

pub undone-next : (N b : ℕ) (t : ℤ) (low : List ℤ) → ReachedBack N b t low → (c out : List ℤ) → b < frame_limit → (undone_in (opened N b t low) c out).0.0 ≡ 0 → UndoneNext N b t low c out
unfolding inside
undone-next N zero t low r c out h e =
    let d = first-undone N t low c out in
    let yes = answered-yes d e in
    record {
      total = t +ℤ sum_of [];
      record_is = ap (λ (g : CallResult). g.1) (d.when-yes yes);
      reached = back-next N 0 t low r (t +ℤ sum_of []) (low_half N c) h (low-long N r.wide c) (low-within N c (every-answer _ yes 1)) (rw (sum-none t) r.summed);
    }
undone-next N (suc b) t low r c out h e =
    let d = later-undone N b t low c out r.long in
    let yes = answered-yes d e in
    let given : Block N reading_limit (unfolded N low (high_half N c)) = record { long = length-unfolded N low (high_half N c); within = all-inside reading_limit (unfolded N low (high_half N c)) (every-answer _ yes 2) } in
    record {
      total = t +ℤ sum_of (unfolded N low (high_half N c));
      record_is = ap (λ (g : CallResult). g.1) (d.when-yes yes);
      reached = back-next N (suc b) t low r _ (low_half N c) h (low-long N r.wide c) (low-within N c (every-answer _ yes 1)) (added-limit b N t _ (summed-later r) given);
    }
