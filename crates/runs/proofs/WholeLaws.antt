-- The whole run forward: one without a refusal took blocks in range and gives the frames of its blocks and its finish, each near the exact one; and what the gate says.
use Rattle.std.specs.Prelude.{Err}
use mathlib.Core.Path.{◌≡◌, refl, ap, subst, ◌∙◌}
use mathlib.Core.Bool.{Bool, true, false, cond}
use mathlib.Core.List.{List, [], ◌∷◌, ◌++◌}
use Prim.Native.Nat.{ℕ, zero, suc, ◌+◌, ◌*◌, ◌/◌, ◌%◌, ◌≤◌, ◌<◌}
use native.Mathlib.Nat.{div-add-mod'}
use native.Mathlib.Omega.{arith}
use borrow.Author.Tests.{le-leb, eq-eqb, ne_eqb, eqb-false}
use lib.Dec.{eqb}
use lib.IntN.{ℤ, pos}
use lib.ListN.{length, get_or, take, drop, get_or-append}
use lib.Seq.{get_or-append-add}
use Rattle.integers.specs.Places.{tab, at}
use Rattle.integers.specs.Vectors.{Rows}
use Rattle.integers.proofs.PlaceLaws.{length-tab}
use Rattle.tables.specs.Widths.{half_width}
use Rattle.runs.specs.Answers.{told, placed}
use Rattle.runs.specs.declared.answer.Refusal.TheVariants.{OutputLength}
use Rattle.distance.specs.Statement.{IsWidth, promised}
use Rattle.distance_theorems.proofs.Theorems.{promised-distance}
use Rattle.runs.specs.declared.record.Run.{Run}
use Rattle.runs.specs.Record.{block_limit}
use Rattle.runs.specs.Forward.{started}
use Rattle.runs.specs.Calls.{Call, Made, made, give, works, workings, frames_given, kept, working, blocks_of, frame_at}
use Rattle.runs.specs.Whole.{calls_of, first_refusal, outputs, forward_one_by_one, whole_forward, parts_of, blocks_in, joined, WholeRun}
use Rattle.runs.specs.Lists.{made_from, blocks_taken}
use Rattle.runs.proofs.RecordLaws.{length-frame}
use Rattle.runs.proofs.EveryList.{fresh-told, list-near, AllBlocks, blocks-kept}

-- ---- without a refusal every call works
abbrev pub AllWork : List Made → Type 0
AllWork [] = Unit {0}
AllWork (m ∷ ms) = (works m ≡ true) × AllWork ms

all-work : (N before : ℕ) (ms : List Made) → first_refusal N before ms ≡ (0, 0) → AllWork ms
unfolding first_refusal placed works
all-work N before [] e = tt
all-work N before (m ∷ ms) e = by (all-work N (before + N) ms) (works m) refl e
  where
    by : (first_refusal N (before + N) ms ≡ (0, 0) → AllWork ms) → (w : Bool) → works m ≡ w
        → cond w (first_refusal N (before + N) ms) (placed N before m.given.0) ≡ (0, 0) → (works m ≡ true) × AllWork ms
    by rest true d e = (d, rest e)
    by rest false d e = absurd (eqb-false m.given.0.0 0 d (ap (λ p. p.0) e))

outputs-joined : (ms : List Made) → AllWork ms → outputs ms ≡ joined (frames_given ms)
unfolding outputs joined frames_given
outputs-joined [] h = refl
outputs-joined (m ∷ ms) h = rw h.0 (ap (λ l. m.given.2 ++ l) (outputs-joined ms h.1))

all-kept : (run : Run) (calls : List Call) → AllWork (made run calls) → kept (workings (made run calls)) calls ≡ calls
unfolding made workings kept
all-kept run [] h = refl
all-kept run (c ∷ calls) h = rw h.0 (ap (λ l. c ∷ l) (all-kept (give run c).1 calls h.1))

-- ---- the calls of a whole run: one for each block, and the finish
blocks-of : (N b : ℕ) (readings out : List ℤ) → blocks_of (calls_of N b readings out) ≡ parts_of N b readings
unfolding calls_of parts_of blocks_of
blocks-of N zero readings out = refl
blocks-of N (suc b) readings out = ap (λ l. take N readings ∷ l) (blocks-of N b (drop N readings) (drop N out))

length-calls : (N b : ℕ) (readings out : List ℤ) → length (calls_of N b readings out) ≡ suc b
unfolding calls_of
length-calls N zero readings out = refl
length-calls N (suc b) readings out = ap suc (length-calls N b (drop N readings) (drop N out))

-- ---- frames one behind the other
at_joined : (N : ℕ) (fs : List (List ℤ)) → Rows N fs → (i k : ℕ) → i < length fs → k < N → at (joined fs) (i * N + k) ≡ at (get_or fs i []) k
unfolding joined
at_joined N [] r i k h l = absurd (omega arith)
at_joined N (f ∷ fs) r zero k h l =
    let e : 0 * N + k ≡ k = omega arith in
    rw e (get_or-append f (joined fs) (pos 0) k (omega arith))
at_joined N (f ∷ fs) r (suc i) k h l =
    let e : suc i * N + k ≡ length f + (i * N + k) = omega arith in
    rw (e, get_or-append-add f (joined fs) (i * N + k) (pos 0)) (at_joined N fs r.1 i k (omega arith) l)

rows-tab : (N : ℕ) (f : ℕ → List ℤ) → ((i : ℕ) → length (f i) ≡ N) → (n i : ℕ) → Rows N (tab f n i)
unfolding tab
rows-tab N f h zero i = tt
rows-tab N f h (suc n) i = (h i, rows-tab N f h n (suc i))

pub frames-long : (N : ℕ) → IsWidth N → (blocks : List (List ℤ)) (n : ℕ) → Rows N (tab (frame_at N blocks) n 0)
unfolding frame_at
frames-long N w blocks n = rows-tab N (frame_at N blocks) (λ i. length-frame N _ _ w) n 0

-- ---- a whole run without a refusal
module _ (N : ℕ) (w : IsWidth N) (readings out : List ℤ) where
  abbrev calls : List Call
  calls = calls_of N (length readings / N) readings out

  module _ (c : first_refusal N 0 (made (started N).1 calls) ≡ (0, 0)) where
    every_call : AllWork (made (started N).1 calls)
    every_call = all-work N 0 _ c

    all-working : working N calls ≡ calls
    unfolding working made_from
    all-working = rw (← (fresh-told N w calls).told) (all-kept _ calls every_call)

    taken-parts : blocks_taken N calls ≡ blocks_in N readings
    unfolding blocks_taken blocks_in
    taken-parts = rw all-working (blocks-of N (length readings / N) readings out)

    -- what it took were blocks of readings in range
    pub blocks-taken : AllBlocks N (blocks_in N readings)
    unfolding blocks_taken working
    blocks-taken = subst (AllBlocks N) taken-parts (blocks-kept N calls 0 false)

    calls-working : length (working N calls) ≡ suc (length readings / N)
    calls-working = rw all-working (length-calls N (length readings / N) readings out)

    frames-given : frames_given (made_from N calls) ≡ tab (frame_at N (blocks_in N readings)) (suc (length readings / N)) 0
    frames-given = (fresh-told N w calls).frames-are ∙ rw (taken-parts, calls-working)

    pub whole_run : WholeRun N readings (outputs (made (started N).1 calls))
    unfolding made_from
    whole_run =
        let fs = frames_given (made_from N calls) in
        let long : length fs ≡ suc (length readings / N) = rw frames-given (length-tab _ _ 0) in
        let rows : Rows N fs = rw frames-given (frames-long N w _ _) in
        let is : outputs (made_from N calls) ≡ joined fs = outputs-joined _ every_call in
        record {
          frames-are = is ∙ ap joined frames-given;
          near = λ i k h l. rw (is, at_joined N fs rows i k (omega arith) l) (rw taken-parts at (list-near N w calls (promised N) (promised-distance N w) i k (omega (arith, calls-working)) l));
        }

-- ---- what the gate says of a whole run
-- a refusal is no (0, 0)
pub numbered : (n place : ℕ) → ◌≡◌ {A = ℕ × ℕ} (suc n, place) (0, 0) → ⊥
numbered n place e = let z : suc n ≡ 0 = ap (λ (p : ℕ × ℕ). p.0) e in omega arith

pub whole-blocks : (N : ℕ) (readings : List ℤ) → length readings % N ≡ 0 → length readings ≡ length readings / N * N
whole-blocks N readings e = omega (arith, div-add-mod' (length readings) N)

-- numbers that are whole blocks, and some, are at least one block
pub some-blocks : (N : ℕ) (xs : List ℤ) → length xs ≡ length xs / N * N → 0 < length xs → 0 < length xs / N
some-blocks N xs = by (length xs / N)
  where
    by : (q : ℕ) → length xs ≡ q * N → 0 < length xs → 0 < q
    by zero d h = absurd (omega arith)
    by (suc q) d h = omega arith

abbrev pub calls_made : ℕ → List ℤ → List ℤ → List Made
calls_made N readings out = made (started N).1 (calls_of N (length readings / N) readings out)

module _ (N : ℕ) (readings out : List ℤ) (w : half_width N ≡ 0 → ⊥) (e : length readings % N ≡ 0) (few : length readings / N ≤ block_limit) where
  pub whole-output-refused : (length out ≡ length readings + N → ⊥) → (told (Err OutputLength), out) ≡ whole_forward N readings out
  unfolding told whole_forward
  whole-output-refused m = rw (ne_eqb _ _ w, eq-eqb _ _ e, le-leb _ _ few, ne_eqb _ _ m)

  module _ (room : length out ≡ length readings + N) where
    lengths-passed : forward_one_by_one N readings out ≡ whole_forward N readings out
    unfolding whole_forward
    lengths-passed = rw (ne_eqb _ _ w, eq-eqb _ _ e, le-leb _ _ few, eq-eqb _ _ room)

    pub by-refusal : (answer : ℕ × ℕ) → first_refusal N 0 (calls_made N readings out) ≡ answer → (answer, cond (eqb answer.0 0) (outputs (calls_made N readings out)) out) ≡ whole_forward N readings out
    unfolding forward_one_by_one
    by-refusal answer d = rw (← lengths-passed, d)
