-- The move that a block asks for, and its two holds: document 02, request 3. `proofs/Moves` proves what is said of them.
use Rattle.std.specs.Prelude.{◌≡◌, cond, List, ℕ, suc, ◌/◌, ℤ, pos, negsuc, neg_ℤ, ◌-ℤ◌, ◌≤ℤ◌, ◌<ℤ◌}
use Rattle.std.specs.Int.Signed.{le_z, lt_z}
use Rattle.integers.specs.Vectors.{sum_of}
use Rattle.valves.specs.declared.record.Valve.{Valve}
use Rattle.valves.specs.Record.{travel, greatest_move}

-- a total divided by N, cut toward zero
unfoldable pub cut : ℤ → ℕ → ℤ
cut (pos t) N = pos (t / N)
cut (negsuc t) N = neg_ℤ (pos (suc t / N))

-- the move that a block asks for before any hold: against its total
unfoldable pub wanted : ℕ → List ℤ → ℤ
wanted N block = neg_ℤ (cut (sum_of block) N)

unfoldable pub held_between : ℤ → ℤ → ℤ → ℤ
held_between low high x = cond (lt_z x low) low (cond (lt_z high x) high x)

-- held within ±500, then so that the position stays in its travel
unfoldable pub held_move : ℤ → ℤ → ℤ
held_move position x =
    held_between (neg_ℤ position) (pos travel -ℤ position)
    (held_between (neg_ℤ (pos greatest_move)) (pos greatest_move) x)

unfoldable pub move : ℕ → Valve → List ℤ → ℤ
move N valve block = held_move valve.position (wanted N block)

-- ---- the two holds are one, and 0 lies between its ends
unfoldable pub greater : ℤ → ℤ → ℤ
greater a b = cond (le_z a b) b a

unfoldable pub lesser : ℤ → ℤ → ℤ
lesser a b = cond (le_z a b) a b

unfoldable pub lowest : ℤ → ℤ
lowest position = greater (neg_ℤ (pos greatest_move)) (neg_ℤ position)

unfoldable pub highest : ℤ → ℤ
highest position = lesser (pos greatest_move) (pos travel -ℤ position)

pub record OneHold (position x : ℤ) : Type 0 where
  pub one : held_move position x ≡ held_between (lowest position) (highest position) x
  pub from_zero : lowest position ≤ℤ pos 0
  pub to-zero : pos 0 ≤ℤ highest position

abbrev pub TwoHoldsAreOne : Type 0
TwoHoldsAreOne = (position x : ℤ) → pos 0 ≤ℤ position → position ≤ℤ pos travel → OneHold position x

-- ---- a move is 0, or its sign is against the total's
pub data Against (total : ℤ) : ℤ → Type 0 where
  still : Against total (pos 0)
  down : {steps : ℤ} → pos 0 <ℤ total → steps <ℤ pos 0 → Against total steps
  up : {steps : ℤ} → total <ℤ pos 0 → pos 0 <ℤ steps → Against total steps
