-- The list of each matrix in a room, and its leaf lists.
use mathlib.Core.Path.{◌≡◌, refl, sym, ap, subst, ◌∙◌}
use mathlib.Core.Bool.{Bool, true, false}
use mathlib.Core.List.{List}
use Prim.Native.Nat.{ℕ, ◌+◌, ◌-◌, ◌*◌, ◌/◌, ◌^◌, ◌≤◌, ◌<◌}
use native.Mathlib.Nat.{mul-le-mul, le_trans}
use native.Mathlib.Omega.{arith}
use borrow.Author.Tests.{ltb-true, ltb-false}
use lib.Dec.{ltb}
use borrow.Rule.Slice.PartMut.{put_mid}
use lib.IntN.{ℤ, pos, neg_ℤ, nat_abs, ◌*ℤ◌}
use lib.ListN.{length, take}
use lib.Seq.{length-take-le, get_or-take}
use Rattle.integers.specs.Places.{tab, places, at, Within}
use Rattle.integers.proofs.Order.{nat_abs-*ℤ}
use Rattle.integers.proofs.Ring.{*ℤ-negℤ}
use Rattle.integers.proofs.PlaceLaws.{at_places, by-places, length-places, places-ext, within-places}
use Rattle.tables.specs.Widths.{by_width, half_width, scale}
use Rattle.tables.specs.Angles.{half_turn, reflected, below_zero, signed}
use Rattle.tables.specs.Numbers.{sines, secants, secants8, secants32, secants128, cosine_of, secant_of}
use Rattle.tables.proofs.ByWidth.{at_each, half-width-le}
use Rattle.tables.proofs.Sizes.{cosine-size, secant-size}
use Rattle.products.specs.Own.Products.{Power}
use Rattle.products.specs.Own.Rooms.{Small, Written}
use Rattle.products.specs.Own.Whole.{LeafLists}
use Rattle.products.specs.Own.Tables.{Tabled}
use Rattle.products.proofs.RoomLaws.{written-before}
use Rattle.products.proofs.LevelRooms.{power-same}
use Rattle.width_tables.specs.Orders.{angle_at}
use Rattle.width_tables.specs.Filled.{leaves_long, list_room, cosine_list, secant_list}
use Rattle.width_tables.proofs.PartLaws.{measured, put-part, put-long}

-- ---- the number of each list at a place
abbrev pub cosine_in : ℕ → ℕ → ℤ
cosine_in N e = cosine_of (angle_at N e)

abbrev pub secant_in : ℕ → ℕ → ℤ
secant_in N k = pos (scale N * scale N) *ℤ secant_of N (pos (2 * k + 1))

-- ---- half a turn on, cosines and secants change their signs: computed
cosines-turned : (N : ℕ) → places (half_width N) (λ e. cosine_in N (half_width N + e)) ≡ places (half_width N) (λ e. neg_ℤ (cosine_in N e))
unfolding tab cosine_of sines half_width by_width half_turn reflected below_zero signed angle_at
cosines-turned = at_each (λ N M. places M (λ e. cosine_in N (M + e)) ≡ places M (λ e. neg_ℤ (cosine_in N e))) 4 16 64 0 refl refl refl (λ N x y z. refl)

secants-turned : (N : ℕ) → places (half_width N) (λ k. secant_of N (pos (2 * (half_width N + k) + 1))) ≡ places (half_width N) (λ k. neg_ℤ (secant_of N (pos (2 * k + 1))))
unfolding tab secant_of secants secants8 secants32 secants128 half_width by_width half_turn reflected below_zero signed
secants-turned = at_each (λ N M. places M (λ k. secant_of N (pos (2 * (M + k) + 1))) ≡ places M (λ k. neg_ℤ (secant_of N (pos (2 * k + 1))))) 4 16 64 0 refl refl refl (λ N x y z. refl)

same_place : (n : ℕ) (f g : ℕ → ℤ) → places n f ≡ places n g → (i : ℕ) → i < n → f i ≡ g i
same_place n f g e i l = sym (at_places n f i l) ∙ ap (λ xs. at xs i) e ∙ at_places n g i l

module _ (N h : ℕ) (half : h ≡ half_width N) where
  pub cosine-turn : (i : ℕ) → i < h → cosine_in N (h + i) ≡ neg_ℤ (cosine_in N i)
  cosine-turn i l = subst (λ x. cosine_in N (x + i) ≡ neg_ℤ (cosine_in N i)) (sym half) (same_place (half_width N) (λ e. cosine_in N (half_width N + e)) (λ e. neg_ℤ (cosine_in N e)) (cosines-turned N) i (omega (arith, half)))

  pub secant-turn : (i : ℕ) → i < h → secant_in N (h + i) ≡ neg_ℤ (secant_in N i)
  secant-turn i l =
      ap (λ z. pos (scale N * scale N) *ℤ z)
      (subst (λ x. secant_of N (pos (2 * (x + i) + 1)) ≡ neg_ℤ (secant_of N (pos (2 * i + 1)))) (sym half)
      (same_place (half_width N) (λ k. secant_of N (pos (2 * (half_width N + k) + 1))) (λ k. neg_ℤ (secant_of N (pos (2 * k + 1)))) (secants-turned N) i (omega (arith, half))))
      ∙ *ℤ-negℤ (pos (scale N * scale N)) (secant_of N (pos (2 * i + 1)))

  pub cosines-by-threes : (n : ℕ) (ys : List ℤ) → ys ≡ places n (λ e. cosine_of (3 ^ e * (128 / h))) → ys ≡ places n (cosine_in N)
  unfolding angle_at
  cosines-by-threes n ys e = e ∙ ap (λ x. places n (λ e. cosine_of (3 ^ e * (128 / x)))) half

pub cosine-list : (N : ℕ) → places N (cosine_in N) ≡ cosine_list N
unfolding cosine_list
cosine-list N = refl

pub secant-list : (N : ℕ) → places N (secant_in N) ≡ secant_list N
unfolding secant_list
secant-list N = refl

-- ---- n numbers at the front of a room
module _ (n : ℕ) (f : ℕ → ℤ) (ys room : List ℤ) (filled : ys ≡ places (length (take n room)) f) (long : n ≤ length room) where
  front-is : ys ≡ places n f
  front-is = filled ∙ ap (λ k. places k f) (length-take-le n room long)

  front_long : length ys ≡ n
  front_long = ap length front-is ∙ length-places n f

  pub room-same : length (put_mid 0 n room ys) ≡ length room
  room-same = put-long 0 n room ys (omega arith) front_long

  pub front-now : take n (put_mid 0 n room ys) ≡ places n f
  front-now = put-part 0 n room ys (omega arith) front_long ∙ front-is

-- they are small
pub front-small : (n most : ℕ) (f : ℕ → ℤ) (room : List ℤ) → take n room ≡ places n f → ((i : ℕ) → nat_abs (f i) ≤ most) → most ≤ 2 ^ 62 - 1 → Small 0 n room
front-small n most f room e size le = record {
  small = λ p a b.
      let d : at room p ≡ f p = sym (get_or-take n room p (pos 0) b) ∙ ap (λ xs. at xs p) e ∙ at_places n f p b in
      rw d (le_trans (size p) le);
}

-- the second half behind them
module _ (n h : ℕ) (f : ℕ → ℤ) {room₀ room : List ℤ} (double : n ≡ h + h) (fits : n ≤ length room₀) (first : take h room₀ ≡ places h f)
    (turn : (i : ℕ) → i < h → f (h + i) ≡ neg_ℤ (f i)) (w : Written (λ j. neg_ℤ (at room₀ j)) h h room₀ room) where
  first-at : (i : ℕ) → i < h → at room₀ i ≡ f i
  first-at i l = sym (get_or-take h room₀ i (pos 0) l) ∙ ap (λ xs. at xs i) first ∙ at_places h f i l

  either : (i : ℕ) → i < n → at room i ≡ f i
  either i l = by (ltb i h) refl
    where
      by : (t : Bool) → ltb i h ≡ t → at room i ≡ f i
      by true e = let k = ltb-true i h e in written-before w i k ∙ first-at i k
      by false e =
          let k = ltb-false i h e in
          let j = i - h in
          let d : h + j ≡ i = omega arith in
          let b : j < h = omega (arith, double) in
          ap (at room) (sym d) ∙ w.new j b ∙ ap neg_ℤ (first-at j b) ∙ sym (turn j b) ∙ ap f d

  pub both_halves : take n room ≡ places n f
  both_halves = by-places n (take n room) f (length-take-le n room (omega (arith, w.long))) (λ i l. get_or-take n room i (pos 0) l ∙ either i l)

-- ---- leaf lists: M is 4·2^levels, with 3^levels leaves
pub record Leveled (N M : ℕ) : Type 0 where
  pub power : Power M
  pub leaves : 3 ^ power.levels * 9 ≡ leaves_long N
  pub room : 3 ^ power.levels * 8 ≡ list_room N

leveled : (N : ℕ) → 0 < half_width N → Leveled N (half_width N)
unfolding leaves_long list_room half_width by_width
leveled =
    at_each (λ N M. 0 < M → Leveled N M) 4 16 64 0
    (λ z. record { power = record { levels = 0; is = refl }; leaves = refl; room = refl })
    (λ z. record { power = record { levels = 2; is = refl }; leaves = refl; room = refl })
    (λ z. record { power = record { levels = 4; is = refl }; leaves = refl; room = refl })
    (λ N x y w z. absurd (omega arith))

module _ (N h : ℕ) (z : 0 < half_width N) (half : h ≡ half_width N) where
  levels : Leveled N h
  levels = subst (Leveled N) (sym half) (leveled N z)

  pub leaves-are : (p : Power h) → 3 ^ p.levels * 9 ≡ leaves_long N
  leaves-are p = ap (λ l. 3 ^ l * 9) (power-same p levels.power) ∙ levels.leaves

  -- the list of a matrix at the front of the room
  module _ (list room : List ℤ) (is : take N room ≡ list) (long : list_room N ≤ length room) where
    list-front : take (h + h) room ≡ list
    list-front = ap (λ n. take n room) (let e : h + h ≡ N = omega (arith, (measured N z).double) in e) ∙ is

    pub tabled : (most : ℕ) → Within most list → half_width N * most < 2 ^ 62 → Tabled h room
    tabled most w fits = record {
      power = levels.power;
      most = most;
      within = subst (Within most) (sym list-front) w;
      fits = rw half fits;
      long = omega (arith, levels.room);
    }

    pub leaves_of : (out : List ℤ) → LeafLists h (take (h + h) room) out → LeafLists (half_width N) list out
    leaves_of out l = subst (λ m. LeafLists m list out) half (subst (λ t. LeafLists h t out) list-front l)

-- ---- the sizes of both lists
pub cosines-within : (N : ℕ) → Within (2 ^ 28) (cosine_list N)
unfolding cosine_list
cosines-within N = within-places N _ (cosine_in N) (λ i l. cosine-size _)

pub cosines-fit : (N : ℕ) → half_width N * 2 ^ 28 < 2 ^ 62
cosines-fit N = omega (arith, half-width-le N)

pub square_le : (N : ℕ) → scale N * scale N ≤ 16
unfolding scale
square_le = at_each (λ N s. s * s ≤ 16) 4 2 1 0 (omega arith) (omega arith) (omega arith) (λ N x y z. omega arith)

pub scaled-size : (N : ℕ) (r : ℤ) → nat_abs (pos (scale N * scale N) *ℤ secant_of N r) ≤ 176000000000
scaled-size N r = omega (arith, nat_abs-*ℤ (pos (scale N * scale N)) (secant_of N r), mul-le-mul (square_le N) (secant-size N r))

pub secants-within : (N : ℕ) → Within 176000000000 (secant_list N)
unfolding secant_list
secants-within N = within-places N _ (secant_in N) (λ i l. scaled-size N _)

pub secants-fit : (N : ℕ) → half_width N * 176000000000 < 2 ^ 62
secants-fit N = omega (arith, half-width-le N)

-- each number of a list, taken so many times
pub scaled-is : (n : ℕ) {b : ℤ} (c : ℤ) (f : ℕ → ℤ) (ys zs : List ℤ) → ys ≡ places n f → zs ≡ places (length ys) (λ k. b *ℤ at ys k) → b ≡ c → zs ≡ places (length ys) (λ k. c *ℤ f k)
scaled-is n c f ys zs d e r =
    e
    ∙ ap (λ x. places (length ys) (λ k. x *ℤ at ys k)) r
    ∙ places-ext (length ys) (λ k. c *ℤ at ys k) (λ k. c *ℤ f k) (λ k l. ap (λ x. c *ℤ x) (ap (λ xs. at xs k) d ∙ at_places n f k (omega (arith, ap length d, length-places n f))))
