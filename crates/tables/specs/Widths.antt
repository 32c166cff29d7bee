-- The widths of a run: N is 8, 32 or 128, and M is N/2.
use Rattle.std.specs.Prelude.{◌≡◌, cond, ◌⊎◌, ℕ, eqb}

-- the widths that a run can have
abbrev pub RunWidth : ℕ → Type 0
RunWidth N = (N ≡ 8) ⊎ ((N ≡ 32) ⊎ (N ≡ 128))

-- what belongs to each width, and to any other number
unfoldable pub by_width : {A : Type 0} → A → A → A → A → ℕ → A
by_width a b c other n = cond (eqb n 8) a (cond (eqb n 32) b (cond (eqb n 128) c other))

-- M, and 0 where there is no such width
unfoldable pub half_width : ℕ → ℕ
half_width = by_width 4 16 64 0

-- 8/√M, and 0 where there is no such width
unfoldable pub scale : ℕ → ℕ
scale = by_width 4 2 1 0
