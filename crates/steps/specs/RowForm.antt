-- The same steps forward over whole rows, which the proofs on distance compute with. proofs/RowForms shows them equal to Steps.
use Rattle.std.specs.Prelude.{true, false, cond, ℕ, ◌+◌, ◌*◌, ◌^◌, eqb, ℤ, pos, neg_ℤ, ◌+ℤ◌, ◌*ℤ◌, take, drop}
use mathlib.Core.List.{List, [], ◌∷◌, ◌++◌, zip_with}
use Rattle.integers.specs.Floor.{round}
use Rattle.integers.specs.Vectors.{plus, mul_vec}
use Rattle.tables.specs.Widths.{half_width}
use Rattle.steps.specs.Places.{tab}
use Rattle.steps.specs.Steps.{root_log, tangent, sine, cosine, secant}

-- ---- lists
unfoldable pub onto : List ℤ → List ℤ → List ℤ
onto [] acc = acc
onto (x ∷ xs) acc = onto xs (x ∷ acc)

unfoldable pub rev : List ℤ → List ℤ
rev xs = onto xs []

-- entry by entry
unfoldable pub times : List ℤ → List ℤ → List ℤ
times [] ys = []
times (x ∷ xs) [] = []
times (x ∷ xs) (y ∷ ys) = (x *ℤ y) ∷ times xs ys

unfoldable pub negated_row : List ℤ → List ℤ
negated_row [] = []
negated_row (x ∷ xs) = neg_ℤ x ∷ negated_row xs

-- d(n): the sign of every second entry changed
unfoldable pub alt : List ℤ → List ℤ
alt [] = []
alt (x ∷ []) = x ∷ []
alt (x ∷ y ∷ xs) = x ∷ neg_ℤ y ∷ alt xs

unfoldable pub evens : List ℤ → List ℤ
evens [] = []
evens (x ∷ []) = x ∷ []
evens (x ∷ y ∷ xs) = x ∷ evens xs

unfoldable pub odds : List ℤ → List ℤ
odds [] = []
odds (x ∷ []) = []
odds (x ∷ y ∷ xs) = y ∷ odds xs

unfoldable pub weave : List ℤ → List ℤ → List ℤ
weave [] ys = []
weave (x ∷ xs) [] = []
weave (x ∷ xs) (y ∷ ys) = x ∷ y ∷ weave xs ys

-- adds the rounded amounts a/2^k to y
abbrev pub lift : ℕ → List ℤ → List ℤ → List ℤ
lift k y a = zip_with (λ y a. y +ℤ round k a) y a

-- ---- the tables of a width as rows; √M is 2^l
pub record RowTables : Type 0 where
  pub M : ℕ
  pub l : ℕ
  pub tan : List ℤ  -- −t(m)
  pub sin : List ℤ  -- s(m)
  pub cs : List (List ℤ)  -- C(m,n)
  pub a3 : List (List ℤ)  -- stage 3: −(the secant, 2·√M·C(m,n), and M·t(n) where n = M−1−m)

-- an entry of a3, from the secant, the cosine and the tangent
unfoldable pub stage3_entry : ℕ → ℕ → ℕ → ℕ → ℤ → ℤ → ℤ → ℤ
stage3_entry M l m n sec cos tan = neg_ℤ (sec +ℤ pos (2 * 2 ^ l) *ℤ cos +ℤ cond (eqb (m + n + 1) M) (pos M *ℤ tan) (pos 0))

unfoldable pub row_tables_of : ℕ → RowTables
row_tables_of N =
    let M = half_width N in
    let l = root_log N in
    record {
      M = M;
      l = l;
      tan = tab (λ m. neg_ℤ (tangent N m)) M 0;
      sin = tab (sine N) M 0;
      cs = tab (λ m. tab (cosine N m) M 0) M 0;
      a3 = tab (λ m. tab (λ n. stage3_entry M l m n (secant N m n) (cosine N m n) (tangent N n)) M 0) M 0;
    }

-- ---- the two lifts of all pairs at once, and the rotation
unfoldable pub tan_amounts : RowTables → List ℤ → List ℤ
tan_amounts w a = times w.tan a

unfoldable pub sin_amounts : RowTables → List ℤ → List ℤ
sin_amounts w b = times w.sin b

unfoldable pub rot_a : RowTables → List ℤ → List ℤ → List ℤ
rot_a w a b = lift 28 a (sin_amounts w (lift 28 b (tan_amounts w a)))

unfoldable pub rot_b : RowTables → List ℤ → List ℤ → List ℤ
rot_b w a b = lift 28 (lift 28 b (tan_amounts w a)) (tan_amounts w (rot_a w a b))

-- ---- the fold
unfoldable pub row_lower : RowTables → List ℤ → List ℤ
row_lower w x = rev (rot_a w (take w.M x) (rev (drop w.M x)))

unfoldable pub row_held : RowTables → List ℤ → List ℤ
row_held w x = rot_b w (take w.M x) (rev (drop w.M x))

-- ---- the five stages
unfoldable pub row_stage1 : RowTables → List ℤ → List ℤ → List ℤ
row_stage1 w top bot = lift (27 + w.l) (plus bot top) (mul_vec w.cs (alt top))

unfoldable pub row_stage2 : RowTables → List ℤ → List ℤ → List ℤ
row_stage2 w top bot = lift (28 + w.l) (negated_row (alt top)) (mul_vec w.cs bot)

unfoldable pub row_stage3 : RowTables → List ℤ → List ℤ → List ℤ
row_stage3 w top bot = lift (28 + 2 * w.l) bot (mul_vec w.a3 top)

unfoldable pub row_stage4 : RowTables → List ℤ → List ℤ → List ℤ
row_stage4 w top bot = lift 28 top (sin_amounts w (rev bot))

unfoldable pub row_stage5 : RowTables → List ℤ → List ℤ → List ℤ
row_stage5 w top bot = rev (lift 28 (rev bot) (tan_amounts w top))

unfoldable pub row_stages : RowTables → List ℤ → List ℤ
row_stages w f =
    let top = evens f in
    let bot₁ = row_stage1 w top (odds f) in
    let top₂ = row_stage2 w top bot₁ in
    let bot₃ = row_stage3 w top₂ bot₁ in
    let top₄ = row_stage4 w top₂ bot₃ in
    top₄ ++ row_stage5 w top₄ bot₃

-- the frame of a block, with what the block before it held
unfoldable pub row_frame : RowTables → List ℤ → List ℤ → List ℤ
row_frame w before block = row_stages w (row_lower w block ++ before)
