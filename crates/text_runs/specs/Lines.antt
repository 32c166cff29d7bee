-- The lines of a text run: document 01, "The text run".
use Rattle.std.specs.Prelude.{Bool, true, false, cond, ◌&&◌, List, [], ◌∷◌, ◌++◌, ℕ, eqb, ℤ, pos, negsuc, take, drop, Option, Some, None}
use Rattle.text_runs.specs.Decimal.{decimal, printed, number_in, total_in}

abbrev pub comma : ℕ
comma = 44

abbrev pub line_feed : ℕ
line_feed = 10

-- the bytes of `refused,` and of `end,`
unfoldable pub refused_tag : List ℕ
refused_tag = 114 ∷ 101 ∷ 102 ∷ 117 ∷ 115 ∷ 101 ∷ 100 ∷ 44 ∷ []

unfoldable pub end_tag : List ℕ
end_tag = 101 ∷ 110 ∷ 100 ∷ 44 ∷ []

-- ---- printed
unfoldable pub behind_commas : List ℤ → List ℕ
behind_commas [] = []
behind_commas (x ∷ xs) = comma ∷ printed x ++ behind_commas xs

-- the numbers of a block or a frame, with commas between them
unfoldable pub row : List ℤ → List ℕ
row [] = []
row (x ∷ xs) = printed x ++ behind_commas xs

-- the last line of a run, with the count of its blocks or frames and the total of its readings
unfoldable pub end_line : ℕ → ℤ → List ℕ
end_line count total = end_tag ++ (decimal count ++ comma ∷ printed total)

-- what is printed for a refused line
unfoldable pub refusal : ℕ → ℕ → ℕ → List ℕ
refusal number line place = refused_tag ++ (decimal number ++ comma ∷ (decimal line ++ comma ∷ decimal place))

-- ---- read
-- a byte in front of the first field
unfoldable pub longer : ℕ → List (List ℕ) → List (List ℕ)
longer b [] = (b ∷ []) ∷ []
longer b (field ∷ rest) = (b ∷ field) ∷ rest

unfoldable pub fields : List ℕ → List (List ℕ)
fields [] = [] ∷ []
fields (b ∷ bs) = cond (eqb b comma) ([] ∷ fields bs) (longer b (fields bs))

-- the numbers of all fields, if each is one
unfoldable pub number_in_front : Option ℤ → Option (List ℤ) → Option (List ℤ)
number_in_front (Some x) (Some xs) = Some (x ∷ xs)
number_in_front (Some x) None = None
number_in_front None rest = None

unfoldable pub all_numbers : List (List ℕ) → Option (List ℤ)
all_numbers [] = Some []
all_numbers (field ∷ rest) = number_in_front (number_in field) (all_numbers rest)

unfoldable pub numbers_in : List ℕ → Option (List ℤ)
numbers_in bs = all_numbers (fields bs)

-- the bytes before the first b
unfoldable pub up_to : ℕ → List ℕ → List ℕ
up_to b [] = []
up_to b (c ∷ cs) = cond (eqb c b) [] (c ∷ up_to b cs)

-- whether two lines are the same
unfoldable pub same : List ℕ → List ℕ → Bool
same [] [] = true
same [] (y ∷ ys) = false
same (x ∷ xs) [] = false
same (x ∷ xs) (y ∷ ys) = eqb x y && same xs ys

-- ---- the end line, read behind this count of lines between: its total. The tag is compared; behind it stand the right count and a number of 64
-- bits, and nothing else. Any other line has none.
unfoldable pub is_count : ℕ → Option ℤ → Bool
is_count count (Some (pos n)) = eqb n count
is_count count (Some (negsuc n)) = false
is_count count None = false

unfoldable pub count_and_total : ℕ → List (List ℕ) → Option ℤ
count_and_total count [] = None
count_and_total count (first ∷ []) = None
count_and_total count (first ∷ second ∷ []) = cond (is_count count (number_in first)) (total_in second) None
count_and_total count (first ∷ second ∷ third ∷ rest) = None

unfoldable pub end_total : ℕ → List ℕ → Option ℤ
end_total count bytes = cond (same (take 4 bytes) end_tag) (count_and_total count (fields (drop 4 bytes))) None
