-- A whole number in decimal, 32 bits signed: document 01, "The text run"; and 64 bits signed: request 2. There is one way to write each number.
-- Bytes are the codes of ASCII.
use Rattle.std.specs.Prelude.{Bool, true, false, cond, not, ◌&&◌, List, [], ◌∷◌, ℕ, zero, suc, ◌+◌, ◌-◌, ◌*◌, ◌/◌, ◌%◌, ◌<◌, eqb, ltb, leb, ℤ, pos, negsuc, Option, Some, None}

-- '0', '9' and '-'
abbrev pub digit_zero : ℕ
digit_zero = 48

abbrev pub digit_nine : ℕ
digit_nine = 57

abbrev pub minus_sign : ℕ
minus_sign = 45

-- ---- printed
-- the digits of n, most significant first, in front of `after`; with at most k of them
unfoldable pub spelled : ℕ → ℕ → List ℕ → List ℕ
spelled zero n after = after
spelled (suc k) n after = cond (ltb n 10) ((digit_zero + n) ∷ after) (spelled k (n / 10) ((digit_zero + n % 10) ∷ after))

-- 64 bits have at most 20 digits
unfoldable pub decimal : ℕ → List ℕ
decimal n = spelled 20 n []

unfoldable pub printed : ℤ → List ℕ
printed (pos n) = decimal n
printed (negsuc n) = minus_sign ∷ decimal (suc n)

-- ---- read
unfoldable pub is_digit : ℕ → Bool
is_digit b = leb digit_zero b && leb b digit_nine

unfoldable pub all_digits : List ℕ → Bool
all_digits [] = true
all_digits (b ∷ bs) = is_digit b && all_digits bs

-- what digits spell behind a number n
unfoldable pub value_of : ℕ → List ℕ → ℕ
value_of n [] = n
value_of n (b ∷ bs) = value_of (n * 10 + (b - digit_zero)) bs

-- up to a limit
unfoldable pub valued : ℕ → ℕ → List ℕ → Option ℕ
valued limit n bs = cond (all_digits bs && leb (value_of n bs) limit) (Some (value_of n bs)) None

-- at least one digit, and a '0' in front of no other digit
unfoldable pub leads : List ℕ → Bool
leads [] = false
leads (b ∷ []) = true
leads (b ∷ c ∷ bs) = not (eqb b digit_zero)

unfoldable pub sized : ℕ → List ℕ → Option ℕ
sized limit bs = cond (leads bs) (valued limit 0 bs) None

-- a number behind a minus sign: `-0` is none
unfoldable pub negative : Option ℕ → Option ℤ
negative (Some zero) = None
negative (Some (suc n)) = Some (negsuc n)
negative None = None

unfoldable pub positive : Option ℕ → Option ℤ
positive (Some n) = Some (pos n)
positive None = None

-- signed, where `limit` is the size of the least
unfoldable pub signed_in : ℕ → List ℕ → Option ℤ
signed_in limit [] = None
signed_in limit (b ∷ bs) = cond (eqb b minus_sign) (negative (sized limit bs)) (positive (sized (limit - 1) (b ∷ bs)))

-- 32 bits, and 64
abbrev pub least32 : ℕ
least32 = 2147483648

abbrev pub least64 : ℕ
least64 = 9223372036854775808

unfoldable pub number_in : List ℕ → Option ℤ
number_in bs = signed_in least32 bs

unfoldable pub total_in : List ℕ → Option ℤ
total_in bs = signed_in least64 bs

-- a number of so many bits, and a list of numbers of 32 bits
unfoldable pub fits : ℕ → ℤ → Type 0
fits limit (pos n) = n < limit
fits limit (negsuc n) = n < limit

abbrev pub bits32 : ℤ → Type 0
bits32 = fits least32

abbrev pub bits64 : ℤ → Type 0
bits64 = fits least64

unfoldable pub all_bits : List ℤ → Type 0
all_bits [] = Unit {0}
all_bits (x ∷ xs) = bits32 x × all_bits xs
