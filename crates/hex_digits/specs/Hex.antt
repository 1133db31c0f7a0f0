-- Upper-case hex digits: the character of a digit, and the digit of a character.
-- Assumes nothing.
use Rattle.std.specs.Prelude.{ℕ, ◌+◌, ◌-◌, ◌/◌, ◌%◌, Bool, ◌&&◌, ◌||◌, List, [], ◌∷◌, leb, ltb, Option, Some, None}
use Rattle.octets.specs.If.{ifb}

-- the character of a digit: 0 to 9, then A to F
abbrev pub digit : ℕ → ℕ
digit d = ifb (ltb d 10) (0x30 + d) (0x37 + d)

-- a byte as two characters
abbrev pub pair_of : ℕ → List ℕ
pair_of b = digit (b / 16) ∷ digit (b % 16) ∷ []

-- a character that is a decimal digit, and one that is A to F
abbrev pub is_decimal : ℕ → Bool
is_decimal c = leb 0x30 c && leb c 0x39

abbrev pub is_letter : ℕ → Bool
is_letter c = leb 0x41 c && leb c 0x46

abbrev pub is_digit : ℕ → Bool
is_digit c = is_decimal c || is_letter c

-- the digit of a character
abbrev pub digit_of : ℕ → ℕ
digit_of c = ifb (is_decimal c) (c - 0x30) (c - 0x37)

-- the digit of a character, if it is one
abbrev pub value_of : ℕ → Option ℕ
value_of c = ifb (is_digit c) (Some (digit_of c)) None
