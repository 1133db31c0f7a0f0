-- The eight characters of a text as one number, a byte each: what is done to the number is done to all of them at once.
-- Assumes nothing. These say what the code does; `word_names` and `word_none` (proofs/Words.antt) tie them to `serial_of`.
use Rattle.std.specs.Prelude.{ℕ, ◌+◌, ◌*◌, ◌/◌, ◌%◌}
use Rattle.std.specs.Int.Bits.{bit_and}

-- for each character the digit that it would be, a byte each: its low half, and nine more where it has 40 hex in it. It is some digit for every character, and the right one for a digit's
abbrev pub digits_in : ℕ → ℕ
digits_in w = bit_and (bit_and w 0x0F0F0F0F0F0F0F0F + bit_and w 0x4040404040404040 / 64 * 9) 0x0F0F0F0F0F0F0F0F

-- the highest eight digits, a byte each
abbrev pub highest_digits : ℕ
highest_digits = 0x0F0F0F0F0F0F0F0F

-- the characters of eight digits: seven more from ten on
abbrev pub characters_in : ℕ → ℕ
characters_in d = d + 0x3030303030303030 + bit_and (d + 0x0606060606060606) 0x1010101010101010 / 16 * 7

-- eight digits, a byte each, put side by side: two in a byte, four in two bytes, eight in four
abbrev pub pairs_in : ℕ → ℕ
pairs_in d = bit_and (d + d / 16) 0x00FF00FF00FF00FF

abbrev pub fours_in : ℕ → ℕ
fours_in p = bit_and (p + p / 256) 0x0000FFFF0000FFFF

abbrev pub eight_in : ℕ → ℕ
eight_in f = f % 65536 + f / 4294967296 * 65536

abbrev pub side_by_side : ℕ → ℕ
side_by_side d = eight_in (fours_in (pairs_in d))
