-- 01, "Identifier text: the serial as 8 upper-case hex digits; any other text, and eight zeros, names no record".
-- Assumes nothing.
use Rattle.std.specs.Prelude.{ℕ, zero, suc, ◌+◌, ◌*◌, ◌/◌, ◌%◌, ◌&&◌, List, [], ◌∷◌, ◌++◌, length, eqb}
use Rattle.octets.specs.If.{ifb}
use Rattle.octets.specs.Octets.{all}
use Rattle.hex_digits.specs.Hex.{digit, is_digit, digit_of}

-- n as w digits, the highest first
unfoldable pub digits : ℕ → ℕ → List ℕ
digits zero n = []
digits (suc w) n = digits w (n / 16) ++ (digit (n % 16) ∷ [])

abbrev pub identifier_size : ℕ
identifier_size = 8

-- the text of a serial
unfoldable pub identifier : ℕ → List ℕ
identifier serial = digits identifier_size serial

-- the number that digits spell behind those that spell a
unfoldable pub from_digits_after : ℕ → List ℕ → ℕ
from_digits_after a [] = a
from_digits_after a (c ∷ cs) = from_digits_after (a * 16 + digit_of c) cs

-- the serial that a text names; 0, which no record has, for every text that names none
unfoldable pub serial_of : List ℕ → ℕ
serial_of v = ifb (eqb (length v) identifier_size && all is_digit v) (from_digits_after 0 v) 0
