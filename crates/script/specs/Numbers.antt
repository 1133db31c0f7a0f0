-- Decimal numbers in a script: numbers, clocks, and parts of a buffer.
-- Assumes nothing.
use Rattle.std.specs.Prelude.{ℕ, ◌+◌, ◌*◌, ◌-◌, ◌^◌, ◌&&◌, List, [], ◌∷◌, take, drop, ℤ, pos, negsuc, eqb, leb, ltb}
use Rattle.std.specs.Prelude.{Option, None, Some}
use Rattle.octets.specs.If.{ifb}
use Rattle.octets.specs.Maybe.{◌>>=◌, ◌>>◌}
use Rattle.hex_digits.specs.Hex.{is_decimal}
use Rattle.lines.specs.Lines.{place_of}
use Rattle.script.specs.declared.Span.{Span}

-- the digit of a character, if it is one
abbrev pub decimal_of : ℕ → Option ℕ
decimal_of c = ifb (is_decimal c) (Some (c - 0x30)) None

-- the digits of s behind those that spell n, as long as the number fits 64 bits
unfoldable pub number_after : ℕ → List ℕ → Option ℕ
number_after n [] = Some n
number_after n (c ∷ s) = decimal_of c >>= λ d. (ltb (n * 10 + d) (2 ^ 64) >> number_after (n * 10 + d) s)

-- one digit or more, and nothing else
unfoldable pub number_in : List ℕ → Option ℕ
number_in [] = None
number_in (c ∷ s) = number_after 0 (c ∷ s)

-- a number as a clock, up to 2^63 - 1
abbrev pub from_zero : ℕ → Option ℤ
from_zero n = ifb (ltb n (2 ^ 63)) (Some (pos n)) None

-- a number behind a minus sign, down to -2^63; there is no -0
abbrev pub below_zero : ℕ → Option ℤ
below_zero n = ifb (leb 1 n && leb n (2 ^ 63)) (Some (negsuc (n - 1))) None

-- a number with or without a minus sign
unfoldable pub clock_in : List ℕ → Option ℤ
clock_in [] = None
clock_in (c ∷ s) = ifb (eqb c 0x2D) (number_in s >>= below_zero) (number_in (c ∷ s) >>= from_zero)

-- two numbers with a blank between them
unfoldable pub span_in : List ℕ → Option Span
span_in s = number_in (take (place_of 0x20 s) s) >>= λ at. number_in (drop (place_of 0x20 s + 1) s) >>= λ len. Some (record { at = at; len = len })
