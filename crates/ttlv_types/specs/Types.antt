-- 01, "TTLV": the type table, with the lengths and the values that each type allows.
-- Assumes nothing.
use Rattle.std.specs.Prelude.{ℕ, ◌+◌, ◌*◌, ◌/◌, ◌%◌, Bool, true, ◌&&◌, ◌||◌, List, leb, eqb}
use Rattle.octets.specs.If.{ifb}
use Rattle.octets.specs.Octets.{from_be}
use Rattle.utf8.specs.Text.{text}

abbrev pub structure : ℕ
structure = 0x01

abbrev pub integer : ℕ
integer = 0x02

abbrev pub long_integer : ℕ
long_integer = 0x03

abbrev pub big_integer : ℕ
big_integer = 0x04

abbrev pub enumeration : ℕ
enumeration = 0x05

abbrev pub boolean : ℕ
boolean = 0x06

abbrev pub text_string : ℕ
text_string = 0x07

abbrev pub byte_string : ℕ
byte_string = 0x08

abbrev pub date_time : ℕ
date_time = 0x09

abbrev pub interval : ℕ
interval = 0x0A

abbrev pub date_time_extended : ℕ
date_time_extended = 0x0B

-- n rounded up to a multiple of 8: a value with its padding
abbrev pub padded : ℕ → ℕ
padded n = (n + 7) / 8 * 8

-- Integer, Enumeration, Interval: 4 bytes
abbrev pub is_word : ℕ → Bool
is_word kind = eqb kind integer || eqb kind enumeration || eqb kind interval

-- Long Integer, Boolean, Date-Time, Date-Time Extended: 8 bytes
abbrev pub is_long : ℕ → Bool
is_long kind = eqb kind long_integer || eqb kind boolean || eqb kind date_time || eqb kind date_time_extended

-- the lengths that a type allows; no other type has any
unfoldable pub length_ok : ℕ → ℕ → Bool
length_ok kind n =
    ifb (is_word kind) (eqb n 4)
    (ifb (is_long kind) (eqb n 8)
    (ifb (eqb kind structure) (eqb (n % 8) 0)
    (ifb (eqb kind big_integer) (leb 8 n && eqb (n % 8) 0)
    (eqb kind text_string || eqb kind byte_string))))

-- the values that a type allows: a Boolean is 0 or 1, a Text String is text (of RFC 3629: 02, L5)
unfoldable pub value_ok : ℕ → List ℕ → Bool
value_ok kind v = ifb (eqb kind boolean) (leb (from_be v) 1) (ifb (eqb kind text_string) (text v) true)
