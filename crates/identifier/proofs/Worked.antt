-- Worked cases of identifier text, by computation: each text stands as its characters, in hex.
-- Assumes nothing.
use mathlib.Core.Path.{◌≡◌, refl}
use Rattle.octets.specs.If.{ifb}
use Rattle.octets.specs.Octets.{all}
use Rattle.hex_digits.specs.Texts.{hex}
use Rattle.identifier.specs.Identifier.{identifier, serial_of, digits, from_digits_after}

-- "0000000A"
ten : serial_of (hex "30 30 30 30 30 30 30 41") ≡ 10
unfolding serial_of from_digits_after all ifb
ten = refl

-- "FFFFFFFF", the last serial
highest : serial_of (hex "46 46 46 46 46 46 46 46") ≡ 4294967295
unfolding serial_of from_digits_after all ifb
highest = refl

-- "12345678" and "9ABCDEF0": the highest digit stands first, and each digit counts
in_order_lem : serial_of (hex "31 32 33 34 35 36 37 38") ≡ 0x12345678
unfolding serial_of from_digits_after all ifb
in_order_lem = refl

each_counts : serial_of (hex "39 41 42 43 44 45 46 30") ≡ 0x9ABCDEF0
unfolding serial_of from_digits_after all ifb
each_counts = refl

-- "00000000" names no record, since none has the serial 0
zeros : serial_of (hex "30 30 30 30 30 30 30 30") ≡ 0
unfolding serial_of from_digits_after all ifb
zeros = refl

-- "0000000a": lower case names none
lower_case : serial_of (hex "30 30 30 30 30 30 30 61") ≡ 0
unfolding serial_of from_digits_after all ifb
lower_case = refl

-- "000000A" and "00000000A": nor do seven digits, or nine
seven : serial_of (hex "30 30 30 30 30 30 41") ≡ 0
unfolding serial_of from_digits_after all ifb
seven = refl

nine : serial_of (hex "30 30 30 30 30 30 30 30 41") ≡ 0
unfolding serial_of from_digits_after all ifb
nine = refl

-- "0000000G", "0000000:", "0000000@", "/0000001": nor do the characters beside the digits
past_f : serial_of (hex "30 30 30 30 30 30 30 47") ≡ 0
unfolding serial_of from_digits_after all ifb
past_f = refl

past_nine : serial_of (hex "30 30 30 30 30 30 30 3A") ≡ 0
unfolding serial_of from_digits_after all ifb
past_nine = refl

before_a : serial_of (hex "30 30 30 30 30 30 30 40") ≡ 0
unfolding serial_of from_digits_after all ifb
before_a = refl

before_zero : serial_of (hex "2F 30 30 30 30 30 30 31") ≡ 0
unfolding serial_of from_digits_after all ifb
before_zero = refl

-- the texts of 1, of the last serial, and of 9ABCDEF0 hex
first_text : identifier 1 ≡ hex "30 30 30 30 30 30 30 31"
unfolding identifier digits ifb
first_text = refl

last_text : identifier 4294967295 ≡ hex "46 46 46 46 46 46 46 46"
unfolding identifier digits ifb
last_text = refl

each_text : identifier 0x9ABCDEF0 ≡ hex "39 41 42 43 44 45 46 30"
unfolding identifier digits ifb
each_text = refl
