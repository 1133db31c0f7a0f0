-- 01, "Sound" and "Create", and 02, L3 and L9: the values that a sound table allows; Create allows the same ("as a sound table allows"), and a limit only for some masks. Dates and clocks are their 64 bits.
-- Assumes nothing.
use Rattle.std.specs.Prelude.{ℕ, ◌^◌, ◌/◌, ◌%◌, Bool, ◌&&◌, ◌||◌, leb, ltb, eqb}

-- "length 128, 192 or 256"
abbrev pub bits_ok : ℕ → Bool
bits_ok bits = eqb bits 128 || eqb bits 192 || eqb bits 256

-- "mask at most 00FFFFFF hex"
abbrev pub mask_ok : ℕ → Bool
mask_ok mask = leb mask 0x00FFFFFF

-- whether a mask has this bit, which is a power of 2
abbrev pub has_bit : ℕ → ℕ → Bool
has_bit bit mask = eqb (mask / bit % 2) 1

-- 02, L9: "Sign (1), Encrypt (4) and MAC Generate (80 hex)": a mask with one of them is one of a key that can apply protection. Create alone asks it, and a sound table does not
abbrev pub protects : ℕ → Bool
protects mask = has_bit 1 mask || has_bit 4 mask || has_bit 0x80 mask

-- "unit 1 or 2"
abbrev pub unit_ok : ℕ → Bool
unit_ok unit = eqb unit 1 || eqb unit 2

-- "total 1 to 1,000,000,000,000"
abbrev pub total_ok : ℕ → Bool
total_ok total = leb 1 total && leb total 1_000_000_000_000

-- a signed number of 64 bits, given as its bits, that is not negative
abbrev pub not_negative : ℕ → Bool
not_negative bits = ltb bits (2 ^ 63)

-- the same, and not 0: "from 1 up"
abbrev pub above_zero : ℕ → Bool
above_zero bits = leb 1 bits && not_negative bits

-- "deactivation not before activation where both are set"; 0 is not set, and an activation of 0 is before everything
abbrev pub in_order : ℕ → ℕ → Bool
in_order activation deactivation = eqb deactivation 0 || leb activation deactivation
