-- Which bytes of a text are printed escaped: those of the control characters, which could forge a line or drive a terminal.
-- Assumes nothing.
use Rattle.std.specs.Prelude.{ℕ, Bool, ◌&&◌, ◌||◌, ltb, leb, eqb}

-- U+0080 to U+009F are spelled C2 80 to C2 9F
abbrev pub is_upper_control : ℕ → ℕ → Bool
is_upper_control first second = eqb first 0xC2 && leb 0x80 second && leb second 0x9F

-- a byte below 20 hex, 7F, and both bytes of U+0080 to U+009F
abbrev pub is_control : ℕ → ℕ → ℕ → Bool
is_control before b next = ltb b 0x20 || eqb b 0x7F || is_upper_control before b || is_upper_control b next
