-- 02, L5: "Text Strings now take every UTF-8 sequence of that standard, and overlong forms, surrogates and values above 10FFFF hex are malformed": the grammar of RFC 3629, section 4.
-- Assumes nothing. Each definition opens what it computes with, so that a worked case has to name `text` alone.
use Rattle.std.specs.Prelude.{ℕ, Bool, true, false, ◌&&◌, List, [], ◌∷◌, leb}
use Rattle.octets.specs.If.{ifb}

-- the bytes from low to high
pub record Range : Type 0 where
  pub low : ℕ
  pub high : ℕ

infix 80 ◌to◌
abbrev pub ◌to◌ : ℕ → ℕ → Range
low to high = record { low = low; high = high }

abbrev pub is_in : Range → ℕ → Bool
is_in r x = leb r.low x && leb x r.high

-- "UTF8-tail = %x80-BF"
abbrev pub tail : Range
tail = 0x80 to 0xBF

-- "UTF8-char = UTF8-1 / UTF8-2 / UTF8-3 / UTF8-4", an alternative a line: the ranges of its bytes
abbrev pub forms : List (List Range)
forms =
    (0x00 to 0x7F ∷ [])
    ∷ (0xC2 to 0xDF ∷ tail ∷ [])
    ∷ (0xE0 to 0xE0 ∷ 0xA0 to 0xBF ∷ tail ∷ [])
    ∷ (0xE1 to 0xEC ∷ tail ∷ tail ∷ [])
    ∷ (0xED to 0xED ∷ 0x80 to 0x9F ∷ tail ∷ [])
    ∷ (0xEE to 0xEF ∷ tail ∷ tail ∷ [])
    ∷ (0xF0 to 0xF0 ∷ 0x90 to 0xBF ∷ tail ∷ tail ∷ [])
    ∷ (0xF1 to 0xF3 ∷ tail ∷ tail ∷ tail ∷ [])
    ∷ (0xF4 to 0xF4 ∷ 0x80 to 0x8F ∷ tail ∷ tail ∷ [])
    ∷ []

-- what nothing can follow: a byte is still to come, and none is from 1 to 0
abbrev pub wrong : List Range
wrong = 1 to 0 ∷ []

-- what is still to come of the character that byte x begins
unfoldable pub begun : ℕ → List (List Range) → List Range
unfolding ifb
begun x [] = wrong
begun x ([] ∷ others) = begun x others
begun x ((r ∷ rest) ∷ others) = let other = begun x others in ifb (is_in r x) rest other

-- what is still to come after byte x, where some bytes of a character were, or none
unfoldable pub later : List Range → ℕ → List Range
unfolding begun
later [] x = begun x forms
later (r ∷ rest) x = ifb (is_in r x) rest wrong

-- whether nothing is still to come
unfoldable pub is_whole : List Range → Bool
is_whole [] = true
is_whole (r ∷ rest) = false

-- bytes that finish what is still to come, and then are whole characters
unfoldable pub text_from : List Range → List ℕ → Bool
unfolding later is_whole
text_from to_come [] = is_whole to_come
text_from to_come (x ∷ s) = text_from (later to_come x) s

-- "UTF8-octets = *( UTF8-char )"
unfoldable pub text : List ℕ → Bool
unfolding text_from
text v = text_from [] v

-- a character of one byte
abbrev pub is_plain : ℕ → Bool
is_plain x = leb x 0x7F
