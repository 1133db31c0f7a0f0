-- Bytes in a script, as hex.
-- Assumes nothing.
use Rattle.std.specs.Prelude.{ℕ, ◌+◌, ◌*◌, ◌&&◌, List, [], ◌∷◌, ◌≡◌, length, take, leb, Option, Some, None}
use Rattle.octets.specs.If.{ifb}
use Rattle.octets.specs.Octets.{over}
use Rattle.hex_digits.specs.Hex.{is_digit, digit_of}
use Rattle.hex_digits.specs.Texts.{Pairs, pairs_in}

-- the byte that two characters spell, if both are digits
abbrev pub byte_of : ℕ → ℕ → Option ℕ
byte_of h l = ifb (is_digit h && is_digit l) (Some (16 * digit_of h + digit_of l)) None

-- the byte that the first two characters spell, if there are two and they do
abbrev pub first_byte : List ℕ → Option ℕ
first_byte [] = None
first_byte (c ∷ []) = None
first_byte (c ∷ (d ∷ s)) = byte_of c d

-- how many bytes a text has, where it is one to its end and there is room for them
unfoldable pub count_in : ℕ → Pairs → Option ℕ
count_in room p = ifb (p.whole && leb (length p.bytes) room) (Some (length p.bytes)) None

-- a text read over the front of `out`: the answer, and what is left there
pub record BytesRead (s out : List ℕ) (r : Option ℕ) (left : List ℕ) : Type 0 where
  pub count : r ≡ count_in (length out) (pairs_in s)
  pub bytes : left ≡ over (take (length out) (pairs_in s).bytes) out
