-- Bytes written as hex: two digits a byte, with blanks before, between and behind the bytes where one likes.
-- Assumes nothing. Programs read scripts so, and the bytes of worked cases stand so, as the papers print them.
use Rattle.std.specs.Prelude.{ℕ, ◌+◌, ◌*◌, Bool, true, false, List, [], ◌∷◌, eqb}
use Prim.Native.String.{String, [] as []ˢ, ◌∷◌ as ◌∷ˢ◌}
use Prim.Native.Char.{code}
use Rattle.octets.specs.If.{ifb}
use Rattle.hex_digits.specs.Hex.{is_digit, digit_of}

-- what a character is in such a text
pub data Mark : Type 0 where
  gap : Mark
  half : ℕ → Mark
  other : Mark

abbrev pub mark_of : ℕ → Mark
mark_of c = ifb (eqb c 0x20) gap (ifb (is_digit c) (half (digit_of c)) other)

abbrev pub marks_of : List ℕ → List Mark
marks_of [] = []
marks_of (c ∷ s) = mark_of c ∷ marks_of s

-- the bytes of a text up to where it is none, and whether it is one to its end
pub record Pairs : Type 0 where
  pub bytes : List ℕ
  pub whole : Bool

abbrev pub ended : Pairs
ended = record { bytes = []; whole = true }

abbrev pub broken : Pairs
broken = record { bytes = []; whole = false }

abbrev pub behind : ℕ → Pairs → Pairs
behind b rest = record { bytes = b ∷ rest.bytes; whole = rest.whole }

abbrev pub pairs_by : List Mark → Pairs
pairs_by [] = ended
pairs_by (gap ∷ s) = pairs_by s
pairs_by (other ∷ s) = broken
pairs_by (half h ∷ []) = broken
pairs_by (half h ∷ (gap ∷ s)) = broken
pairs_by (half h ∷ (other ∷ s)) = broken
pairs_by (half h ∷ (half l ∷ s)) = behind (16 * h + l) (pairs_by s)

unfoldable pub pairs_in : List ℕ → Pairs
pairs_in s = pairs_by (marks_of s)

-- the characters of a text
abbrev pub codes : String → List ℕ
codes []ˢ = []
codes (c ∷ˢ s) = code c ∷ codes s

-- the bytes of a text
abbrev pub hex : String → List ℕ
hex s = (pairs_by (marks_of (codes s))).bytes
