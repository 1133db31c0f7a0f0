-- The fields of a run as the bytes have them: what the readers of fields answer. The laws lift each to the definition of the same name in Fields.
-- Assumes nothing. An answer says where the value or the body ends; what follows it is the run from `next` on.
use Rattle.std.specs.Prelude.{Option, None, Some}
use Rattle.std.specs.Prelude.{ℕ, Bool, false, ◌&&◌, List, take, eqb}
use Rattle.octets.specs.If.{ifb}
use Rattle.octets.specs.Octets.{from_be, part}
use Rattle.ttlv.specs.Parse.{first_of}
use Rattle.ttlv.specs.declared.First.{First}
use Rattle.ttlv.specs.declared.First.TheVariants.{End, Bad, Value, Group}

unfoldable pub starts_in : ℕ → First → Bool
starts_in tag End = false
starts_in tag Bad = false
starts_in tag (Value tag2 kind n next) = eqb tag2 tag
starts_in tag (Group tag2 next) = eqb tag2 tag

-- whether an item with this tag stands at the front of s
unfoldable pub starts_at : List ℕ → ℕ → Bool
starts_at s tag = starts_in tag (first_of s)

unfoldable pub bytes_in : ℕ → ℕ → First → Option (ℕ × ℕ)
bytes_in tag kind End = None
bytes_in tag kind Bad = None
bytes_in tag kind (Value tag2 kind2 n next) = ifb (eqb tag2 tag && eqb kind2 kind) (Some (n, next)) None
bytes_in tag kind (Group tag2 next) = None

-- the length of the value of the item at the front of s, which has this tag and type
unfoldable pub bytes_at : List ℕ → ℕ → ℕ → Option (ℕ × ℕ)
bytes_at s tag kind = bytes_in tag kind (first_of s)

unfoldable pub number_in : List ℕ → Option (ℕ × ℕ) → Option (ℕ × ℕ)
number_in s (Some (n, next)) = Some ((from_be (take 8 (part s 8 n))), next)
number_in s None = None

-- the number that the value of that item spells; of a value longer than 8 bytes, the number that its first 8 spell
unfoldable pub number_at : List ℕ → ℕ → ℕ → Option (ℕ × ℕ)
number_at s tag kind = number_in s (bytes_at s tag kind)

unfoldable pub body_in : ℕ → First → Option ℕ
body_in tag End = None
body_in tag Bad = None
body_in tag (Value tag2 kind n next) = None
body_in tag (Group tag2 next) = ifb (eqb tag2 tag) (Some next) None

-- the end of the structure at the front of s, which has this tag
unfoldable pub body_at : List ℕ → ℕ → Option ℕ
body_at s tag = body_in tag (first_of s)
