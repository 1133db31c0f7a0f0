-- 01, "TTLV": items, how they are written, and which can be written.
-- Assumes nothing.
use Rattle.std.specs.Prelude.{ℕ, zero, suc, ◌-◌, ◌^◌, Bool, true, false, not, ◌&&◌, List, [], ◌∷◌, ◌++◌, length, replicate, ltb, eqb}
use Rattle.octets.specs.Octets.{be}
use Rattle.ttlv_types.specs.Types.{structure, padded, length_ok, value_ok}
use Rattle.tags.specs.Tags.{tag_ok}

-- a run of items: none; or an item with its tag, type and value, and the rest; or a structure with its tag and its own run, and the rest
pub data Items : Type 0 where
  nil : Items
  value : ℕ → ℕ → List ℕ → Items → Items
  group : ℕ → Items → Items → Items

-- whether no item is left
unfoldable pub ended : Items → Bool
ended nil = true
ended (value tag kind v rest) = false
ended (group tag body rest) = false

-- tag 3 bytes, type 1 byte, length 4 bytes
abbrev pub head : ℕ → ℕ → ℕ → List ℕ
head tag kind n = be 3 tag ++ (kind ∷ be 4 n)

-- the zeros behind a value of n bytes, not counted in its length
abbrev pub padding : ℕ → List ℕ
padding n = replicate (padded n - n) 0

-- items as bytes: the one spelling
unfoldable pub encode : Items → List ℕ
encode nil = []
encode (value tag kind v rest) = head tag kind (length v) ++ (v ++ (padding (length v) ++ encode rest))
encode (group tag body rest) = head tag structure (length (encode body)) ++ (encode body ++ encode rest)

-- an item that is no structure and keeps the type table
unfoldable pub item_ok : ℕ → ℕ → List ℕ → Bool
item_ok tag kind v = tag_ok tag && not (eqb kind structure) && length_ok kind (length v) && value_ok kind v && ltb (length v) (256 ^ 4)

-- well-formed, with structures at most d deep
unfoldable pub well_formed : ℕ → Items → Bool
well_formed d nil = true
well_formed zero (value tag kind v rest) = false
well_formed (suc d) (value tag kind v rest) = item_ok tag kind v && well_formed (suc d) rest
well_formed zero (group tag body rest) = false
well_formed (suc d) (group tag body rest) = tag_ok tag && ltb (length (encode body)) (256 ^ 4) && well_formed d body && well_formed (suc d) rest
