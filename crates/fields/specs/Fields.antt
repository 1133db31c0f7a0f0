-- The fields of a run of items, first to last: what the layers above see of TTLV.
-- Assumes nothing. A reader gives what stands first and the items behind it, or none if something else stands there.
use Rattle.std.specs.Prelude.{ℕ, Bool, false, ◌&&◌, List, eqb}
use Rattle.std.specs.Prelude.{Option, None, Some}
use Rattle.octets.specs.If.{ifb}
use Rattle.octets.specs.Maybe.{◌>>=◌}
use Rattle.octets.specs.Octets.{from_be}
use Rattle.ttlv.specs.Items.{Items, nil, value, group}

-- whether the first item has this tag
unfoldable pub starts_with : ℕ → Items → Bool
starts_with tag nil = false
starts_with tag (value tag2 kind v rest) = eqb tag2 tag
starts_with tag (group tag2 body rest) = eqb tag2 tag

-- the value of the first item, which has this tag and type, and the rest
unfoldable pub bytes_of : ℕ → ℕ → Items → Option (List ℕ × Items)
bytes_of tag kind nil = None
bytes_of tag kind (value tag2 kind2 v rest) = ifb (eqb tag2 tag && eqb kind2 kind) (Some (v, rest)) None
bytes_of tag kind (group tag2 body rest) = None

-- the items of the first item, a structure with this tag, and the rest
unfoldable pub body_of : ℕ → Items → Option (Items × Items)
body_of tag nil = None
body_of tag (value tag2 kind v rest) = None
body_of tag (group tag2 body rest) = ifb (eqb tag2 tag) (Some (body, rest)) None

-- the number that the value of the first item spells, and the rest
unfoldable pub number_of : ℕ → ℕ → Items → Option (ℕ × Items)
number_of tag kind t = do
  (v, rest) ← bytes_of tag kind t
  Some (from_be v, rest)

-- "[..] means optional": a first item with this tag has to be read; with another, or none, the field is absent
unfoldable pub optional : {A : Type 0} → ℕ → (Items → Option (A × Items)) → Items → Option (Option A × Items)
optional tag read t = ifb (starts_with tag t) (read t >>= λ (a, rest). Some (Some a, rest)) (Some (None, t))
