-- Where a byte and the end of a name stand in a run of bytes, and which lines say nothing.
-- Assumes nothing.
use Rattle.std.specs.Prelude.{ℕ, ◌+◌, Bool, true, false, ◌&&◌, List, [], ◌∷◌, eqb}
use Rattle.octets.specs.If.{ifb}

-- where b stands first in s; the length of s where it stands nowhere
unfoldable pub place_of : ℕ → List ℕ → ℕ
place_of b [] = 0
place_of b (x ∷ s) = ifb (eqb x b) 0 (1 + place_of b s)

-- whether s starts with b
abbrev pub leads : ℕ → List ℕ → Bool
leads b [] = false
leads b (x ∷ s) = eqb x b

-- a name ends where a colon and a blank stand first; where they stand nowhere, with the line
unfoldable pub name_end : List ℕ → ℕ
name_end [] = 0
name_end (x ∷ s) = ifb (eqb x 0x3A && leads 0x20 s) 0 (1 + name_end s)

-- an empty line says nothing, and one that starts with a number sign
unfoldable pub is_silent : List ℕ → Bool
is_silent [] = true
is_silent (x ∷ s) = eqb x 0x23
