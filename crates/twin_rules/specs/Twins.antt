-- 01, "Sound", and 02, L6: those of the rules that two places break together, 5 and 22. The list of all, with the others, stands in soundness (specs/Sound.antt).
-- Assumes nothing.
use Rattle.std.specs.Prelude.{ℕ, Bool, true, not, ◌&&◌, List, eqb}
use Rattle.octets.specs.If.{ifb}
use Rattle.names.specs.Names.{is_named, same_name}
use Rattle.table.specs.Records.{serial_at, name_at}
use Rattle.search.specs.Search.{first, is_nothing}

-- another place has the serial of place i
abbrev pub is_twin : List ℕ → ℕ → ℕ → Bool
is_twin t i j = not (eqb j i) && eqb (serial_at t j) (serial_at t i)

-- rule 5: "serials distinct"
unfoldable pub distinct_right : ℕ → List ℕ → ℕ → Bool
distinct_right n t i = is_nothing (first n (is_twin t i))

-- another place has the name of place i, byte for byte
abbrev pub is_namesake : ℕ → List ℕ → ℕ → ℕ → Bool
is_namesake n t i j = not (eqb j i) && same_name (name_at n t j) (name_at n t i)

-- rule 22: "and differ", of names; a record without one differs from all
unfoldable pub names_differ : ℕ → List ℕ → ℕ → Bool
names_differ n t i = let alone = is_nothing (first n (is_namesake n t i)) in ifb (is_named (name_at n t i)) alone true
