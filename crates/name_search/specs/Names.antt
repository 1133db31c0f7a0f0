-- The record with a name. Destroyed ones are found too: nothing is asked of the state.
-- Assumes nothing.
use Rattle.std.specs.Prelude.{Option, None}
use Rattle.std.specs.Prelude.{ℕ, Bool, not, List}
use Rattle.octets.specs.If.{ifb}
use Rattle.names.specs.declared.Name.{Name}
use Rattle.names.specs.Names.{is_named, same_name}
use Rattle.table.specs.Records.{name_at}
use Rattle.search.specs.Search.{first, is_nothing}

-- place i has this name
abbrev pub has_name : ℕ → List ℕ → Name → ℕ → Bool
has_name n t name i = same_name (name_at n t i) name

-- the place of the record with a name; no name names nothing, though a record without a name has none
unfoldable pub find_name : ℕ → List ℕ → Name → Option ℕ
find_name n t name = ifb (is_named name) (first n (has_name n t name)) None

-- "A name that any record in the table has, destroyed ones included"
unfoldable pub is_taken : ℕ → List ℕ → Name → Bool
is_taken n t name = not (is_nothing (find_name n t name))
