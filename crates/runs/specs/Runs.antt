-- What is read of a run, as items.
-- Assumes nothing.
use Rattle.std.specs.Prelude.{ℕ, Bool, true, false, ◌||◌, List, Option, None, Some}
use Rattle.std.specs.Borrow.{Bor}
use Rattle.ttlv_types.specs.Types.{is_word, is_long}
use Rattle.ttlv.specs.Items.{Items}
use Rattle.ttlv.specs.Tree.{tree_of}
use Rattle.runs.specs.declared.run.Run.{Run}

-- the types whose values are numbers of at most eight bytes
abbrev pub is_number : ℕ → Bool
is_number kind = is_word kind || is_long kind

-- whether anything was read
abbrev pub is_there : {A : Type 0} → Option A → Bool
is_there None = false
is_there (Some a) = true

-- what was read, with the items behind it
abbrev pub behind : {A : Type 0} → A × Run → A × Items
behind p = (p.0, tree_of p.1.bytes.now)

-- the bytes of a value, with the items behind it
abbrev pub bytes_read : Bor (List ℕ) × Run → List ℕ × Items
bytes_read p = (p.0.now, tree_of p.1.bytes.now)

-- the items of a structure, with the items behind it
abbrev pub body_read : Run × Run → Items × Items
body_read p = (tree_of p.0.bytes.now, tree_of p.1.bytes.now)
