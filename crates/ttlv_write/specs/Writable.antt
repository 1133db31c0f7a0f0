-- 01, "TTLV", written type by type: when an item is written at all.
-- Assumes nothing.
use Rattle.std.specs.Prelude.{ℕ, Bool, ◌&&◌, List, length}
use Rattle.ttlv.specs.Items.{Items, encode, well_formed}
use Rattle.ttlv_put.specs.Write.{fits}

-- what the tests of all writers say: the item reads back, and the room has place for it
abbrev pub writable : Items → List ℕ → Bool
writable t room = well_formed 1 t && fits room (length (encode t))
