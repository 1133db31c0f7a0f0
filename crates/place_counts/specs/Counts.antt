-- 02, L7: "The lead's place count may be 64 or 256; the table's size follows from it, and any other count is refusal 3."
-- Assumes nothing.
use Rattle.std.specs.Prelude.{ℕ, Bool, ◌&&◌, List}
use Rattle.table.specs.Layout.{places_ok}
use Rattle.table.specs.Records.{places_said}
use Rattle.soundness.specs.Sound.{sound}

-- a table that is not refused: its lead says a count that there is, and it is sound for that count, whose size is one of the rules
unfoldable pub table_right : List ℕ → Bool
table_right t = let n = places_said t in places_ok n && sound n t
