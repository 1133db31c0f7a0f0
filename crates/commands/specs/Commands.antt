-- How a request of a script is served from a line on.
-- Assumes nothing.
use Rattle.std.specs.Prelude.{ℕ, ℤ, List, [], ◌∷◌, Option, None, Some}
use Rattle.octets.specs.If.{ifb}
use Rattle.octets.specs.Maybe.{◌>>=◌}
use Rattle.table.specs.Layout.{small_count, places_ok}
use Rattle.script.specs.Numbers.{number_in}
use Rattle.commands.specs.declared.Buffer.{Buffer}
use Rattle.commands.specs.declared.Buffer.TheVariants.{Table as TableBuffer, Strip as StripBuffer, Output as OutputBuffer, Second as SecondBuffer}
use Rattle.commands.specs.declared.Setting.{Setting}

-- a number that is the place count of tables that there are
abbrev pub if_places : ℕ → Option ℕ
if_places n = ifb (places_ok n) (Some n) None

-- how many places the table of a `blank` line has: as many as it says, and a small table's where it says nothing
unfoldable pub places_in : List ℕ → Option ℕ
places_in [] = Some small_count
places_in (c ∷ s) = number_in (c ∷ s) >>= if_places

-- the setting after a line, or nothing where the line is none of a script: then the setting stays

-- another clock
unfoldable pub with_clock : Setting → Option ℤ → Option Setting
with_clock s None = None
with_clock s (Some z) = Some (record { clock = z; room = s.room; strip = s.strip; size = s.size; undo = s.undo })

-- so many bytes of a buffer
abbrev pub lent : Buffer → Setting → ℕ → Setting
lent TableBuffer s n = record { clock = s.clock; room = s.room; strip = s.strip; size = n; undo = s.undo }
lent StripBuffer s n = record { clock = s.clock; room = s.room; strip = n; size = s.size; undo = s.undo }
lent OutputBuffer s n = record { clock = s.clock; room = n; strip = s.strip; size = s.size; undo = s.undo }
lent SecondBuffer s n = record { clock = s.clock; room = s.room; strip = s.strip; size = s.size; undo = n }

unfoldable pub lending : Buffer → Setting → Option ℕ → Option Setting
lending b s None = None
lending b s (Some n) = Some (lent b s n)
