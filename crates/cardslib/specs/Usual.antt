-- How requests are served until a script says otherwise.
-- Assumes nothing.
use Rattle.std.specs.Prelude.{ℕ, pos}
use Rattle.calls.specs.Effects.{room_least, strip_size}
use Rattle.commands.specs.declared.Setting.{Setting}

-- as a blank table of this size starts: clock 1 (02, L3: "document 01's card and bench program move to clock 1"), room and strip of their sizes, and a second buffer of the table's
abbrev pub usual_setting : ℕ → Setting
usual_setting bytes = record { clock = pos 1; room = room_least; strip = strip_size; size = bytes; undo = bytes }
