-- `commands::script_room`. The room is the array as it is written.
-- Assumes nothing.
use mathlib.Core.Path.{refl}
use Rattle.commands.proofs.script_room.Goals as goal

pub returns : goal.returns
returns c = refl
