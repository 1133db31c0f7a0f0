-- No second answer meets a public function's contract, as the checker reads it.
-- Assumes nothing.
use mathlib.Core.Path.{sym, ◌∙◌}
use Rattle.outcomes.specs.Outcomes.{OneAnswer}
use Rattle.commands.proofs.script_room.Reads as script_room
use Rattle.commands.proofs.places_in.Reads as places_in
use Rattle.commands.proofs.set_clock.Reads as set_clock
use Rattle.commands.proofs.lend.Reads as lend

pub script_room_unique : OneAnswer script_room.Post
script_room_unique κs a r r' s s' p q = p ∙ sym q

pub places_in_unique : OneAnswer places_in.Post
places_in_unique κs a r r' s s' p q = p ∙ sym q

pub set_clock_unique : OneAnswer set_clock.Post
set_clock_unique κs a r r' s s' p q = p ∙ sym q

pub lend_unique : OneAnswer lend.Post
lend_unique κs a r r' s s' p q = p ∙ sym q
