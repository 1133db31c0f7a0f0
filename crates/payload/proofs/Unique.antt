-- No second outcome: what two calls with the same inputs ensure is the same. Stated on the contract as the checker reads it.
-- Assumes nothing.
use mathlib.Core.Path.{sym, ◌∙◌}
use Rattle.outcomes.specs.Outcomes.{OneAnswer}
use Rattle.payload.proofs.read_command.Reads as read_command

pub read_command_unique : OneAnswer read_command.Post
read_command_unique κs a r r' s s' p q = p ∙ sym q
