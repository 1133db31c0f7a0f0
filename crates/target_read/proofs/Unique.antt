-- No second outcome: what two calls with the same inputs ensure is the same. Stated on the contract as the checker reads it.
-- Assumes nothing.
use mathlib.Core.Path.{sym, ◌∙◌}
use Rattle.outcomes.specs.Outcomes.{OneAnswer}
use Rattle.target_read.proofs.read_target.Reads as read_target

pub read_target_unique : OneAnswer read_target.Post
read_target_unique κs a r r' s s' p q = p ∙ sym q
