-- No second outcome: what two calls with the same inputs ensure is the same. Stated on the contract as the checker reads it.
-- Assumes nothing.
use mathlib.Core.Path.{sym, ◌∙◌}
use Rattle.outcomes.specs.Outcomes.{OneAnswer}
use Rattle.attributes_read.proofs.read_attributes.Reads as read_attributes

pub read_attributes_unique : OneAnswer read_attributes.Post
read_attributes_unique κs a r r' s s' p q = p ∙ sym q
