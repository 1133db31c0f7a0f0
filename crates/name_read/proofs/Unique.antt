-- No second outcome: what two calls with the same inputs ensure is the same. Stated on the contract as the checker reads it.
-- Assumes nothing.
use mathlib.Core.Path.{sym, ◌∙◌}
use Rattle.outcomes.specs.Outcomes.{OneAnswer}
use Rattle.name_read.proofs.read_only_name.Reads as read_only_name
use Rattle.name_read.proofs.read_last_name.Reads as read_last_name

pub read_only_name_unique : OneAnswer read_only_name.Post
read_only_name_unique κs a r r' s s' p q = p ∙ sym q

pub read_last_name_unique : OneAnswer read_last_name.Post
read_last_name_unique κs a r r' s s' p q = p ∙ sym q
