-- No second outcome: two calls with the same input have the same answer. Stated on the contract as the checker reads it.
-- Assumes nothing.
use mathlib.Core.Path.{sym, ◌∙◌}
use Rattle.outcomes.specs.Outcomes.{OneAnswer}
use Rattle.tags.proofs.tag_ok.Reads as tag_ok

pub tag_ok_unique : OneAnswer tag_ok.Post
tag_ok_unique κs a r r' s s' p q = p ∙ sym q
