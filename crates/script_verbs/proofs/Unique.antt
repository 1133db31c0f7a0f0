-- No second answer meets the contract of `script_verbs::verb_of`, as the checker reads it.
-- Assumes nothing.
use mathlib.Core.Path.{sym, ◌∙◌}
use Rattle.outcomes.specs.Outcomes.{OneAnswer}
use Rattle.script_verbs.proofs.verb_of.Reads as verb_of

pub verb_of_unique : OneAnswer verb_of.Post
verb_of_unique κs a r r' s s' p q = p ∙ sym q
