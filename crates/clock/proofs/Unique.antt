-- No second answer meets a public function's contract, as the checker reads it.
-- Assumes nothing.
use mathlib.Core.Path.{sym, ◌∙◌}
use Rattle.outcomes.specs.Outcomes.{OneAnswer}
use Rattle.clock.proofs.bits_of.Reads as bits_of
use Rattle.clock.proofs.clock_of.Reads as clock_of

pub bits_of_unique : OneAnswer bits_of.Post
bits_of_unique κs a r r' s s' p q = p ∙ sym q

pub clock_of_unique : OneAnswer clock_of.Post
clock_of_unique κs a r r' s s' p q = p ∙ sym q
