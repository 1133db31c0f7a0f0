-- No second outcome meets a public function's contract, as the checker reads it.
-- Assumes nothing.
use mathlib.Core.Path.{sym, ◌∙◌}
use Rattle.outcomes.specs.Outcomes.{OneAnswer}
use Rattle.script.proofs.number_in.Reads as number_in
use Rattle.script.proofs.clock_in.Reads as clock_in
use Rattle.script.proofs.span_in.Reads as span_in

pub number_in_unique : OneAnswer number_in.Post
number_in_unique κs a r r' s s' p q = p ∙ sym q

pub clock_in_unique : OneAnswer clock_in.Post
clock_in_unique κs a r r' s s' p q = p ∙ sym q

pub span_in_unique : OneAnswer span_in.Post
span_in_unique κs a r r' s s' p q = p ∙ sym q
