-- No second outcome: what two calls with the same inputs ensure is the same, answer and room. Stated on the contract as the checker reads it.
-- Assumes nothing.
use mathlib.Core.Path.{sym, ◌∙◌}
use Rattle.outcomes.specs.Outcomes.{OneOutcome}
use Rattle.rewrite.proofs.rewrite.Reads as reads

pub rewrite_unique : OneOutcome reads.Post (λ k s. s.0.now)
rewrite_unique κs a r r' s s' p q = (p.answer ∙ sym q.answer, p.bytes ∙ sym q.bytes)
