-- No second outcome: what two calls with the same inputs ensure is the same, answer and room. Stated on the contracts as the checker reads them.
-- Assumes nothing.
use mathlib.Core.Path.{sym, ◌∙◌}
use Rattle.outcomes.specs.Outcomes.{OneOutcome}
use Rattle.answer_write.proofs.write_answer.Reads as write_answer

pub write_answer_unique : OneOutcome write_answer.Post (λ k s. s.0.now)
write_answer_unique κs a r r' s s' p q = (p.holds.size ∙ sym q.holds.size, p.holds.bytes ∙ sym q.holds.bytes)
