-- No second outcome: whatever meets a function's contract, as the checker reads it, is the same, answer and room.
-- Assumes nothing.
use mathlib.Core.Path.{sym, ◌∙◌}
use Rattle.outcomes.specs.Outcomes.{OneOutcome}
use Rattle.key_write.proofs.write_key.Reads as write_key_reads

pub write_key_unique : OneOutcome write_key_reads.Post (λ k s. s.0.now)
write_key_unique κs a r r' s s' p q = (p.holds.size ∙ sym q.holds.size, p.holds.bytes ∙ sym q.holds.bytes)
