-- No second outcome: what two calls with the same inputs leave is the same room. Stated on the contract as the checker reads it.
-- Assumes nothing.
use mathlib.Core.Path.{sym, ◌∙◌}
use Rattle.outcomes.specs.Outcomes.{OneLeft}
use Rattle.front_write.proofs.write_front.Reads as write_front

pub write_front_unique : OneLeft write_front.Post (λ k s. s.0.now)
write_front_unique κs a r r' s s' p q = p ∙ sym q
