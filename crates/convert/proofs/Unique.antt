-- That no second outcome meets a contract, for each public function, of the contract as the checker reads it.
-- Assumes nothing.
use mathlib.Core.Path.{sym, ◌∙◌}
use Rattle.outcomes.specs.Outcomes.{OneOutcome}
use Rattle.convert.proofs.convert.Reads as convert_reads

pub convert_unique : OneOutcome convert_reads.Post (λ k s. s.1.0.now)
convert_unique κs a r r' s s' p q = (p.0 ∙ sym q.0, p.1 ∙ sym q.1)
