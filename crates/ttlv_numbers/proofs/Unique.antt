-- No second outcome, whatever the type of the number: what two calls with the same inputs ensure is the same, answer and room. Stated on the contract as the checker reads it.
-- Assumes nothing.
use denote.RattleType.{RattleType}
use denote.Param.Laws.{Laws}
use mir.Syntax.{Dict}
use Rattle.outcomes.specs.Outcomes.{OneOutcome}
use Rattle.ttlv_put.proofs.Unique.{wrote_unique}
use Rattle.ttlv_numbers.specs.declared.Number.{Ghosts}
use Rattle.ttlv_numbers.proofs.write_number.Reads as write_number

pub write_number_unique : (N : RattleType) (laws : Laws N) (ghosts : Ghosts N.Denot) (dict : Dict) → OneOutcome (write_number.Post N laws ghosts dict) (λ k s. s.0.now)
write_number_unique N laws ghosts dict κs a r r' s s' p q = wrote_unique p q
