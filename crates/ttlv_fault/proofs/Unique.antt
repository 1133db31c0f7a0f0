-- No second answer meets the contract, as the checker reads it.
-- Assumes nothing.
use mathlib.Core.Path.{sym, ◌∙◌}
use Rattle.outcomes.specs.Outcomes.{OneAnswer}
use Rattle.ttlv_fault.proofs.first_fault.Reads as reads

pub first_fault_unique : OneAnswer reads.Post
first_fault_unique κs a x y s t p q = p ∙ sym q
