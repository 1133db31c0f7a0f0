-- No second answer meets the contract of a function of this crate, as the checker reads the contract.
-- Assumes nothing.
use mathlib.Core.Path.{sym, ◌∙◌}
use Rattle.outcomes.specs.Outcomes.{OneAnswer}
use Rattle.new_records.proofs.material_from.Reads as material_from_reads
use Rattle.new_records.proofs.new_record.Reads as new_record_reads

pub material_from_unique : OneAnswer material_from_reads.Post
material_from_unique κs a r r' s s' p q = p ∙ sym q

pub new_record_unique : OneAnswer new_record_reads.Post
new_record_unique κs a r r' s s' p q = p ∙ sym q
