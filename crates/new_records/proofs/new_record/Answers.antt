-- `new_record` meets its contract: the material is that of `material_from`.
-- Assumes nothing.
use Rattle.new_records.specs.New.{new_record}
use Rattle.new_records.proofs.new_record.Goals as goal

pub returns : goal.returns
unfolding new_record
returns c = rw c.material_from-material.ensures
