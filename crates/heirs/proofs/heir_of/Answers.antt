-- `heir_of` meets its contract: the material is that of `material_from`, the state that of `dated_state`.
-- Assumes nothing.
use Rattle.heirs.specs.Heirs.{heir_dated}
use Rattle.heirs.proofs.heir_of.Goals as goal

pub returns : goal.returns
unfolding heir_dated
returns c = rw (c.material_from-material.ensures, c.dated_state-state.ensures)
