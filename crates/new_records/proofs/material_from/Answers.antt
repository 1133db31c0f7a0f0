-- `material_from` meets its contract: the bytes that are there are filled up.
-- Assumes nothing.
use mathlib.Core.Path.{sym, ◌∙◌}
use native.Mathlib.Omega.{arith}
use lib.Seq.{length-take-le}
use Rattle.new_records.proofs.Material.{material_filled}
use Rattle.new_records.proofs.material_from.Goals as goal

pub slice_bounds-fill-end : goal.slice_bounds-fill-end
slice_bounds-fill-end c = sym (length-take-le _ _ (omega arith))

pub returns : goal.returns
returns c =
    let a = c.args in
    c.fill.ensures ∙ material_filled a.bits a.fresh.now c.fewer-end.result c.fewer-end.ensures
