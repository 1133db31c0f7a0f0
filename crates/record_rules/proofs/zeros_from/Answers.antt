-- `record_rules::zeros_from`. Each arm is the definition's, by its test on the state.
-- Assumes nothing.
use Prim.Native.Nat.{ℕ, min}
use mathlib.Core.Path.{sym, ap, ◌∙◌}
use Rattle.octets.proofs.If.{ifb_true, ifb_false}
use Rattle.table.specs.Layout.{material_size}
use Rattle.record_rules.specs.Checked.{zeros_from}
use Rattle.record_rules.proofs.zeros_from.Goals as goal

pub returns-then-is_destroyed : goal.returns-then-is_destroyed
unfolding zeros_from
returns-then-is_destroyed c = sym (ap (λ (k : ℕ). min k material_size) (ifb_true _ _ _ (sym c.is_destroyed.ensures ∙ c.if-is_destroyed.true)))

pub returns : goal.returns
unfolding zeros_from
returns c =
    c.fewer.ensures
    ∙ sym (ap (λ (k : ℕ). min k material_size) (ifb_false _ _ _ (sym c.is_destroyed.ensures ∙ c.if-is_destroyed.false)))
