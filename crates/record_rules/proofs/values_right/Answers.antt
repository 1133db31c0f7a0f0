-- `record_rules::values_right`. The tests are the definition's, in its order.
-- Assumes nothing.
use Rattle.record_rules.specs.Rules.{state_right, bits_right, mask_right, name_right, name_text_right}
use Rattle.record_rules.specs.Checked.{values_right}
use Rattle.record_rules.proofs.values_right.Goals as goal

pub returns : goal.returns
unfolding values_right state_right bits_right mask_right name_right name_text_right
returns c =
    rw (c.bits_ok.ensures, c.mask_ok.ensures, c.limit_right.ensures, c.shape_right.ensures, c.text_right.ensures)
