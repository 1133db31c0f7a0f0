-- `record_rules::serials_right`. The tests compute to the definition's.
-- Assumes nothing.
use mathlib.Core.Path.{refl}
use Rattle.record_rules.specs.Rules.{replaced_right, replacement_right}
use Rattle.record_rules.specs.Checked.{serials_right}
use Rattle.record_rules.proofs.serials_right.Goals as goal

pub returns : goal.returns
unfolding serials_right replaced_right replacement_right
returns c = refl
