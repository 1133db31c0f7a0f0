-- `record_rules::times_right`. The tests of the values are those of their functions.
-- Assumes nothing.
use mathlib.Core.Path.{refl}
use Rattle.octets.proofs.Bools.{and_cong}
use Rattle.record_rules.specs.Rules.{dates_right, order_right, started_right}
use Rattle.record_rules.specs.Checked.{times_right}
use Rattle.record_rules.proofs.times_right.Goals as goal

pub returns : goal.returns
unfolding times_right dates_right order_right started_right
returns c =
    and_cong (and_cong (and_cong c.not_negative.ensures c.not_negative-2.ensures) c.in_order-order.ensures) refl
