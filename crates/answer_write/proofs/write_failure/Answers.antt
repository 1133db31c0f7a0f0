-- `answer_write::write_failure`. The status, and the reason behind it.
-- Assumes nothing.
use native.Mathlib.Omega.{arith}
use mathlib.Core.Path.{◌≡◌}
use Rattle.ttlv_types.specs.Types.{enumeration}
use Rattle.rules.specs.Numbers.{reason_number, operation_failed}
use Rattle.tags.specs.Tags.{result_status, result_reason}
use Rattle.ttlv_put.specs.Write.{join}
use Rattle.answer.specs.Respond.{outcome_items}
use Rattle.named_write.proofs.Compose.{puts_word, then_word}
use Rattle.answer_write.proofs.write_failure.Goals as goal

pub returns : goal.returns
unfolding outcome_items join
returns c =
    let a = c.args in
    let status = puts_word result_status enumeration operation_failed c.write_number.ensures (omega arith) in
    let number : c.reason_number.result ≡ reason_number a.reason = c.reason_number.ensures in
    rw (← number) (then_word status result_reason enumeration c.reason_number.result c.write_number-2.ensures (omega arith))
