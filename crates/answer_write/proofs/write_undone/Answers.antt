-- `answer_write::write_undone`. The status alone.
-- Assumes nothing.
use native.Mathlib.Omega.{arith}
use Rattle.ttlv_types.specs.Types.{enumeration}
use Rattle.rules.specs.Numbers.{operation_undone}
use Rattle.tags.specs.Tags.{result_status}
use Rattle.answer.specs.Respond.{outcome_items}
use Rattle.named_write.proofs.Compose.{puts_word}
use Rattle.answer_write.proofs.write_undone.Goals as goal

pub returns : goal.returns
unfolding outcome_items
returns c = puts_word result_status enumeration operation_undone c.write_number.ensures (omega arith)
