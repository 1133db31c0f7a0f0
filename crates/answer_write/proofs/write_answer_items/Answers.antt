-- `answer_write::write_answer_items`. The operation, then the ID, then the outcome.
-- Assumes nothing.
use native.Mathlib.Omega.{arith}
use Rattle.ttlv_types.specs.Types.{enumeration}
use Rattle.tags.specs.Tags.{operation_tag}
use lib.ListN.{take}
use Rattle.ttlv_put.specs.Write.{join}
use Rattle.answer.specs.Respond.{answer_items, outcome_items}
use Rattle.named_write.proofs.Compose.{puts_word, puts_then}
use Rattle.answer_write.proofs.Parts.{id_join}
use Rattle.answer_write.proofs.write_answer_items.Goals as goal

pub returns : goal.returns
unfolding answer_items join
returns c =
    let a = c.args in
    let operation = puts_word operation_tag enumeration a.operation c.write_number.ensures (omega arith) in
    rw (← id_join (take a.id.len a.id.bytes) (outcome_items a.outcome)) (puts_then (puts_then operation c.write_id-n.ensures) c.write_outcome-m.ensures)
