-- What a writer of answers deals in: the answer to an item.
-- Assumes nothing.
use Rattle.std.specs.Prelude.{ℕ, take}
use Rattle.batch_item.specs.declared.ItemId.{ItemId}
use Rattle.plans.specs.declared.Outcome.{Outcome}
use Rattle.answer.specs.Respond.{Answer}

-- the answer to an item with this operation and this ID
abbrev pub answer_of : ℕ → ItemId → Outcome → Answer
answer_of operation id outcome = record { operation = operation; id = take id.len id.bytes; outcome = outcome }
