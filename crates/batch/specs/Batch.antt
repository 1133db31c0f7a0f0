-- 01, "Message frame": a batch carried out item by item: to its end under Continue, else up to the first item that fails.
-- Assumes nothing. There is no byte of output in it.
use Rattle.std.specs.Prelude.{ℕ, ◌+◌, Bool, not, ◌&&◌, List, [], ◌∷◌, eqb}
use Rattle.octets.specs.If.{ifb}
use Rattle.batch_item.specs.Item.{Asked}
use Rattle.frame.specs.Frame.{Request, continue}
use Rattle.plans.specs.declared.Outcome.{Outcome}
use Rattle.plans.specs.Plans.{Did, empty_holder, env_at, is_failed}
use Rattle.act.specs.Act.{step}
use Rattle.answer.specs.Respond.{Answer}

-- the answers in order, and the table behind them
pub record Ran : Type 0 where
  pub answers : List Answer
  pub table : List ℕ

-- "Operation as given, the ID if given", and what is said of the item
abbrev pub answer_with : Asked → Outcome → Answer
answer_with asked outcome = record { operation = asked.operation; id = asked.id; outcome = outcome }

-- what became of it
abbrev pub answer_to : Asked → Did → Answer
answer_to asked did = answer_with asked did.outcome

-- nothing after this item
abbrev pub lastly : Answer → List ℕ → Ran
lastly answer t = record { answers = answer ∷ []; table = t }

-- this answer in front of the others
abbrev pub firstly : Answer → Ran → Ran
firstly answer ran = record { answers = answer ∷ ran.answers; table = ran.table }

-- "Under Stop nothing after the first failed item is carried out or answered", and no more under Undo: "Items up to and including the failed one are answered"
unfoldable pub ends_batch : ℕ → Did → Bool
ends_batch option did = is_failed did.outcome && not (eqb option continue)

module _ (places : ℕ) (strip : List ℕ) (option : ℕ) where
  -- the items from number i on, with the placeholder and the table that they meet
  unfoldable pub batch : ℕ → ℕ → List ℕ → List Asked → Ran
  batch i holder t [] = record { answers = []; table = t }
  batch i holder t (asked ∷ later) =
      let did = step (env_at places strip i) holder t asked in
      let rest = batch (i + 1) did.holder did.table later in
      ifb (ends_batch option did) (lastly (answer_to asked did) did.table) (firstly (answer_to asked did) rest)

-- the first of the items
abbrev pub first_item : ℕ
first_item = 0

-- the whole batch. "It is empty when a request begins": the placeholder
unfoldable pub running : ℕ → List ℕ → List ℕ → Request → Ran
running places strip t request = batch places strip request.option first_item empty_holder t request.items
