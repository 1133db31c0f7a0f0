-- 02, L8: the answers of a batch that failed under Undo, and what the functions of this crate ask.
-- Assumes nothing. There is no table in it.
use Rattle.std.specs.Prelude.{ℕ, ◌+◌, ◌≤◌, Bool, List, [], ◌∷◌, length, eqb}
use Rattle.octets.specs.If.{ifb}
use Rattle.rules.specs.declared.Reason.{Reason}
use Rattle.batch_item.specs.Item.{Asked}
use Rattle.plans.specs.declared.Outcome.{Outcome}
use Rattle.plans.specs.declared.Outcome.TheVariants.{Failed, Undone}
use Rattle.plans.specs.Plans.{is_failed}
use Rattle.answer.specs.Respond.{Answer}
use Rattle.answer.specs.Front.{longest_item}
use Rattle.batch.specs.Batch.{answer_with, first_item}
use Rattle.batch.specs.Runs.{asked_from, ReadsOne, Reads, answers_most}

-- ---- by what became of the items

-- "those that had succeeded carry status 3 (Operation Undone) and no payload, the failed one its reason"
unfoldable pub or_undone : Outcome → Outcome
or_undone outcome = ifb (is_failed outcome) outcome Undone

abbrev pub undone_to : Answer → Answer
undone_to a = record { operation = a.operation; id = a.id; outcome = or_undone a.outcome }

-- ---- by the request alone, where it is known which item failed

-- what is said of an item of a batch that failed: the reason of the one that failed, and that any other was undone
unfoldable pub said_of : Bool → Reason → Outcome
said_of failed reason = ifb failed (Failed reason) Undone

-- the answers to items, numbered from i on, of which item k failed; nothing is answered behind it
unfoldable pub undone_from : ℕ → ℕ → Reason → List Asked → List Answer
undone_from i k reason [] = []
undone_from i k reason (asked ∷ later) =
    let rest = undone_from (i + 1) k reason later in
    let answer = answer_with asked (said_of (eqb i k) reason) in
    ifb (eqb i k) (answer ∷ []) (answer ∷ rest)

-- the answers to the items that some bytes say
abbrev pub undone_over : ℕ → Reason → List ℕ → List Answer
undone_over k reason items = undone_from first_item k reason (asked_from items)

-- an item that can be answered from the request alone: it was read, and the room is large enough
pub record TellsOne (body out : List ℕ) : Type 0 where
  pub reads : ReadsOne body
  pub room : longest_item ≤ length out

-- and a batch of them
pub record Tells (items out : List ℕ) : Type 0 where
  pub reads : Reads items
  pub fits : answers_most ≤ length out
