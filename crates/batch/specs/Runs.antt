-- What the functions of a batch ask and answer, over the bytes that its items stand in.
-- Assumes nothing.
use Rattle.std.specs.Prelude.{ℕ, ◌*◌, ◌≤◌, ◌≡◌, true, List, [], length}
use Rattle.std.specs.Prelude.{Option, None, Some}
use Rattle.octets.specs.Maybe.{is_some}
use Rattle.ttlv.specs.Items.{nil, group, encode}
use Rattle.ttlv.specs.Tree.{is_run, tree_of}
use Rattle.ttlv_put.specs.Write.{Holds}
use Rattle.table.specs.Layout.{Table}
use Rattle.tags.specs.Tags.{batch_item}
use Rattle.batch_item.specs.Item.{Asked, item_in, items_in}
use Rattle.batch_item.specs.Readers.{id_of}
use Rattle.frame.specs.Frame.{batch_most}
use Rattle.payload.specs.Payload.{command}
use Rattle.plans.specs.Plans.{Did, empty_holder, is_failed, leaves}
use Rattle.act.specs.Act.{performing}
use Rattle.answer.specs.Respond.{Answer, answer_items, batch_items}
use Rattle.answer.specs.Front.{longest_item}
use Rattle.batch.specs.declared.Carried.{Carried}
use Rattle.batch.specs.declared.ItemDone.{ItemDone}
use Rattle.batch.specs.declared.BatchDone.{BatchDone}
use Rattle.batch.specs.Batch.{Ran, answer_to, first_item, batch}
use Rattle.calls.specs.Effects.{strip_size}

-- ---- one item

-- an item that was read; one with nothing in it where none was
unfoldable pub asked_or : Option Asked → Asked
asked_or None = record { operation = 0; id = []; payload = nil }
asked_or (Some asked) = asked

-- the item that the bytes of a batch item's body say
abbrev pub asked_in : List ℕ → Asked
asked_in body = asked_or (item_in (tree_of body))

-- the body of a batch item that was read
pub record ReadsOne (body : List ℕ) : Type 0 where
  pub run : is_run body ≡ true
  pub read : is_some (item_in (tree_of body)) ≡ true

-- what an item does on a table of n places, with its part of the strip and a placeholder
abbrev pub doing : ℕ → Asked → List ℕ → ℕ → List ℕ → Did
doing n asked fresh holder t = performing n fresh holder t (command asked.operation asked.payload)

-- an item that can be carried out: it was read, and the table has its size
pub record CarriesOne (n : ℕ) (body t : List ℕ) : Type 0 where
  pub reads : ReadsOne body
  pub table : Table n t

-- one item carried out: what became of it, and its operation and ID as given
pub record CarriedIs (n : ℕ) (asked : Asked) (t fresh : List ℕ) (holder : ℕ) (r : Carried) (t' : List ℕ) : Type 0 where
  pub did : leaves r.performed t' ≡ doing n asked fresh holder t
  pub operation : r.operation ≡ asked.operation
  pub id : r.id ≡ id_of asked.id

-- an item that can be carried out and answered: the room is large enough
pub record RunsOne (n : ℕ) (body t out : List ℕ) : Type 0 where
  pub carries : CarriesOne n body t
  pub room : longest_item ≤ length out

-- one answer as bytes
abbrev pub answer_bytes : Answer → List ℕ
answer_bytes a = encode (group batch_item (answer_items a) nil)

-- one item carried out and answered
pub record ItemIs (n : ℕ) (asked : Asked) (t fresh : List ℕ) (holder : ℕ) (out : List ℕ) (r : ItemDone) (t' out' : List ℕ) : Type 0 where
  pub failed : r.failed ≡ is_failed (doing n asked fresh holder t).outcome
  pub held : r.holder ≡ (doing n asked fresh holder t).holder
  pub table : t' ≡ (doing n asked fresh holder t).table
  pub few : r.used ≤ longest_item
  pub bytes : Holds (answer_bytes (answer_to asked (doing n asked fresh holder t))) out out' r.used

-- ---- a batch

-- the items that were read; none where none were
unfoldable pub asked_all : Option (List Asked) → List Asked
asked_all None = []
asked_all (Some items) = items

-- the items that the bytes of a run of batch items say
abbrev pub asked_from : List ℕ → List Asked
asked_from items = asked_all (items_in (tree_of items))

-- a run of batch items that was read, of at most 16
pub record Reads (items : List ℕ) : Type 0 where
  pub run : is_run items ≡ true
  pub read : is_some (items_in (tree_of items)) ≡ true
  pub few : length (asked_from items) ≤ batch_most

-- a batch that can be carried out: it was read, and table and strip have their sizes
pub record Carries (n : ℕ) (items t fresh : List ℕ) : Type 0 where
  pub reads : Reads items
  pub table : Table n t
  pub strip : length fresh ≡ strip_size

-- and answered in so much room
pub record RunsIn (n room : ℕ) (items t fresh out : List ℕ) : Type 0 where
  pub carries : Carries n items t fresh
  pub fits : room ≤ length out

-- the room of the answers to 16 items
abbrev pub answers_most : ℕ
answers_most = batch_most * longest_item

abbrev pub Runs : ℕ → List ℕ → List ℕ → List ℕ → List ℕ → Type 0
Runs n items t fresh out = RunsIn n answers_most items t fresh out

-- answers as bytes in lent room: how many, and the bytes that they take
pub record AnswersAre (answers : List Answer) (out : List ℕ) (r : BatchDone) (out' : List ℕ) : Type 0 where
  pub count : r.count ≡ length answers
  pub most : r.used ≤ answers_most
  pub bytes : Holds (encode (batch_items answers)) out out' r.used

-- a batch carried out and answered
pub record RanIs (ran : Ran) (out : List ℕ) (r : BatchDone) (t' out' : List ℕ) : Type 0 where
  pub table : t' ≡ ran.table
  pub answers : AnswersAre ran.answers out r out'

-- the batch of the items that some bytes say, on a table of n places
abbrev pub ran_over : ℕ → List ℕ → List ℕ → ℕ → List ℕ → Ran
ran_over n items strip option t = batch n strip option first_item empty_holder t (asked_from items)
