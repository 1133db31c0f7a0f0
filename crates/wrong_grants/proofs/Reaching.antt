-- A run of a box that grants units to an identifier whose place was taken, up to a table of 64 keys: each call of it creates one.
-- Assumes nothing. The run is reached by laws; what is computed is the reading of two requests.
use Prim.Native.Nat.{ℕ, zero, suc, ◌+◌, ◌≤◌, ◌<◌}
use native.Mathlib.Nat.{max-eq_left}
use native.Mathlib.Omega.{arith}
use mathlib.Core.Path.{◌≡◌, refl, sym, ap, ap₂, ◌∙◌}
use mathlib.Core.Bool.{Bool, true, false}
use Rattle.std.specs.Prelude.{Option, None, Some}
use mathlib.Core.List.{List, [], ◌∷◌, ◌++◌}
use lib.ListN.{length}
use lib.Dec.{eqb, lit<}
use borrow.Author.Tests.{eq-eqb}
use Rattle.hex_digits.specs.Texts.{hex}
use Rattle.octets.specs.If.{ifb}
use Rattle.octets.specs.Octets.{all, counted_from}
use Rattle.octets.specs.Maybe.{◌>>=◌}
use Rattle.octets.proofs.If.{ifb_false, on_if}
use Rattle.octets.proofs.Bools.{and_no}
use Rattle.ttlv.specs.Items.{nil}
use Rattle.ttlv.specs.Parse.{message}
use Rattle.table.specs.Layout.{small_count}
use Rattle.table.specs.Records.{places_said, blank}
use Rattle.soundness.specs.Sound.{sound}
use Rattle.place_counts.proofs.Counts.{right_of, blank_right}
use Rattle.keeps.proofs.Keeps.{facts}
use Rattle.rules.specs.declared.Reason.TheVariants.{ServerLimitExceeded, NonUniqueName}
use Rattle.rules.specs.Tests.{due}
use Rattle.changes.specs.Changes.{is_full, next_serial}
use Rattle.changes.specs.Dates.{began}
use Rattle.batch_item.specs.Item.{Asked}
use Rattle.frame.specs.Frame.{Frame, frame_in, option_of, undo}
use Rattle.target_read.specs.declared.Target.TheVariants.{Serial}
use Rattle.payload.specs.declared.Command.{Command}
use Rattle.payload.specs.declared.Command.TheVariants.{Create, GetUsageAllocation, Destroy}
use Rattle.payload.specs.Payload.{command}
use Rattle.plans.specs.declared.Outcome.TheVariants.{Created}
use Rattle.plans.specs.Plans.{Did, Plan, carried, create_plan, is_failed}
use Rattle.act.specs.Act.{plan, step}
use Rattle.calls.specs.Effects.{Effect}
use Rattle.batch.specs.Batch.{Ran, answer_to, lastly, firstly, ends_batch, batch, running}
use Rattle.settle.specs.Undo.{settled}
use Rattle.demands.specs.Box.{Call, counted}
use Rattle.demands.specs.Demand2.{frame_of, of_frame, refusal_conditions, lowest}
use Rattle.demands.specs.Log.{Event, logged}
use Rattle.demands.specs.Demand3.{Run, begins, calls}
use Rattle.wrong_boxes.specs.Wrong.{left_under, ran_under, regranting, Regrants}
use Rattle.cases.proofs.Cases.{opened}
use Rattle.wrong_boxes.proofs.Calling.{is_byte, calling_on, calling, lent_on, accepted_is}
use Rattle.wrong_boxes.proofs.Filling.{wanted, wanted_free, own, grown, Filled, filled_blank, filled_room, filled_more, begun_at, filled_begun}

-- ---- the requests

unfoldable pub create_item : List ℕ
create_item = hex "42000F01 00000088 42005C05 00000004 00000001 00000000 42007901 00000070 42005705 00000004 00000002 00000000 42012501 00000058 42002805 00000004 00000003 00000000 42002A02 00000004 00000080 00000000 42002C02 00000004 00000004 00000000 42009501 00000020 42009703 00000008 00000000 00000064 42009805 00000004 00000002 00000000"

-- one Create
unfoldable pub create_request : List ℕ
create_request = hex "42007801 000000D0 42007701 00000038 42006901 00000020 42006A02 00000004 00000002 00000000 42006B02 00000004 00000001 00000000 42000D02 00000004 00000001 00000000" ++ create_item

-- Destroy of identifier 00000001, Create, and 5 units asked for 00000001
unfoldable pub take_request : List ℕ
take_request =
    hex "42007801 00000140 42007701 00000038 42006901 00000020 42006A02 00000004 00000002 00000000 42006B02 00000004 00000001 00000000 42000D02 00000004 00000003 00000000 42000F01 00000028 42005C05 00000004 00000014 00000000 42007901 00000010 42009407 00000008 30303030 30303031"
    ++ (create_item
    ++ hex "42000F01 00000038 42005C05 00000004 00000011 00000000 42007901 00000020 42009407 00000008 30303030 30303031 42009603 00000008 00000000 00000005")

-- the frame that a request is
unfoldable pub frame_or : Option Frame → Frame
frame_or None = record { header = record { major = 0; minor = 0; option = None; count = 0 }; items = [] }
frame_or (Some f) = f

unfoldable pub frame_from : List ℕ → Frame
frame_from request = frame_or (message request >>= frame_in)

unfoldable pub item_at : ℕ → List Asked → Asked
item_at i [] = record { operation = 0; id = []; payload = nil }
item_at zero (asked ∷ later) = asked
item_at (suc i) (asked ∷ later) = item_at i later

unfoldable pub create_asked : Asked
create_asked = item_at 0 (frame_from create_request).items

unfoldable pub destroy_asked : Asked
destroy_asked = item_at 0 (frame_from take_request).items

unfoldable pub grant_asked : Asked
grant_asked = item_at 2 (frame_from take_request).items

-- they are read so
create_read : (message create_request >>= frame_in) ≡ Some (record { header = (frame_from create_request).header; items = create_asked ∷ [] })
unfolding opened create_item create_request frame_or frame_from item_at create_asked
create_read = refl

pub take_read : (message take_request >>= frame_in) ≡ Some (record { header = (frame_from take_request).header; items = destroy_asked ∷ create_asked ∷ grant_asked ∷ [] })
unfolding opened create_item create_request take_request frame_or frame_from item_at create_asked destroy_asked grant_asked
take_read = refl

pub create_command : command create_asked.operation create_asked.payload ≡ Create wanted
unfolding opened create_item create_request frame_or frame_from item_at create_asked
create_command = refl

pub destroy_command : command destroy_asked.operation destroy_asked.payload ≡ Destroy (Serial 1)
unfolding opened create_item take_request frame_or frame_from item_at destroy_asked
destroy_command = refl

pub grant_command : command grant_asked.operation grant_asked.payload ≡ GetUsageAllocation (Serial 1) 5
unfolding opened create_item take_request frame_or frame_from item_at grant_asked
grant_command = refl

-- ---- a call on any sound table

pub accepted_on : (request t : List ℕ) → sound small_count t ≡ true → lowest 1 (refusal_conditions (calling request 1)) ≡ 0 → lowest 1 (refusal_conditions (calling_on t request 1)) ≡ 0
unfolding refusal_conditions frame_of
accepted_on request t right e = rw (right_of t small_count refl right ∙ sym (blank_right small_count refl), same_size t ∙ sym (same_size (blank small_count))) e
  where
    -- the second buffer is as large as the table
    same_size : (s : List ℕ) → eqb (length s) (length s) ≡ true
    same_size s = eq-eqb (length s) (length s) refl

create_accepted : lowest 1 (refusal_conditions (calling create_request 1)) ≡ 0
unfolding opened create_item create_request frame_of of_frame refusal_conditions lowest
create_accepted = refl

pub take_accepted : lowest 1 (refusal_conditions (calling take_request 1)) ≡ 0
unfolding opened create_item take_request frame_of of_frame refusal_conditions lowest
take_accepted = refl

create_bytes : all is_byte create_request ≡ true
unfolding opened is_byte create_item create_request
create_bytes = refl

pub take_bytes : all is_byte take_request ≡ true
unfolding opened is_byte create_item take_request
take_bytes = refl

-- ---- batches

-- neither asks for option 3, under which alone a batch is undone
create_option : eqb (option_of (frame_from create_request).header.option) undo ≡ false
unfolding opened create_item create_request frame_or frame_from
create_option = refl

pub take_option : eqb (option_of (frame_from take_request).header.option) undo ≡ false
unfolding opened create_item take_request frame_or frame_from
take_option = refl

pub never_undone : (option : ℕ) (start : List ℕ) (ran : Ran) → eqb option undo ≡ false → settled option start ran ≡ ran
unfolding settled
never_undone option start ran h = ifb_false _ _ _ (and_no (eqb option undo) _ h)

module _ (option i holder : ℕ) (t : List ℕ) (asked : Asked) (did : Did) (is : step (own i) holder t asked ≡ did) where
  abbrev pub behind : List Asked → Ran
  behind later = batch small_count (counted_from 0 512) option (i + 1) did.holder did.table later

  -- the batch goes on with what is given for what the item did
  turned : (later : List Asked)
      → batch small_count (counted_from 0 512) option i holder t (asked ∷ later)
      ≡ ifb (ends_batch option did) (lastly (answer_to asked did) did.table) (firstly (answer_to asked did) (behind later))
  unfolding batch
  turned later =
      ap (λ (d : Did). ifb (ends_batch option d) (lastly (answer_to asked d) d.table)
      (firstly (answer_to asked d) (batch small_count (counted_from 0 512) option (i + 1) d.holder d.table later))) is

  pub batch_last : batch small_count (counted_from 0 512) option i holder t (asked ∷ []) ≡ lastly (answer_to asked did) did.table
  unfolding batch
  batch_last = turned [] ∙ on_if (λ (r : Ran). r ≡ lastly (answer_to asked did) did.table) (λ h. refl) (λ h. refl)

  pub batch_on : (later : List Asked) → is_failed did.outcome ≡ false → batch small_count (counted_from 0 512) option i holder t (asked ∷ later) ≡ firstly (answer_to asked did) (behind later)
  unfolding ends_batch
  batch_on later h = turned later ∙ ifb_false _ _ _ (and_no (is_failed did.outcome) _ h)

-- ---- the items

-- a plan as its tests decide
unfoldable pub decided : List ℕ → Plan → Did
decided t p = carried t p.did (due p.tests)

pub planned : (i holder : ℕ) (t : List ℕ) (asked : Asked) (c : Command) → command asked.operation asked.payload ≡ c → step (own i) holder t asked ≡ decided t (plan (own i) holder t c)
unfolding step decided
planned i holder t asked c e = ap (λ (x : Command). decided t (plan (own i) holder t x)) e

-- what a Create leaves
abbrev pub created : ℕ → List ℕ → Did
created i t = record { outcome = Created (next_serial t); table = grown i t; holder = next_serial t }

pub create_step : (i holder : ℕ) (t : List ℕ) → is_full small_count t ≡ false → step (own i) holder t create_asked ≡ created i t
unfolding decided plan create_plan due carried ifb
create_step i holder t room =
    planned i holder t create_asked (Create wanted) create_command
    ∙ ap₂ (λ (taken full : Bool). carried t (created i t) (ifb taken (Some NonUniqueName) (ifb full (Some ServerLimitExceeded) None))) (wanted_free t) room

-- ---- the run

abbrev create_call : List ℕ → Call
create_call t = calling_on t create_request 1

-- the clock that counts is 1 all along
pub counted_one : (k : ℕ) (t request : List ℕ) → Filled k t → counted (calling_on t request 1) ≡ 1
counted_one k t request f = max-eq_left f.latest

-- and its places are those of a small table
pub ran_small : (k : ℕ) (t request : List ℕ) → Filled k t → (option : ℕ) (items : List Asked)
    → batch (places_said t) (counted_from 0 512) option 0 0 (began (places_said t) (counted (calling_on t request 1)) t) items ≡ batch small_count (counted_from 0 512) option 0 0 (begun_at t) items
ran_small k t request f option items =
    ap₂ (λ (n clock : ℕ). batch n (counted_from 0 512) option 0 0 (began n clock t) items) (facts small_count t f.held).count (counted_one k t request f)

create_ran : (k : ℕ) (t : List ℕ) → Filled k t → is_full small_count (begun_at t) ≡ false
    → left_under (create_call t) (frame_of (create_call t)) ≡ lastly (answer_to create_asked (created 0 (begun_at t))) (grown 0 (begun_at t))
unfolding frame_of left_under ran_under running
create_ran k t f room =
    let option = option_of (frame_from create_request).header.option in
    ap (left_under (create_call t)) create_read
    ∙ never_undone option _ _ create_option
    ∙ ran_small k t create_request f option (create_asked ∷ [])
    ∙ batch_last option 0 0 (begun_at t) create_asked (created 0 (begun_at t)) (create_step 0 0 (begun_at t) room)

-- what the box leaves of it
abbrev create_left : List ℕ → Effect
create_left t = regranting (create_call t) (lastly (answer_to create_asked (created 0 (begun_at t))) (grown 0 (begun_at t)))

create_left_lem : (k : ℕ) (t : List ℕ) → Filled k t → is_full small_count (begun_at t) ≡ false → Regrants (create_call t) (create_left t)
create_left_lem k t f room =
    ap (regranting (create_call t)) (sym (create_ran k t f room))
    ∙ accepted_is (create_call t) _ (accepted_on create_request t f.held.right create_accepted)

-- a run that leaves k keys
pub record Reached (k : ℕ) : Type 0 where
  pub log : List Event
  pub table : List ℕ
  pub run : Run small_count Regrants log table
  pub filled : Filled k table

pub reached : (k : ℕ) → k ≤ small_count → Reached k
reached zero h = record { log = []; table = blank small_count; run = begins; filled = filled_blank }
reached (suc k) h =
    let r = reached k (omega arith) in
    let t = r.table in
    let open_table = filled_begun k t r.filled (omega arith) in
    let room = filled_room k (begun_at t) open_table (omega arith) in
    record {
      log = logged (create_call t) (create_left t) r.log;
      table = grown 0 (begun_at t);
      run = calls (create_call t) (create_left t) r.run refl (lent_on t create_request 1 r.filled.held.bytes create_bytes (lit< tt)) (create_left_lem k t r.filled room);
      filled = filled_more k (begun_at t) open_table (omega arith);
    }
