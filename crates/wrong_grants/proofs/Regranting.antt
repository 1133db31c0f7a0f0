-- A box that grants units to an identifier whose place was taken in the same batch, and is right but for this: where 64 keys stand, one batch destroys the first,
-- creates another, which takes its place, and asks units for the first.
-- Assumes nothing. What is computed is the reading of one response.
use Rattle.std.specs.Prelude.{Option, None, Some, Ok}
use Prim.Native.Nat.{ℕ, zero, suc, ◌+◌, ◌<◌}
use native.Mathlib.Omega.{arith}
use native.Mathlib.Decide.{ℕ_discrete}
use mathlib.Core.Path.{◌≡◌, refl, sym, ap, ap₂, subst, ◌∙◌}
use mathlib.Core.Bool.{Bool, true, false, not, ◌&&◌, ◌||◌, true≢false}
use mathlib.Core.List.{List, [], ◌∷◌, ◌++◌}
use lib.Dec.{leb, eqb, lit<}
use Rattle.octets.specs.If.{ifb}
use Rattle.octets.specs.Octets.{counted_from}
use Rattle.octets.proofs.If.{ifb_true, ifb_false}
use Rattle.octets.proofs.Bools.{and_no, or_l}
use Rattle.table.specs.declared.Record.{Record}
use Rattle.table.specs.Layout.{small_count}
use Rattle.table.specs.Records.{place_at, with_place, serial_at, state_at, last_serial, latest_clock}
use Rattle.table.proofs.Places.{state_is}
use Rattle.search.specs.Search.{is_nothing, find, new_place, is_destroyed}
use Rattle.search.proofs.First.{At-same}
use Rattle.search.proofs.Finds.{find_is, none_find}
use Rattle.soundness.specs.Checked.{is_at}
use Rattle.rules.specs.declared.Reason.TheVariants.{ObjectNotFound}
use Rattle.rules.specs.Numbers.{get_usage_allocation, destroy}
use Rattle.rules.specs.Tests.{due}
use Rattle.rules.specs.States.{next_state}
use Rattle.changes.specs.Records.{moved_to, with_dates, in_state}
use Rattle.new_records.specs.New.{new_record}
use Rattle.changes.specs.Changes.{is_full, next_serial}
use Rattle.keeps.proofs.Stores.{Stored, other_serial, here_serial}
use Rattle.keeps.proofs.Keeps.{Held, keeps_moved}
use Rattle.keeps.proofs.Leaves.{Born, moved_leaves}
use Rattle.keeps.proofs.Dates.{began_latest}
use Rattle.batch_item.specs.Item.{Asked}
use Rattle.frame.specs.Frame.{option_of}
use Rattle.target_read.specs.declared.Target.TheVariants.{Serial}
use Rattle.payload.specs.declared.Command.{Command}
use Rattle.payload.specs.declared.Command.TheVariants.{GetUsageAllocation, Destroy}
use Rattle.payload.specs.Payload.{command}
use Rattle.plans.specs.declared.Outcome.{Outcome}
use Rattle.plans.specs.declared.Outcome.TheVariants.{Failed, Created, Done}
use Rattle.plans.specs.Plans.{Did, failing, destroy_plan, allocation_plan, is_failed}
use Rattle.act.specs.Act.{sought, on_found, step}
use Rattle.answer.specs.Respond.{Answer}
use Rattle.calls.specs.Effects.{Effect}
use Rattle.batch.specs.Batch.{Ran, answer_to, firstly, batch, running}
use Rattle.demands.specs.Box.{Call, counted}
use Rattle.demands.specs.Demand2.{frame_of}
use Rattle.demands.specs.Log.{Event, command_of, or_no_items, or_no_answers, held_after, paired, events_of, onto, logged, issued_by, grant_by, granted}
use Rattle.demands.specs.Demand3.{Run, named_by, names, takes, moves_state, is_made, code_of, listed, listed_by, Tame, DueOnly, Path, arrived, went, Demand3}
use Rattle.demands_met.proofs.Logged.{granted_more}
use Rattle.demands_met.proofs.Follows.{opens_due, due_serial}
use Rattle.wrong_boxes.specs.Wrong.{stamping, responding, left_under, ran_under, TakesFrom, GrantsTaken, asks_for_gone, regranted, regranting, Regrants}
use Rattle.cases.proofs.Cases.{opened}
use Rattle.wrong_boxes.proofs.Calling.{calling_on, lent_on, accepted_is}
use Rattle.wrong_grants.proofs.Granting.{grants_taken}
use Rattle.wrong_boxes.proofs.Filling.{wanted, own, grown, has_room, grown_born, first_key, Filled, begun_at, filled_begun, takes_first}
use Rattle.wrong_grants.proofs.Reaching.{create_item, create_request, take_request, frame_or, frame_from, item_at, create_asked, destroy_asked, grant_asked, take_read, create_command, destroy_command, grant_command, counted_one, ran_small, accepted_on, take_accepted, take_bytes, take_option, never_undone, batch_last, batch_on, decided, planned, created, create_step, reached}

-- ---- the last call, on a full table

-- the first key, destroyed
abbrev dead_key : Record
dead_key = moved_to destroy 0 1 5 first_key

destroy_next : next_state destroy 0 1 ≡ Ok 5
unfolding opened
destroy_next = refl

-- on the table that its first item meets, whose latest clock is 1
module _ (t : List ℕ) (f : Filled 64 t) (now : latest_clock t ≡ 1) where
  first_is : place_at small_count t 0 ≡ first_key
  first_is = f.first (omega arith)

  -- the Destroy
  first_found : find small_count t 1 ≡ Some 0
  first_found = find_is small_count t 1 0 (λ z. omega arith) (lit< tt) (f.serials 0 (lit< tt)) (λ j h. absurd (omega arith))

  abbrev emptied : List ℕ
  emptied = with_place small_count t 0 dead_key

  abbrev destroyed : Did
  destroyed = record { outcome = Done 1; table = emptied; holder = 0 }

  destroy_step : step (own 0) 0 t destroy_asked ≡ destroyed
  unfolding opened decided
  destroy_step =
      planned 0 0 t destroy_asked (Destroy (Serial 1)) destroy_command
      ∙ ap (λ (found : Option ℕ). decided t (on_found (own 0) 0 t (destroy_plan (own 0) 0 t) found)) first_found
      ∙ ap (λ (r : Record). decided t (destroy_plan (own 0) 0 t 0 r)) first_is
      ∙ ap (λ (clock : ℕ). record { outcome = Done 1; table = with_place small_count t 0 (moved_to destroy 0 clock 5 first_key); holder = 0 }) now

  first_stands : serial_at t 0 ≡ 0 → ⊥
  first_stands z = omega (arith, f.serials 0 (lit< tt))

  first_dies : next_state destroy 0 (place_at small_count t 0).state ≡ Ok 5
  unfolding new_record
  first_dies = ap (λ (r : Record). next_state destroy 0 r.state) first_is ∙ destroy_next

  emptied_stored : Stored small_count t 0 dead_key (last_serial t) emptied
  emptied_stored =
      subst (λ (clock : ℕ). Stored small_count t 0 (moved_to destroy 0 clock 5 first_key) (last_serial t) (with_place small_count t 0 (moved_to destroy 0 clock 5 first_key))) now
      (subst (λ (r : Record). Stored small_count t 0 (moved_to destroy 0 (latest_clock t) 5 r) (last_serial t) (with_place small_count t 0 (moved_to destroy 0 (latest_clock t) 5 r))) first_is
      (moved_leaves small_count t f.held 0 (lit< tt) first_stands destroy 0 5 first_dies))

  emptied_held : Held small_count emptied
  emptied_held =
      subst (λ (clock : ℕ). Held small_count (with_place small_count t 0 (moved_to destroy 0 clock 5 first_key))) now
      (subst (λ (r : Record). Held small_count (with_place small_count t 0 (moved_to destroy 0 (latest_clock t) 5 r))) first_is
      (keeps_moved small_count t f.held 0 (lit< tt) first_stands destroy 0 5 first_dies refl))

  emptied_serials : (i : ℕ) → i < small_count → serial_at emptied i ≡ i + 1
  unfolding new_record moved_to with_dates in_state
  emptied_serials zero h = here_serial small_count t 0 _ _ _ emptied_stored
  emptied_serials (suc i) h = other_serial small_count t 0 _ _ _ emptied_stored (suc i) h (λ e. omega arith) ∙ f.serials (suc i) h

  emptied_last : last_serial emptied ≡ 64
  emptied_last = emptied_stored.issued ∙ f.last

  -- the Create takes its place
  emptied_due : new_place small_count emptied ≡ Some 0
  unfolding new_record moved_to with_dates in_state
  emptied_due = takes_first emptied emptied_serials (ap is_destroyed (state_is small_count emptied 0 ∙ ap (λ (r : Record). r.state) emptied_stored.here))

  emptied_room : is_full small_count emptied ≡ false
  emptied_room = has_room emptied 0 emptied_due (λ e. omega (arith, emptied_last))

  abbrev after : List ℕ
  after = grown 1 emptied

  after_born : Born small_count emptied (new_record (next_serial emptied) wanted (own 1).fresh) after
  after_born = grown_born 1 emptied emptied_held (omega arith) emptied_room

  after_here : after_born.place ≡ 0
  after_here = At-same (sym after_born.due ∙ emptied_due)

  after_serials : (i : ℕ) → i < small_count → serial_at after i ≡ 1 → ⊥
  unfolding new_record
  after_serials zero h e = omega (arith, e, ap (serial_at after) after_here, here_serial small_count emptied after_born.place _ _ _ after_born.stored, emptied_last)
  after_serials (suc i) h e =
      omega (arith, e, other_serial small_count emptied after_born.place _ _ _ after_born.stored (suc i) h (λ q. omega (arith, q, after_here)), emptied_serials (suc i) h)

  after_last : last_serial after ≡ 65
  unfolding new_record
  after_last = after_born.stored.issued ∙ ap (λ (s : ℕ). s + 1) emptied_last

  -- so that the first key is not found
  gone : find small_count after 1 ≡ None
  gone = none_find small_count after 1 after_serials

  grant_step : step (own 2) (next_serial emptied) after grant_asked ≡ failing after ObjectNotFound
  unfolding opened decided
  grant_step =
      planned 2 (next_serial emptied) after grant_asked (GetUsageAllocation (Serial 1) 5) grant_command
      ∙ ap (λ (found : Option ℕ). decided after (on_found (own 2) (next_serial emptied) after (allocation_plan (own 2) (next_serial emptied) after 5) found)) gone

  -- what is due
  abbrev ran_rightly : Ran
  ran_rightly = record { answers = answer_to destroy_asked destroyed ∷ answer_to create_asked (created 1 emptied) ∷ answer_to grant_asked (failing after ObjectNotFound) ∷ []; table = after }

  take_ran : (option : ℕ) → batch small_count (counted_from 0 512) option 0 0 t (destroy_asked ∷ create_asked ∷ grant_asked ∷ []) ≡ ran_rightly
  unfolding is_failed
  take_ran option =
      batch_on option 0 0 t destroy_asked destroyed destroy_step (create_asked ∷ grant_asked ∷ []) refl
      ∙ ap (firstly (answer_to destroy_asked destroyed)) (batch_on option 1 0 emptied create_asked (created 1 emptied) (create_step 1 0 emptied emptied_room) (grant_asked ∷ []) refl)
      ∙ ap (λ (r : Ran). firstly (answer_to destroy_asked destroyed) (firstly (answer_to create_asked (created 1 emptied)) r))
      (batch_last option 2 (next_serial emptied) after grant_asked (failing after ObjectNotFound) grant_step)

-- ---- what the box answers

-- an item with what is answered
abbrev answered : Asked → Outcome → Answer
answered asked outcome = record { operation = asked.operation; id = asked.id; outcome = outcome }

abbrev event : ℕ → Asked → Outcome → Event
event held asked outcome = record { held = held; asked = asked; answer = answered asked outcome }

-- the three answers
abbrev answering : Outcome → Outcome → Outcome → List Answer
answering a b c = answered destroy_asked a ∷ answered create_asked b ∷ answered grant_asked c ∷ []

answering_same : {a b c x y z : Outcome} → a ≡ x → b ≡ y → c ≡ z → answering a b c ≡ answering x y z
answering_same {c = c} {x = x} {y = y} p q r = ap₂ (λ (o o' : Outcome). answering o o' c) p q ∙ ap (answering x y) r

abbrev taken_answers : List Answer
taken_answers = answering (Done 1) (Created 65) (Done 1)

abbrev destroy_event : Event
destroy_event = event 0 destroy_asked (Done 1)

abbrev create_event : Event
create_event = event 0 create_asked (Created 65)

abbrev grant_event : Event
grant_event = event 65 grant_asked (Done 1)

destroy_operation : destroy_asked.operation ≡ destroy
unfolding opened create_item take_request frame_or frame_from item_at destroy_asked
destroy_operation = refl

create_operation : create_asked.operation ≡ 1
unfolding opened create_item create_request frame_or frame_from item_at create_asked
create_operation = refl

grant_operation : grant_asked.operation ≡ get_usage_allocation
unfolding opened create_item take_request frame_or frame_from item_at grant_asked
grant_operation = refl

-- an item of another operation asks for no units
other_asks : (t : List ℕ) (asked : Asked) → eqb asked.operation get_usage_allocation ≡ false → asks_for_gone t asked ≡ false
unfolding asks_for_gone
other_asks t asked h = and_no _ _ (and_no _ _ (and_no _ _ h))

-- Destroy leads from 1 to 5 alone
dies : (state : ℕ) → listed destroy 0 1 state ≡ true → eqb state 5 ≡ true
unfolding listed
dies state h = go (eqb state 5) h
  where
    go : (b : Bool) → (b || false || false) ≡ true → b ≡ true
    go true e = refl
    go false e = e

-- a path of one item is its tame step
one_step : {log : List Event} {t u : List ℕ} {ev : Event} → Path small_count log t (ev ∷ []) u → Tame small_count ev t u
one_step (went ev u tame after arrived) = tame

-- the table u that the first item meets, and the one that the batch leaves
module _ (u : List ℕ) (f : Filled 64 u) (now : latest_clock u ≡ 1) where
  abbrev left : List ℕ
  left = after u f now

  asks_gone : asks_for_gone left grant_asked ≡ true
  unfolding asks_for_gone named_by sought is_nothing
  asks_gone =
      ap₂ (λ (o x : ℕ). eqb o get_usage_allocation && not (eqb x 0) && leb x (last_serial left) && is_nothing (find small_count left x)) grant_operation (ap (named_by 0) grant_command)
      ∙ ap₂ (λ (last : ℕ) (found : Option ℕ). leb 1 last && is_nothing found) (after_last u f now) (gone u f now)

  -- Destroy and Create are answered as is due
  destroy_answer : ifb (asks_for_gone left destroy_asked) (Done (named_by 0 (command destroy_asked.operation destroy_asked.payload))) (Done 1) ≡ Done 1
  destroy_answer = ifb_false _ _ _ (other_asks left destroy_asked (ap (λ (o : ℕ). eqb o get_usage_allocation) destroy_operation))

  create_answer : ifb (asks_for_gone left create_asked) (Done (named_by 0 (command create_asked.operation create_asked.payload))) (Created (next_serial (emptied u f now))) ≡ Created 65
  create_answer =
      ifb_false _ _ _ (other_asks left create_asked (ap (λ (o : ℕ). eqb o get_usage_allocation) create_operation))
      ∙ ap (λ (last : ℕ). Created (last + 1)) (emptied_last u f now)

  -- and the units are granted
  grant_answer : ifb (asks_for_gone left grant_asked) (Done (named_by 0 (command grant_asked.operation grant_asked.payload))) (Failed ObjectNotFound) ≡ Done 1
  unfolding named_by sought
  grant_answer = ifb_true _ _ _ asks_gone ∙ ap (λ (c : Command). Done (named_by 0 c)) grant_command

  regranted_is : regranted left (destroy_asked ∷ create_asked ∷ grant_asked ∷ []) (ran_rightly u f now).answers ≡ taken_answers
  unfolding regranted
  regranted_is = answering_same destroy_answer create_answer grant_answer

-- ---- the call

module _ (log : List Event) (t : List ℕ) (run : Run small_count Regrants log t) (f : Filled 64 t) where
  abbrev take_call : Call
  take_call = calling_on t take_request 1

  -- the table that its first item should meet
  abbrev opening : List ℕ
  opening = begun_at t

  full : Filled 64 opening
  full = filled_begun 64 t f (omega arith)

  now_one : latest_clock opening ≡ 1
  now_one = began_latest small_count t f.held 1 f.latest (omega arith)

  abbrev take_left : Effect
  take_left = responding take_call taken_answers (left opening full now_one)

  ran : left_under take_call (frame_of take_call) ≡ ran_rightly opening full now_one
  unfolding frame_of left_under ran_under running
  ran =
      let option = option_of (frame_from take_request).header.option in
      ap (left_under take_call) take_read
      ∙ never_undone option _ _ take_option
      ∙ ran_small 64 t take_request f option (destroy_asked ∷ create_asked ∷ grant_asked ∷ [])
      ∙ take_ran opening full now_one option

  take_left_lem : Regrants take_call take_left
  unfolding or_no_items
  take_left_lem =
      ap (λ (answers : List Answer). responding take_call answers (left opening full now_one))
      (sym (ap (λ (items : List Asked). regranted (left opening full now_one) items (ran_rightly opening full now_one).answers) (ap or_no_items take_read) ∙ regranted_is opening full now_one))
      ∙ ap (regranting take_call) (sym ran)
      ∙ accepted_is take_call _ (accepted_on take_request t f.held.right take_accepted)

  -- the log of it
  events_one : events_of take_call (stamping 1 take_call taken_answers (left opening full now_one)) ≡ (destroy_event ∷ []) ++ (create_event ∷ grant_event ∷ [])
  unfolding opened create_item create_request take_request frame_or frame_from item_at create_asked destroy_asked grant_asked events_of paired held_after or_no_items or_no_answers
  events_one = refl

  take_events : events_of take_call take_left ≡ (destroy_event ∷ []) ++ (create_event ∷ grant_event ∷ [])
  take_events = ap (λ (clock : ℕ). events_of take_call (stamping clock take_call taken_answers (left opening full now_one))) (counted_one 64 t take_request f) ∙ events_one

  -- however the call may open, the first key waits in its place
  module _ (start : List ℕ) (due : DueOnly small_count (counted take_call) t start) where
    start_serials : (i : ℕ) → i < small_count → serial_at start i ≡ i + 1
    start_serials i l = due_serial t start due i l ∙ f.serials i l

    not_listed : (to : ℕ) → listed_by (counted take_call) first_key to ≡ false
    unfolding listed_by new_record
    not_listed to = refl

    start_state : (place_at small_count start 0).state ≡ 1
    unfolding new_record
    start_state =
        let was : place_at small_count t 0 ≡ first_key = f.first (omega arith) in
        elim (ℕ_discrete (place_at small_count start 0).state (place_at small_count t 0).state) [
          | yes e ↦ e ∙ ap (λ (r : Record). r.state) was
          | no e ↦ absurd (true≢false (sym (due.moves 0 (lit< tt) e) ∙ ap (λ (r : Record). listed_by (counted take_call) r (place_at small_count start 0).state) was ∙ not_listed _))
        ]

    -- and wherever the Destroy may have led, the Create takes its place
    module _ (u : List ℕ) (tame : Tame small_count destroy_event start u) where
      untaken : (i : ℕ) → takes small_count destroy_event start i ≡ false
      unfolding issued_by
      untaken i = and_no _ _ (ap (λ (c : Command). not (eqb (issued_by c (Done 1)) 0)) destroy_command)

      kept_serials : (i : ℕ) → i < small_count → serial_at u i ≡ i + 1
      kept_serials i l = tame.kept i l (untaken i) ∙ start_serials i l

      start_found : find small_count start 1 ≡ Some 0
      start_found = find_is small_count start 1 0 (λ z. omega arith) (lit< tt) (start_serials 0 (lit< tt)) (λ j h. absurd (omega arith))

      first_named : names small_count destroy_event start 0 ≡ true
      unfolding named_by sought is_at
      first_named = ap (λ (c : Command). is_at 0 (find small_count start (named_by 0 c))) destroy_command ∙ ap (is_at 0) start_found

      first_dead : is_destroyed (state_at u 0) ≡ true
      unfolding is_made moves_state code_of
      first_dead =
          let way = tame.obeys 0 (lit< tt) first_named refl (ap moves_state destroy_command) in
          let same = ap₂ (λ (o : ℕ) (c : Command). listed o (code_of c) (place_at small_count start 0).state (place_at small_count u 0).state) destroy_operation destroy_command in
          let from = ap (λ (state : ℕ). listed destroy 0 state (place_at small_count u 0).state) start_state in
          or_l _ _ (ap (λ (s : ℕ). eqb s 5) (state_is small_count u 0) ∙ dies (place_at small_count u 0).state (sym from ∙ sym same ∙ way))

      takes_from : TakesFrom small_count 1 create_event u
      unfolding issued_by is_at
      takes_from = record {
        place = 0;
        stood = record { below = lit< tt; serial = kept_serials 0 (lit< tt) };
        taken = ap₂ (λ (c : Command) (found : Option ℕ). not (eqb (issued_by c (Created 65)) 0) && is_at 0 found) create_command (takes_first u kept_serials first_dead);
      }

  -- 5 units more
  more_units : granted 1 (logged take_call take_left log) ≡ granted 1 (destroy_event ∷ log) → ⊥
  unfolding logged onto grant_by ifb
  more_units e =
      omega (arith, e, ap (λ (events : List Event). granted 1 (onto events log)) take_events, granted_more 1 grant_event (create_event ∷ destroy_event ∷ log), granted_more 1 create_event (destroy_event ∷ log), five)
    where
      five : grant_by 1 (command_of grant_event) (Done 1) ≡ 5
      five = ap (λ (c : Command). grant_by 1 c (Done 1)) grant_command

  grants_first : GrantsTaken Regrants
  unfolding onto
  grants_first = record {
    places = small_count;
    some_count = refl;
    log = log;
    t = t;
    run = run;
    c = take_call;
    e = take_left;
    same = refl;
    lent = lent_on t take_request 1 f.held.bytes take_bytes (lit< tt);
    left = take_left_lem;
    before = destroy_event ∷ [];
    taker = create_event;
    later = grant_event ∷ [];
    events_are = take_events;
    x = 1;
    known = λ z. omega arith;
    taken = λ start u o p. takes_from start (opens_due o refl) u (one_step p);
    more = more_units;
  }

-- the box does it
pub regrants_taken : GrantsTaken Regrants
regrants_taken = let r = reached 64 (omega arith) in grants_first r.log r.table r.run r.filled

-- so it does not meet demand 3
pub regrants : Demand3 Regrants → ⊥
regrants d = grants_taken Regrants regrants_taken d
