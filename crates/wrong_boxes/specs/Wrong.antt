-- Boxes that 01 and 02 warn of. All but the first refuse as they should, and are wrong where a request is accepted.
-- Each is shown to break the demand that is named above it; which demands it meets is said where that is shown.
-- Assumes nothing.
use Rattle.std.specs.Prelude.{ℕ, ◌+◌, ◌-◌, ◌≡◌, Bool, true, false, not, ◌&&◌, List, [], ◌∷◌, ◌++◌, map, length, take, replicate, leb, ltb, eqb}
use Rattle.std.specs.Prelude.{Option, None, Some}
use Rattle.std.proofs.lemmas.List.Edits.{sets}
use Rattle.octets.specs.If.{ifb}
use Rattle.octets.specs.Octets.{be, over}
use Rattle.table.specs.declared.Record.{Record}
use Rattle.table.specs.Layout.{small_count, large_count, places_ok, places_in}
use Rattle.table.specs.Records.{place_at, state_at, last_serial, latest_clock, with_place, with_clock}
use Rattle.names.specs.Names.{no_name}
use Rattle.search.specs.Search.{is_nothing, is_destroyed, find}
use Rattle.rules.specs.declared.Reason.TheVariants.{InvalidField, ObjectDestroyed, WrongKeyLifecycleState}
use Rattle.rules.specs.Numbers.{active, deactivated, destroyed, get_usage_allocation, reason_number}
use Rattle.changes.specs.Records.{in_state, with_count}
use Rattle.heirs.specs.Heirs.{heir_of}
use Rattle.changes.specs.Changes.{next_serial, with_heir}
use Rattle.changes.specs.Dates.{began}
use Rattle.ttlv.specs.Items.{encode}
use Rattle.batch_item.specs.Item.{Asked}
use Rattle.frame.specs.Frame.{Frame, option_of, continue}
use Rattle.words.specs.Words.{words_size, words_of}
use Rattle.target_read.specs.declared.Target.TheVariants.{Placeholder, Serial}
use Rattle.payload.specs.declared.Command.{Command}
use Rattle.payload.specs.declared.Command.TheVariants.{Unsupported, Invalid, Create, Rekey, GetUsageAllocation, Activate, Revoke, Destroy, GetAttributes, Get, Locate}
use Rattle.payload.specs.Payload.{command}
use Rattle.plans.specs.declared.Key.{Key}
use Rattle.plans.specs.declared.Outcome.{Outcome}
use Rattle.plans.specs.declared.Outcome.TheVariants.{Failed, Created, Done, Showed, Got, Located, Undone}
use Rattle.answer.specs.Respond.{Answer, respond}
use Rattle.calls.specs.Effects.{Effect}
use Rattle.batch.specs.Batch.{Ran, running}
use Rattle.settle.specs.Undo.{settled, kept_in}
use Rattle.engine.specs.Serving.{turned_away, serving}
use Rattle.demands.specs.Box.{Call, Box, Lent, places_of, counted}
use Rattle.demands.specs.Demand2.{frame_of, refusal_conditions, lowest}
use Rattle.demands.specs.Log.{Event, items_asked, events_of, onto, logged, granted}
use Rattle.demands.specs.Demand3.{Run, Stands, named_by, takes, Path, Opens}

-- ---- what they do

-- the refusal that is due, or else what the box does
unfoldable pub or_refused : Call → Effect → Effect
or_refused c e = ifb (eqb (lowest 1 (refusal_conditions c)) 0) e (turned_away c.table c.output c.undo (lowest 1 (refusal_conditions c)))

-- what a call should leave
abbrev pub rightly : Call → Effect
rightly c = serving c.request c.table c.strip c.clock c.output c.undo

-- the table that the first item should meet
abbrev pub begun_by : Call → List ℕ
begun_by c = began (places_of c) (counted c) c.table

-- what the second buffer should hold behind an accepted call
unfoldable pub kept_by : Call → Option Frame → List ℕ
kept_by c None = c.undo
kept_by c (Some f) = kept_in (option_of f.header.option) (begun_by c) c.undo

-- these answers under a Time Stamp, and this table; the second buffer as it should be
abbrev pub stamping : ℕ → Call → List Answer → List ℕ → Effect
stamping clock c answers t = record {
  number = 0;
  length = length (encode (respond (record { clock = clock; answers = answers })));
  table = t;
  output = over (encode (respond (record { clock = clock; answers = answers }))) c.output;
  undo = kept_by c (frame_of c);
}

-- under that of the clock that counts
abbrev pub responding : Call → List Answer → List ℕ → Effect
responding c answers t = stamping (counted c) c answers t

-- the batch of a call, run under an option
unfoldable pub ran_under : (ℕ → ℕ) → Call → Option Frame → Ran
ran_under option c None = record { answers = []; table = begun_by c }
ran_under option c (Some f) = running (places_of c) c.strip (begun_by c) (record { option = option (option_of f.header.option); items = f.items })

-- what should be left of it under its own option
unfoldable pub left_under : Call → Option Frame → Ran
left_under c None = record { answers = []; table = begun_by c }
left_under c (Some f) = settled (option_of f.header.option) (begun_by c) (ran_under (λ option. option) c (Some f))

-- an outcome with another table
unfoldable pub with_table : (List ℕ → List ℕ) → Effect → Effect
with_table change e = record { number = e.number; length = e.length; table = change e.table; output = e.output; undo = e.undo }

-- a box that answers as it should, and leaves the table that is made of the call and of the table that it should leave. It meets demand 1
abbrev pub Leaves : (Call → List ℕ → List ℕ) → Box
Leaves made c e = e ≡ or_refused c (with_table (made c) (rightly c))

-- an outcome with another second buffer
unfoldable pub with_second : (List ℕ → List ℕ) → Effect → Effect
with_second change e = record { number = e.number; length = e.length; table = e.table; output = e.output; undo = change e.undo }

-- ---- a box that demand 1 shuts out

-- "every buffer untouched": it does all as it should, but fills the second buffer with zeros where it refuses
abbrev pub WipesSecond : Box
WipesSecond c e = e ≡ ifb (eqb (rightly c).number 0) (rightly c) (with_second (λ held. replicate (length held) 0) (rightly c))

-- ---- a box that demand 1 shuts out

-- "it always ends with an answer": a box that never does
abbrev pub NeverEnds : Box
NeverEnds c e = ⊥

-- ---- boxes that demand 2 shuts out

-- 02, L8, "what it holds after an accepted request with option 3": it does all as it should, but leaves the second buffer as it was. It meets demands 1 and 3
abbrev pub ForgetsSecond : Box
ForgetsSecond c e = e ≡ with_second (λ due. c.undo) (rightly c)

-- 02, L7, "The lead's place count may be 64 or 256": it does all as it should, but refuses every table of 256 places with 3
abbrev pub RefusesLarge : Box
RefusesLarge c e = e ≡ ifb (eqb (places_of c) large_count) (turned_away c.table c.output c.undo 3) (rightly c)

-- 02, L6, Locate "answers the one identifier": it does all as it should, but takes whatever a Locate found for identifier 00000001
unfoldable pub first_for : Outcome → Outcome
first_for (Failed reason) = Failed reason
first_for (Created serial) = Created serial
first_for (Done serial) = Done serial
first_for (Showed shown) = Showed shown
first_for (Got key) = Got key
first_for (Located serial) = Located (ifb (eqb serial 0) 0 1)
first_for Undone = Undone

abbrev pub first_answer : Answer → Answer
first_answer a = record { operation = a.operation; id = a.id; outcome = first_for a.outcome }

abbrev pub LocatesFirst : Box
LocatesFirst c e = e ≡ or_refused c (responding c (map first_answer (left_under c (frame_of c)).answers) (left_under c (frame_of c)).table)

-- 00, "a module with the wrong filter time signs as genuine": it does all as it should, but every key that it hands out has the bytes of the key at place 0
unfoldable pub other_for : List ℕ → Outcome → Outcome
other_for bytes (Failed reason) = Failed reason
other_for bytes (Created serial) = Created serial
other_for bytes (Done serial) = Done serial
other_for bytes (Showed shown) = Showed shown
other_for bytes (Got key) = Got (record { serial = key.serial; bits = key.bits; material = words_of bytes })
other_for bytes (Located serial) = Located serial
other_for bytes Undone = Undone

abbrev pub other_answer : List ℕ → Answer → Answer
other_answer bytes a = record { operation = a.operation; id = a.id; outcome = other_for bytes a.outcome }

abbrev pub HandsOther : Box
HandsOther c e =
    e ≡ or_refused c (responding c (map (other_answer (place_at small_count (left_under c (frame_of c)).table 0).material) (left_under c (frame_of c)).answers) (left_under c (frame_of c)).table)

-- the record without its name
unfoldable pub unnamed : Record → Record
unnamed r = record {
  serial = r.serial;
  state = r.state;
  unit = r.unit;
  bits = r.bits;
  replaced = r.replaced;
  replacement = r.replacement;
  total = r.total;
  count = r.count;
  mask = r.mask;
  material = r.material;
  activation = r.activation;
  deactivation = r.deactivation;
  name = no_name;
}

-- "Create takes it as last attribute": it answers as it should, and the key at place 0 loses its name
abbrev pub LosesName : Box
LosesName = Leaves (λ c due. with_place (places_of c) due 0 (unnamed (place_at (places_of c) due 0)))

-- "a box that refuses everything": number 1, whatever comes. It meets demands 1 and 3
abbrev pub RefusesAll : Box
RefusesAll c e = e ≡ turned_away c.table c.output c.undo 1

-- a box that "does nothing": it says that it answered, and leaves everything as it was. It meets demands 1 and 3
abbrev pub DoesNothing : Box
DoesNothing c e = e ≡ or_refused c (turned_away c.table c.output c.undo 0)

-- "due items must succeed and alter the record": it answers as it should, and leaves the table as it was
abbrev pub LeavesTable : Box
LeavesTable = Leaves (λ c due. c.table)

-- an item that is failed, whatever it asks for
abbrev pub failed_answer : Asked → Answer
failed_answer asked = record { operation = asked.operation; id = asked.id; outcome = Failed InvalidField }

-- every item failed: all under Continue, the first alone under Stop and Undo
unfoldable pub all_failed : Option Frame → List Answer
all_failed None = []
all_failed (Some f) = ifb (eqb (option_of f.header.option) continue) (map failed_answer f.items) (take 1 (map failed_answer f.items))

-- a box that fails every item
abbrev pub FailsAll : Box
FailsAll c e = e ≡ or_refused c (responding c (all_failed (frame_of c)) (begun_by c))

-- "One answer for all": the same bytes for every accepted request, whatever it does to the table
abbrev pub SameAnswer : List ℕ → (Call → List ℕ) → Box
SameAnswer bytes table_of c e = e ≡ or_refused c (record { number = 0; length = length bytes; table = table_of c; output = over bytes c.output; undo = kept_by c (frame_of c) })

-- "A box that executes the whole batch at its first item and answers that one alone"
abbrev pub AnswersFirst : Box
AnswersFirst c e = e ≡ or_refused c (responding c (take 1 (left_under c (frame_of c)).answers) (left_under c (frame_of c)).table)

-- "under Stop the table shows nothing past a failure": it runs every item, and answers as under Stop
abbrev pub RunsPastStop : Box
RunsPastStop = Leaves (λ c due. (ran_under (λ option. continue) c (frame_of c)).table)

-- the record with the material of another
unfoldable pub with_material_of : Record → Record → Record
with_material_of other r = in_state r.state other.material r

-- a box that leaves the key at place 0 with the material of the key at place 1
abbrev pub SharesMaterial : Box
SharesMaterial = Leaves (λ c due. with_place small_count due 0 (with_material_of (place_at small_count due 1) (place_at small_count due 0)))

-- "A clock earlier than the latest seen counts as the latest .. in the Time Stamp": it does all as it should, and stamps the clock that it was given
abbrev pub StampsGiven : Box
StampsGiven c e = e ≡ or_refused c (stamping c.clock c (left_under c (frame_of c)).answers (left_under c (frame_of c)).table)

-- ---- boxes that demands 2 and 3 shut out

-- 02, L8, "the table after the request is the table before it": it answers as it should, and leaves what the items of an undone batch did
abbrev pub KeepsUndone : Box
KeepsUndone = Leaves (λ c due. (ran_under (λ option. option) c (frame_of c)).table)

-- "those that had succeeded carry status 3 (Operation Undone)": it leaves the table that it should, and answers the items of an undone batch as they went
abbrev pub SaysDone : Box
SaysDone c e = e ≡ or_refused c (responding c (ran_under (λ option. option) c (frame_of c)).answers (left_under c (frame_of c)).table)

-- 02, L7, "the table's size follows from it": it answers as it should, and says 256 places in the lead of what it leaves
unfoldable pub saying_places : ℕ → List ℕ → List ℕ
saying_places n t = sets t places_in (be 4 n)

abbrev pub SaysLarge : Box
SaysLarge = Leaves (λ c due. saying_places large_count due)

-- a box that leaves a table that it refuses changed: it says 256 places in the lead
abbrev pub WritesRefused : Box
WritesRefused c e = e ≡ ifb (eqb (rightly c).number 0) (rightly c) (with_table (saying_places large_count) (rightly c))

-- it does all as it should, but gives every answer twice over, so that half of them have no item
abbrev pub AnswersTwice : Box
AnswersTwice c e = e ≡ or_refused c (responding c ((left_under c (frame_of c)).answers ++ (left_under c (frame_of c)).answers) (left_under c (frame_of c)).table)

-- what a Locate found, taken for an identifier seven above it
unfoldable pub above_for : Outcome → Outcome
above_for (Failed reason) = Failed reason
above_for (Created serial) = Created serial
above_for (Done serial) = Done serial
above_for (Showed shown) = Showed shown
above_for (Got key) = Got key
above_for (Located serial) = Located (serial + 7)
above_for Undone = Undone

abbrev pub above_answer : Answer → Answer
above_answer a = record { operation = a.operation; id = a.id; outcome = above_for a.outcome }

-- it does all as it should, but answers a Locate with an identifier that nobody was given
abbrev pub LocatesNobody : Box
LocatesNobody c e = e ≡ or_refused c (responding c (map above_answer (left_under c (frame_of c)).answers) (left_under c (frame_of c)).table)

-- "Records neither addressed, newly linked nor taken over stay": it answers as it should, and from clock 2 on the key at place 0 loses its name, whatever is asked
abbrev pub ForgetsOther : Box
ForgetsOther = Leaves (λ c due. ifb (leb 2 c.clock) (with_place (places_of c) due 0 (unnamed (place_at (places_of c) due 0))) due)

-- ---- boxes that demand 3 shuts out

-- a table that units of a destroyed key were taken off, and whether they were
pub record Spent : Type 0 where
  pub table : List ℕ
  pub done : Bool

unfoldable pub spent_at : ℕ → List ℕ → ℕ → Option ℕ → Spent
spent_at n t amount None = record { table = t; done = false }
spent_at n t amount (Some i) =
    let r = place_at n t i in
    ifb (is_destroyed r.state && leb amount r.count) (record { table = with_place n t i (with_count (r.count - amount) r); done = true }) (record { table = t; done = false })

-- units that are asked for by identifier, and were refused for the key's state
unfoldable pub spent_for : ℕ → List ℕ → Command → Outcome → Spent
spent_for n t (GetUsageAllocation (Serial x) amount) (Failed reason) =
    let spent = spent_at n t amount (find n t x) in ifb (eqb (reason_number reason) (reason_number WrongKeyLifecycleState)) spent (record { table = t; done = false })
spent_for n t (GetUsageAllocation (Serial x) amount) (Created serial) = record { table = t; done = false }
spent_for n t (GetUsageAllocation (Serial x) amount) (Done serial) = record { table = t; done = false }
spent_for n t (GetUsageAllocation (Serial x) amount) (Showed shown) = record { table = t; done = false }
spent_for n t (GetUsageAllocation (Serial x) amount) (Got key) = record { table = t; done = false }
spent_for n t (GetUsageAllocation (Serial x) amount) (Located serial) = record { table = t; done = false }
spent_for n t (GetUsageAllocation (Serial x) amount) Undone = record { table = t; done = false }
spent_for n t (GetUsageAllocation Placeholder amount) o = record { table = t; done = false }
spent_for n t Unsupported o = record { table = t; done = false }
spent_for n t Invalid o = record { table = t; done = false }
spent_for n t (Create wanted) o = record { table = t; done = false }
spent_for n t (Rekey target _) o = record { table = t; done = false }
spent_for n t (Activate target) o = record { table = t; done = false }
spent_for n t (Revoke target code) o = record { table = t; done = false }
spent_for n t (Destroy target) o = record { table = t; done = false }
spent_for n t (GetAttributes target) o = record { table = t; done = false }
spent_for n t (Get target) o = record { table = t; done = false }
spent_for n t (Locate name) o = record { table = t; done = false }

-- a batch that ran as it should, with these units granted and taken off behind it, one item after the other
unfoldable pub spending : ℕ → List ℕ → List Asked → List Answer → Ran
spending n t [] answers = record { answers = []; table = t }
spending n t (asked ∷ items) [] = record { answers = []; table = t }
spending n t (asked ∷ items) (a ∷ answers) =
    let c = command asked.operation asked.payload in
    let spent = spent_for n t c a.outcome in
    let later = spending n spent.table items answers in
    record { answers = record { operation = a.operation; id = a.id; outcome = ifb spent.done (Done (named_by 0 c)) a.outcome } ∷ later.answers; table = later.table }

-- what is left of it
abbrev pub spent_of : Call → Ran
spent_of c = let ran = left_under c (frame_of c) in spending (places_of c) ran.table (items_asked c) ran.answers

-- "stay dead": it does all as it should, but grants units of a destroyed key, and takes them off its count, so that grants and count still add up
abbrev pub GrantsDead : Box
GrantsDead c e = e ≡ or_refused c (responding c (spent_of c).answers (spent_of c).table)

-- "an invented usage count": it answers as it should, and fills the count of place 0 up again
unfoldable pub refilled : List ℕ → List ℕ
refilled t = with_place small_count t 0 (with_count (place_at small_count t 0).total (place_at small_count t 0))

abbrev pub InventsCount : Box
InventsCount = Leaves (λ c due. refilled due)

-- an item takes the place where x stands, in the table u of n places that it meets
pub record TakesFrom (n x : ℕ) (taker : Event) (u : List ℕ) : Type 0 where
  pub place : ℕ
  pub stood : Stands n x u place
  pub taken : takes n taker u place ≡ true

-- a box that grants units in the batch in which the place was taken: in a call of a run on a table of either count, some item takes the place where x stands, wherever the items before it
-- may have led, and behind the call x has other units than it had then
pub record GrantsTaken (B : Box) : Type 0 where
  pub places : ℕ
  pub some_count : places_ok places ≡ true
  pub log : List Event
  pub t : List ℕ
  pub run : Run places B log t
  pub c : Call
  pub e : Effect
  pub same : c.table ≡ t
  pub lent : Lent c
  pub left : B c e
  pub before : List Event
  pub taker : Event
  pub later : List Event
  pub events_are : events_of c e ≡ before ++ (taker ∷ later)
  pub x : ℕ
  pub known : x ≡ 0 → ⊥
  pub taken : (start u : List ℕ) → Opens places c e.number start → Path places log start before u → TakesFrom places x taker u
  pub more : granted x (logged c e log) ≡ granted x (onto before log) → ⊥

-- whether an item asks units for an identifier that was issued and does not stand in the table t
unfoldable pub asks_for_gone : List ℕ → Asked → Bool
asks_for_gone t asked =
    let x = named_by 0 (command asked.operation asked.payload) in
    eqb asked.operation get_usage_allocation && not (eqb x 0) && leb x (last_serial t) && is_nothing (find small_count t x)

-- the answers, but that such an item is answered with the identifier that it names
unfoldable pub regranted : List ℕ → List Asked → List Answer → List Answer
regranted t [] answers = []
regranted t (asked ∷ items) [] = []
regranted t (asked ∷ items) (a ∷ answers) =
    let x = named_by 0 (command asked.operation asked.payload) in
    record { operation = a.operation; id = a.id; outcome = ifb (asks_for_gone t asked) (Done x) a.outcome } ∷ regranted t items answers

-- what a call leaves if the batch ran so
abbrev pub regranting : Call → Ran → Effect
regranting c ran = responding c (regranted ran.table (items_asked c) ran.answers) ran.table

-- "Once a newer object has taken the place, that identifier is granted nothing more": a box that does all as it should, but forgets this one thing.
-- Units that are asked for an identifier that was issued, and whose record does not stand behind the batch, are granted
abbrev pub Regrants : Box
Regrants c e = e ≡ or_refused c (regranting c (left_under c (frame_of c)))

-- the key of identifier x, whatever its bytes
abbrev pub some_key : ℕ → Key
some_key x = record { serial = x; bits = 128; material = words_of (replicate words_size 0) }

-- a Get by identifier that fails with Object Destroyed is answered with a key all the same
unfoldable pub undead_for : ℕ → Outcome → Outcome
undead_for x (Failed reason) = ifb (eqb (reason_number reason) (reason_number ObjectDestroyed)) (Got (some_key x)) (Failed reason)
undead_for x (Created serial) = Created serial
undead_for x (Done serial) = Done serial
undead_for x (Showed shown) = Showed shown
undead_for x (Got key) = Got key
undead_for x (Located serial) = Located serial
undead_for x Undone = Undone

unfoldable pub undead : Command → Outcome → Outcome
undead Unsupported o = o
undead Invalid o = o
undead (Create wanted) o = o
undead (Rekey target _) o = o
undead (GetUsageAllocation target amount) o = o
undead (Activate target) o = o
undead (Revoke target code) o = o
undead (Destroy target) o = o
undead (GetAttributes target) o = o
undead (Locate name) o = o
undead (Get Placeholder) o = o
undead (Get (Serial x)) o = undead_for x o

unfoldable pub handing_out : List Asked → List Answer → List Answer
handing_out [] answers = []
handing_out (asked ∷ items) [] = []
handing_out (asked ∷ items) (a ∷ answers) =
    record { operation = a.operation; id = a.id; outcome = undead (command asked.operation asked.payload) a.outcome } ∷ handing_out items answers

-- a box that "hands out a destroyed key": it runs as it should under Continue, and answers a Get of a destroyed key with a key
abbrev pub HandsDead : Box
HandsDead c e = e ≡ or_refused c (responding c (handing_out (items_asked c) (left_under c (frame_of c)).answers) (left_under c (frame_of c)).table)

-- the key at place 0 made Active
unfoldable pub woken : List ℕ → List ℕ
woken t = with_place small_count t 0 (in_state active (place_at small_count t 0).material (place_at small_count t 0))

-- "wakes a destroyed key": where place 0 was in state 5 before the call, it is Active after it
abbrev pub Wakes : Box
Wakes = Leaves (λ c due. ifb (eqb (state_at c.table 0) destroyed) (woken due) due)

-- it answers that a key is destroyed, and leaves it Active: where place 0 should be left in state 5, it is Active
abbrev pub LeavesAlive : Box
LeavesAlive = Leaves (λ c due. ifb (eqb (state_at due 0) destroyed) (woken due) due)

-- a clock that turns back: it answers as it should, and stores the clock that it was given, so that what has come looks not yet come
abbrev pub StoresGiven : Box
StoresGiven = Leaves (λ c due. with_clock due c.clock)

-- and so it does: where the key at place 0 is Deactivated, and its deactivation date lies after the clock that was given, it is Active again
abbrev pub Revives : Box
Revives = Leaves (λ c due. ifb (eqb (state_at due 0) deactivated && ltb c.clock (place_at small_count due 0).deactivation) (woken due) due)

-- the table with a replacement of the record that was found, if one was and it is destroyed
unfoldable pub renewed_at : ℕ → List ℕ → Option ℕ → Option ℕ → Spent
renewed_at n t _ None = record { table = t; done = false }
renewed_at n t offset (Some i) =
    let r = place_at n t i in
    ifb (is_destroyed r.state) (record { table = with_heir n t i (heir_of (next_serial t) (latest_clock t) offset r []); done = true }) (record { table = t; done = false })

-- a Re-key by identifier that was refused, since the key is destroyed
unfoldable pub renewed_for : ℕ → List ℕ → Command → Outcome → Spent
renewed_for n t (Rekey (Serial x) offset) (Failed reason) =
    let renewed = renewed_at n t offset (find n t x) in ifb (eqb (reason_number reason) (reason_number ObjectDestroyed)) renewed (record { table = t; done = false })
renewed_for n t (Rekey (Serial x) _) (Created serial) = record { table = t; done = false }
renewed_for n t (Rekey (Serial x) _) (Done serial) = record { table = t; done = false }
renewed_for n t (Rekey (Serial x) _) (Showed shown) = record { table = t; done = false }
renewed_for n t (Rekey (Serial x) _) (Got key) = record { table = t; done = false }
renewed_for n t (Rekey (Serial x) _) (Located serial) = record { table = t; done = false }
renewed_for n t (Rekey (Serial x) _) Undone = record { table = t; done = false }
renewed_for n t (Rekey Placeholder _) o = record { table = t; done = false }
renewed_for n t Unsupported o = record { table = t; done = false }
renewed_for n t Invalid o = record { table = t; done = false }
renewed_for n t (Create wanted) o = record { table = t; done = false }
renewed_for n t (GetUsageAllocation target amount) o = record { table = t; done = false }
renewed_for n t (Activate target) o = record { table = t; done = false }
renewed_for n t (Revoke target code) o = record { table = t; done = false }
renewed_for n t (Destroy target) o = record { table = t; done = false }
renewed_for n t (GetAttributes target) o = record { table = t; done = false }
renewed_for n t (Get target) o = record { table = t; done = false }
renewed_for n t (Locate name) o = record { table = t; done = false }

-- a batch that ran as it should, with these replacements made behind it, one item after the other
unfoldable pub renewing : ℕ → List ℕ → List Asked → List Answer → Ran
renewing n t [] answers = record { answers = []; table = t }
renewing n t (asked ∷ items) [] = record { answers = []; table = t }
renewing n t (asked ∷ items) (a ∷ answers) =
    let renewed = renewed_for n t (command asked.operation asked.payload) a.outcome in
    let later = renewing n renewed.table items answers in
    record { answers = record { operation = a.operation; id = a.id; outcome = ifb renewed.done (Done (next_serial t)) a.outcome } ∷ later.answers; table = later.table }

abbrev pub renewed_of : Call → Ran
renewed_of c = let ran = left_under c (frame_of c) in renewing (places_of c) ran.table (items_asked c) ran.answers

-- Re-key, "destroyed: Object Destroyed": it does all as it should, but replaces a destroyed key, with its whole total anew
abbrev pub RenewsDead : Box
RenewsDead c e = e ≡ or_refused c (responding c (renewed_of c).answers (renewed_of c).table)
