-- Demand 3: "keys are counted and stay dead".
-- Assumes nothing. Take a blank table and any run of calls, accepted or refused, with nobody else writing to the table between them.
-- Each call goes item by item: what one item may do to the records, and what holds between any two items, is said here without saying what an item does.
use Rattle.std.specs.Prelude.{Option, None, Some}
use Rattle.std.specs.Prelude.{ℕ, ◌+◌, ◌≤◌, ◌<◌, ◌≡◌, ◌⊎◌, Bool, true, false, not, ◌&&◌, ◌||◌, List, [], ◌∷◌, length, replicate, eqb}
use Rattle.table.specs.Layout.{places_ok, material_size}
use Rattle.table.specs.declared.Record.{Record}
use Rattle.table.specs.Records.{place_at, serial_at, is_free, last_serial, latest_clock, blank}
use Rattle.search.specs.Search.{find, new_place, is_destroyed}
use Rattle.soundness.specs.Sound.{sound}
use Rattle.soundness.specs.Checked.{is_at}
use Rattle.rules.specs.Numbers.{activate, revoke, destroy, pre_active, active}
use Rattle.rules.specs.States.{is_compromise}
use Rattle.date_rules.specs.Dates.{has_come, dated_state}
use Rattle.changes.specs.Records.{in_state}
use Rattle.heirs.specs.Heirs.{heir_activation, heir_deactivation}
use Rattle.names.specs.declared.Name.{Name}
use Rattle.names.specs.Names.{no_name}
use Rattle.octets.specs.If.{ifb}
use Rattle.payload.specs.declared.Command.{Command}
use Rattle.payload.specs.declared.Command.TheVariants.{Unsupported, Invalid, Create, Rekey, GetUsageAllocation, Activate, Revoke, Destroy, GetAttributes, Get, Locate}
use Rattle.plans.specs.declared.Outcome.{Outcome}
use Rattle.plans.specs.declared.Outcome.TheVariants.{Failed, Created, Done, Showed, Got, Located, Undone}
use Rattle.act.specs.Act.{sought}
use Rattle.plans.specs.declared.Key.{Key}
use Rattle.plans.specs.Plans.{is_failed, key_of}
use Rattle.calls.specs.Effects.{Effect}
use Rattle.demands.specs.Box.{Call, Box, Lent, counted}
use Rattle.demands.specs.Log.{Event, command_of, items_asked, answers_given, events_of, logged, issued_by, issued, grant_by, granted, limit, heir_from, handed_by, was_destroyed, handed_dead}

-- ---- what one item names and moves

-- the serial that a command names, by its identifier or by the placeholder; 0 where it names none
unfoldable pub named_by : ℕ → Command → ℕ
named_by holder Unsupported = 0
named_by holder Invalid = 0
named_by holder (Create wanted) = 0
named_by holder (Rekey target _) = sought holder target
named_by holder (GetUsageAllocation target amount) = sought holder target
named_by holder (Activate target) = sought holder target
named_by holder (Revoke target code) = sought holder target
named_by holder (Destroy target) = sought holder target
named_by holder (GetAttributes target) = sought holder target
named_by holder (Get target) = sought holder target
named_by holder (Locate name) = 0

-- whether the operation of an item is one that there is, and its payload reads as that of its operation
unfoldable pub is_understood : Command → Bool
is_understood Unsupported = false
is_understood Invalid = false
is_understood (Create wanted) = true
is_understood (Rekey target _) = true
is_understood (GetUsageAllocation target amount) = true
is_understood (Activate target) = true
is_understood (Revoke target code) = true
is_understood (Destroy target) = true
is_understood (GetAttributes target) = true
is_understood (Get target) = true
is_understood (Locate name) = true

-- whether a command is there to move a state
unfoldable pub moves_state : Command → Bool
moves_state Unsupported = false
moves_state Invalid = false
moves_state (Create wanted) = false
moves_state (Rekey target _) = false
moves_state (GetUsageAllocation target amount) = false
moves_state (Activate target) = true
moves_state (Revoke target code) = true
moves_state (Destroy target) = true
moves_state (GetAttributes target) = false
moves_state (Get target) = false
moves_state (Locate name) = false

-- the revocation code of a command
unfoldable pub code_of : Command → ℕ
code_of Unsupported = 0
code_of Invalid = 0
code_of (Create wanted) = 0
code_of (Rekey target _) = 0
code_of (GetUsageAllocation target amount) = 0
code_of (Activate target) = 0
code_of (Revoke target code) = code
code_of (Destroy target) = 0
code_of (GetAttributes target) = 0
code_of (Get target) = 0
code_of (Locate name) = 0

-- whether a command asks for the key itself
unfoldable pub asks_key : Command → Bool
asks_key Unsupported = false
asks_key Invalid = false
asks_key (Create wanted) = false
asks_key (Rekey target _) = false
asks_key (GetUsageAllocation target amount) = false
asks_key (Activate target) = false
asks_key (Revoke target code) = false
asks_key (Destroy target) = false
asks_key (GetAttributes target) = false
asks_key (Get target) = true
asks_key (Locate name) = false

-- whether a command asks for a replacement
unfoldable pub asks_heir : Command → Bool
asks_heir Unsupported = false
asks_heir Invalid = false
asks_heir (Create wanted) = false
asks_heir (Rekey target _) = true
asks_heir (GetUsageAllocation target amount) = false
asks_heir (Activate target) = false
asks_heir (Revoke target code) = false
asks_heir (Destroy target) = false
asks_heir (GetAttributes target) = false
asks_heir (Get target) = false
asks_heir (Locate name) = false

-- whether a command asks for units
unfoldable pub asks_units : Command → Bool
asks_units Unsupported = false
asks_units Invalid = false
asks_units (Create wanted) = false
asks_units (Rekey target _) = false
asks_units (GetUsageAllocation target amount) = true
asks_units (Activate target) = false
asks_units (Revoke target code) = false
asks_units (Destroy target) = false
asks_units (GetAttributes target) = false
asks_units (Get target) = false
asks_units (Locate name) = false

-- whether a command asks for a record by its name
unfoldable pub asks_name : Command → Bool
asks_name Unsupported = false
asks_name Invalid = false
asks_name (Create wanted) = false
asks_name (Rekey target _) = false
asks_name (GetUsageAllocation target amount) = false
asks_name (Activate target) = false
asks_name (Revoke target code) = false
asks_name (Destroy target) = false
asks_name (GetAttributes target) = false
asks_name (Get target) = false
asks_name (Locate name) = true

-- 02, L8: whether what an item did stands: "grants, identifiers and state changes in undone items count as never made"
unfoldable pub is_made : Outcome → Bool
is_made (Failed reason) = false
is_made (Created serial) = true
is_made (Done serial) = true
is_made (Showed shown) = true
is_made (Got key) = true
is_made (Located serial) = true
is_made Undone = false

-- the serial that an answer carries; 0 where it failed, found nothing, or was undone
unfoldable pub carries : Outcome → ℕ
carries (Failed reason) = 0
carries (Created serial) = serial
carries (Done serial) = serial
carries (Showed shown) = shown.serial
carries (Got key) = key.serial
carries (Located serial) = serial
carries Undone = 0

-- the state in which an object begins: "Starts Pre-Active"; for Re-key, by 02, L4, "State follows from the dates as L3 applies them to a Pre-Active key", with the dates that it gives the replacement of a record
unfoldable pub born_by : ℕ → Command → Record → ℕ
born_by clock Unsupported r = pre_active
born_by clock Invalid r = pre_active
born_by clock (Create wanted) r = pre_active
born_by clock (Rekey target offset) r = dated_state clock (heir_activation clock offset r) (heir_deactivation clock offset r) pre_active
born_by clock (GetUsageAllocation target amount) r = pre_active
born_by clock (Activate target) r = pre_active
born_by clock (Revoke target code) r = pre_active
born_by clock (Destroy target) r = pre_active
born_by clock (GetAttributes target) r = pre_active
born_by clock (Get target) r = pre_active
born_by clock (Locate name) r = pre_active

-- 02, L6: the name with which an object begins: the one that Create asks for, or for Re-key that of the record which it replaces
unfoldable pub name_born : Command → Record → Name
name_born Unsupported r = no_name
name_born Invalid r = no_name
name_born (Create wanted) r = wanted.name
name_born (Rekey target _) r = r.name
name_born (GetUsageAllocation target amount) r = no_name
name_born (Activate target) r = no_name
name_born (Revoke target code) r = no_name
name_born (Destroy target) r = no_name
name_born (GetAttributes target) r = no_name
name_born (Get target) r = no_name
name_born (Locate name) r = no_name

-- 01's list of transitions: Activate 1 to 2; Revoke with codes 2 and 3: 1, 2, 3 to 4 and 5 to 6, with the others 2 to 3; Destroy 1 and 3 to 5, 4 to 6
unfoldable pub listed : ℕ → ℕ → ℕ → ℕ → Bool
listed operation code from to =
    (eqb operation activate && (eqb from 1 && eqb to 2))
    || (eqb operation revoke && is_compromise code && ((eqb from 1 && eqb to 4) || (eqb from 2 && eqb to 4) || (eqb from 3 && eqb to 4) || (eqb from 5 && eqb to 6)))
    || (eqb operation revoke && not (is_compromise code) && (eqb from 2 && eqb to 3))
    || (eqb operation destroy && ((eqb from 1 && eqb to 5) || (eqb from 3 && eqb to 5) || (eqb from 4 && eqb to 6)))

-- 02, L3, "Demands 2 and 3 now count due changes among the listed ones": Pre-Active to Active, Active to Deactivated, and the one and then the other, each by a date that is set and at or before the clock
unfoldable pub listed_by : ℕ → Record → ℕ → Bool
listed_by clock r to =
    (eqb r.state 1 && has_come clock r.activation && eqb to 2)
    || (eqb r.state 2 && has_come clock r.deactivation && eqb to 3)
    || (eqb r.state 1 && has_come clock r.activation && has_come clock r.deactivation && eqb to 3)

-- ---- 02, L7: all that follows is of runs on a table of n places, shown "once over the count"

module _ (n : ℕ) where
  -- ---- runs

  -- calls from a blank table on, each with the table that the one before it left; the log is made of their bytes
  pub data Run (B : Box) : List Event → List ℕ → Type 0 where
    begins : Run B [] (blank n)
    calls : {log : List Event} {t : List ℕ} (c : Call) (e : Effect) → Run B log t → c.table ≡ t → Lent c → B c e → Run B (logged c e log) e.table

  -- a later point of the same run
  pub data Later (B : Box) (log : List Event) (t : List ℕ) : List Event → List ℕ → Type 0 where
    here : Later B log t log t
    further : {log' : List Event} {t' : List ℕ} (c : Call) (e : Effect) → Later B log t log' t' → c.table ≡ t' → Lent c → B c e → Later B log t (logged c e log') e.table

  -- the record with serial x stands at place i
  pub record Stands (x : ℕ) (t : List ℕ) (i : ℕ) : Type 0 where
    pub below : i < n
    pub serial : serial_at t i ≡ x

  -- ---- what one item names and takes

  -- the record at place i is the one that the item names
  abbrev pub names : Event → List ℕ → ℕ → Bool
  names ev t i = is_at i (find n t (named_by ev.held (command_of ev)))

  -- the item takes place i: it issued an identifier, and that is where 01 puts a new object
  abbrev pub takes : Event → List ℕ → ℕ → Bool
  takes ev t i = not (eqb (issued_by (command_of ev) ev.answer.outcome) 0) && is_at i (new_place n t)

  -- a place that a new object may take: "the lowest free place, or if none is free the lowest place in state 5 or 6"
  abbrev pub may_take : List ℕ → ℕ → Bool
  may_take t i = is_free t i || is_destroyed (place_at n t i).state

  -- the record that a search found; where it found none, that of place 0 stands in
  unfoldable pub found_in : List ℕ → Option ℕ → Record
  found_in t (Some i) = place_at n t i
  found_in t None = place_at n t 0

  -- the state in which an object begins that the item issued
  abbrev pub born_state : Event → List ℕ → ℕ
  born_state ev t = born_by (latest_clock t) (command_of ev) (found_in t (find n t (named_by ev.held (command_of ev))))

  -- the name with which an object begins that the item issued
  abbrev pub born_name : Event → List ℕ → Name
  born_name ev t = name_born (command_of ev) (found_in t (find n t (named_by ev.held (command_of ev))))

  -- the item takes the name of the record at place i: it issued its replacement
  abbrev pub unnames : Event → List ℕ → ℕ → Bool
  unnames ev t i = not (eqb (issued_by (command_of ev) ev.answer.outcome) 0) && is_at i (find n t (heir_from ev.held (command_of ev)))

  -- the state at place i goes from t to u by a transition that is listed for the item
  abbrev pub listed_for : Event → List ℕ → List ℕ → ℕ → Bool
  listed_for ev t u i = listed ev.asked.operation (code_of (command_of ev)) (place_at n t i).state (place_at n u i).state

  -- ---- what one item may do, from the table t that it meets to the table u that it leaves

  -- a state that changed, changed by a success that stands and names the record, by a listed transition
  pub record Moved (ev : Event) (t u : List ℕ) (i : ℕ) : Type 0 where
    pub done : is_made ev.answer.outcome ≡ true
    pub named : names ev t i ≡ true
    pub way : listed_for ev t u i ≡ true

  -- a place that was taken was free or destroyed, and holds the object that was issued, in the state in which it begins
  pub record Taken (ev : Event) (t u : List ℕ) (i : ℕ) : Type 0 where
    pub was : may_take t i ≡ true
    pub serial : serial_at u i ≡ issued_by (command_of ev) ev.answer.outcome
    pub state : (place_at n u i).state ≡ born_state ev t
    pub name : (place_at n u i).name ≡ born_name ev t

  -- a success is about the record that the item names, and carries its identifier
  pub record About (ev : Event) (t : List ℕ) : Type 0 where
    pub place : ℕ
    pub below : place < n
    pub named : names ev t place ≡ true
    pub serial : carries ev.answer.outcome ≡ serial_at t place

  -- what a search for a name answers, as the serial that its answer carries: none, and no record has the name; or that of a record that stands and has it
  pub record Finds (name : Name) (t : List ℕ) (serial : ℕ) : Type 0 where
    pub nothing : serial ≡ 0 → (j : ℕ) → j < n → (place_at n t j).name ≡ name → ⊥
    pub there : (serial ≡ 0 → ⊥) → (i : ℕ) × Stands serial t i × ((place_at n t i).name ≡ name)

  -- a replacement is that of a record that the item names, which stands, is not destroyed, and has none yet
  pub record Renews (ev : Event) (t : List ℕ) : Type 0 where
    pub place : ℕ
    pub below : place < n
    pub named : names ev t place ≡ true
    pub live : is_destroyed (place_at n t place).state ≡ false
    pub single : (place_at n t place).replacement ≡ 0

  pub record Tame (ev : Event) (t u : List ℕ) : Type 0 where
    -- the answer is the item's own, so that units and identifiers are counted as they were asked for: "Operation as given, the ID if given"
    pub operation : ev.answer.operation ≡ ev.asked.operation
    pub id : ev.answer.id ≡ ev.asked.id
    -- what was not understood is not answered with success, undone or not, so that no units and no identifiers go past the log
    pub understood : is_understood (command_of ev) ≡ false → is_failed ev.answer.outcome ≡ true
    -- "A failed item changes nothing in the table", and one that was undone counts as never made
    pub failed : is_made ev.answer.outcome ≡ false → u ≡ t
    -- "Records neither addressed, newly linked nor taken over stay": what an item newly links is the record that it names
    pub others : (i : ℕ) → i < n → names ev t i ≡ false → takes ev t i ≡ false → place_at n u i ≡ place_at n t i
    -- a record leaves its place only when a newer object takes it
    pub kept : (i : ℕ) → i < n → takes ev t i ≡ false → serial_at u i ≡ serial_at t i
    -- 02, L6: a name stays with its record, but that Re-key takes it from the record which it replaces
    pub called : (i : ℕ) → i < n → takes ev t i ≡ false → (place_at n u i).name ≡ ifb (unnames ev t i) no_name (place_at n t i).name
    -- "no state changes but by the listed transitions"
    pub moves : (i : ℕ) → i < n → takes ev t i ≡ false → ((place_at n u i).state ≡ (place_at n t i).state → ⊥) → Moved ev t u i
    -- and what is answered as activated, revoked or destroyed is so: "stay dead" begins with being dead
    pub obeys : (i : ℕ) → i < n → names ev t i ≡ true → is_made ev.answer.outcome ≡ true → moves_state (command_of ev) ≡ true → listed_for ev t u i ≡ true
    -- a place that is taken was there to be taken, and holds what was issued
    pub taken : (i : ℕ) → i < n → takes ev t i ≡ true → Taken ev t u i
    -- an identifier that is issued has its record
    pub stands : (issued_by (command_of ev) ev.answer.outcome ≡ 0 → ⊥) → (i : ℕ) × Stands (issued_by (command_of ev) ev.answer.outcome) u i
    -- a success that issues nothing and asks for no name "answers the identifier" of the record that it names
    pub about : is_made ev.answer.outcome ≡ true → issued_by (command_of ev) ev.answer.outcome ≡ 0 → asks_name (command_of ev) ≡ false → About ev t
    -- one that issues a replacement is about the record that it names too: no total is copied from what does not stand, is dead, or was replaced before
    pub renews : is_made ev.answer.outcome ≡ true → asks_heir (command_of ev) ≡ true → Renews ev t
    -- one that asks for a name answers that of a record that stands, or none
    pub located : asks_name (command_of ev) ≡ true → (carries ev.answer.outcome ≡ 0 → ⊥) → (i : ℕ) × Stands (carries ev.answer.outcome) t i
    -- and that of a record which has the name, if one has
    pub found : (name : Name) → command_of ev ≡ Locate name → is_made ev.answer.outcome ≡ true → Finds name t (carries ev.answer.outcome)
    -- only Get hands out a key
    pub hands : (handed_by ev.answer.outcome ≡ 0 → ⊥) → asks_key (command_of ev) ≡ true
    -- "once an identifier is in a destroyed state, no later Get for it succeeds": what is handed out is not destroyed
    pub alive : (i : ℕ) → i < n → names ev t i ≡ true → is_made ev.answer.outcome ≡ true → asks_key (command_of ev) ≡ true → is_destroyed (place_at n t i).state ≡ false
    -- a module with the wrong key signs as genuine: what is handed out is the key of the record that the item names
    pub gives : (key : Key) → ev.answer.outcome ≡ Got key → (i : ℕ) → i < n → names ev t i ≡ true → key ≡ key_of (place_at n t i)
    -- and a record has the same key as long as it stands and is not destroyed
    pub holds : (i : ℕ) → i < n → takes ev t i ≡ false → is_destroyed (place_at n u i).state ≡ false → key_of (place_at n u i) ≡ key_of (place_at n t i)
    -- "stay dead": units are granted to an Active key alone, and so to none that is destroyed
    pub spends : (i : ℕ) → i < n → names ev t i ≡ true → is_made ev.answer.outcome ≡ true → asks_units (command_of ev) ≡ true → (place_at n t i).state ≡ active
    -- no item moves the clock
    pub latest : latest_clock u ≡ latest_clock t
    -- "Once a newer object has taken the place, that identifier is granted nothing more": what does not stand is granted nothing
    pub grants : (x : ℕ) → (x ≡ 0 → ⊥) → ((i : ℕ) → Stands x t i → ⊥) → grant_by x (command_of ev) ev.answer.outcome ≡ 0

  -- ---- before the first item, from the table t that an accepted call meets to the table u that its first item meets

  -- what an accepted call may do before its first item. That it does so is demand 2's
  pub record DueOnly (clock : ℕ) (t u : List ℕ) : Type 0 where
    -- the latest clock stays, or is the clock that counts, which is no earlier
    pub latest : (latest_clock u ≡ latest_clock t) ⊎ (latest_clock u ≡ clock)
    -- no identifier is issued
    pub issued : last_serial u ≡ last_serial t
    -- "no state changes but by the listed transitions"
    pub moves : (i : ℕ) → i < n → ((place_at n u i).state ≡ (place_at n t i).state → ⊥) → listed_by clock (place_at n t i) (place_at n u i).state ≡ true
    -- and nothing of a record alters but its state: one that is not due is the same record
    pub others : (i : ℕ) → i < n → place_at n u i ≡ in_state (place_at n u i).state (place_at n t i).material (place_at n t i)

  -- ---- what holds between any two items; identifiers are given as their serials, which are not 0

  pub record InOrder (log : List Event) (t : List ℕ) : Type 0 where
    -- "the units granted in its successful answers plus the count in its record equal the total it began with, as long as its record stands"
    pub balance : (x i : ℕ) → (x ≡ 0 → ⊥) → Stands x t i → granted x log + (place_at n t i).count ≡ limit x log
    -- its stored total is that total
    pub total : (x i : ℕ) → (x ≡ 0 → ⊥) → Stands x t i → (place_at n t i).total ≡ limit x log
    -- standing or not, no more than the total is granted
    pub within : (x : ℕ) → (x ≡ 0 → ⊥) → granted x log ≤ limit x log
    -- "No identifier is issued twice"
    pub once : (x : ℕ) → (x ≡ 0 → ⊥) → issued x log ≤ 1
    -- what stands was issued
    pub known : (x i : ℕ) → (x ≡ 0 → ⊥) → Stands x t i → issued x log ≡ 1
    -- "a record in a destroyed state holds no key byte"
    pub wiped : (i : ℕ) → i < n → is_destroyed (place_at n t i).state ≡ true → (place_at n t i).material ≡ replicate material_size 0
    -- the log says which are destroyed, as long as the record stands
    pub destroyed : (x i : ℕ) → (x ≡ 0 → ⊥) → Stands x t i → was_destroyed x log ≡ true → is_destroyed (place_at n t i).state ≡ true
    -- "once an identifier is in a destroyed state, no later Get for it succeeds", whether or not its record still stands
    pub dead : (x : ℕ) → (x ≡ 0 → ⊥) → handed_dead x log ≡ 0
    -- the table stays a sound one of n places, so that no call of a run is refused with 3 and its count never changes
    pub stays_sound : sound n t ≡ true

  -- ---- the whole

  -- the tables between the items of a call, from a log and a table along the events of the call to the table that it leaves; without events the table stays
  pub data Path : List Event → List ℕ → List Event → List ℕ → Type 0 where
    arrived : {log : List Event} {t : List ℕ} → Path log t [] t
    went : {log events : List Event} {t v : List ℕ} (ev : Event) (u : List ℕ) → Tame ev t u → InOrder (ev ∷ log) u → Path (ev ∷ log) u events v → Path log t (ev ∷ events) v

  -- how a call opens, by its number: an accepted one may do what is due by the clock that counts, and a refused one does nothing
  pub data Opens (c : Call) : ℕ → List ℕ → Type 0 where
    accepted : {start : List ℕ} → DueOnly (counted c) c.table start → Opens c 0 start
    refused : {number : ℕ} → (number ≡ 0 → ⊥) → Opens c number c.table

  -- a call: it opens, the books are in order then, and it goes a path along what was asked and answered, read from its bytes
  pub record Goes (log : List Event) (c : Call) (e : Effect) : Type 0 where
    pub start : List ℕ
    pub opens : Opens c e.number start
    pub order : InOrder log start
    pub path : Path log start (events_of c e) e.table

  pub record Demand3Of (B : Box) : Type 0 where
    -- "any run of requests"
    pub goes : (log : List Event) (t : List ℕ) → Run B log t → (c : Call) (e : Effect) → c.table ≡ t → Lent c → B c e → Goes log c e
    -- every answer has its item
    pub asked : (log : List Event) (t : List ℕ) → Run B log t → (c : Call) (e : Effect) → c.table ≡ t → Lent c → B c e → length (answers_given e) ≤ length (items_asked c)
    -- "accepted or refused": a call that is refused, whatever bytes it leaves, leaves the table
    pub refused : (log : List Event) (t : List ℕ) → Run B log t → (c : Call) (e : Effect) → c.table ≡ t → Lent c → B c e → (e.number ≡ 0 → ⊥) → e.table ≡ t

-- "then used for both"
abbrev pub Demand3 : Box → Type 0
Demand3 B = (n : ℕ) → places_ok n ≡ true → Demand3Of n B
