-- What was asked and answered, read from the bytes of requests and responses alone. No definition here reads a table.
-- 02, L8: "grants, identifiers and state changes in undone items count as never made": an undone answer issues, grants, hands out and destroys nothing.
-- Assumes nothing.
use Rattle.std.specs.Prelude.{ℕ, suc, ◌+◌, Bool, false, ◌&&◌, ◌||◌, List, [], ◌∷◌, take, eqb}
use Rattle.std.specs.Prelude.{Option, None, Some}
use Rattle.octets.specs.If.{ifb}
use Rattle.octets.specs.Maybe.{◌>>=◌}
use Rattle.ttlv.specs.Parse.{message}
use Rattle.rules.specs.Numbers.{rekey, destroy}
use Rattle.names.specs.declared.Name.{Name}
use Rattle.names.specs.Names.{no_name}
use Rattle.batch_item.specs.Item.{Asked}
use Rattle.frame.specs.Frame.{Frame, frame_in}
use Rattle.payload.specs.declared.Command.{Command}
use Rattle.payload.specs.declared.Command.TheVariants.{Unsupported, Invalid, Create, Rekey, GetUsageAllocation, Activate, Revoke, Destroy, GetAttributes, Get, Locate}
use Rattle.payload.specs.Payload.{command}
use Rattle.plans.specs.declared.Outcome.{Outcome}
use Rattle.plans.specs.declared.Outcome.TheVariants.{Failed, Created, Done, Showed, Got, Located, Undone}
use Rattle.act.specs.Act.{sought}
use Rattle.answer.specs.Respond.{Answer, Response}
use Rattle.answer.specs.Read.{answers_in}
use Rattle.calls.specs.Effects.{Effect}
use Rattle.demands.specs.Box.{Call}

-- an item with its answer, and the placeholder as the earlier answers of the same response set it (0 where it is empty)
pub record Event : Type 0 where
  pub held : ℕ
  pub asked : Asked
  pub answer : Answer

-- what the item asked for
abbrev pub command_of : Event → Command
command_of e = command e.asked.operation e.asked.payload

-- ---- events from bytes

-- "Create and Re-key set the placeholder, a failed item empties it, others keep it"; 02, L6: Locate "sets the placeholder when it finds one, and empties it when not".
-- What was undone carries no identifier that could be held
unfoldable pub held_after : ℕ → Answer → Outcome → ℕ
held_after held a (Failed reason) = 0
held_after held a (Created serial) = serial
held_after held a (Done serial) = ifb (eqb a.operation rekey) serial held
held_after held a (Showed shown) = held
held_after held a (Got key) = held
held_after held a (Located serial) = serial
held_after held a Undone = 0

-- item i with answer i, in order
unfoldable pub paired : ℕ → List Asked → List Answer → List Event
paired held [] answers = []
paired held (asked ∷ items) [] = []
paired held (asked ∷ items) (a ∷ answers) = record { held = held; asked = asked; answer = a } ∷ paired (held_after held a a.outcome) items answers

unfoldable pub or_no_items : Option Frame → List Asked
or_no_items None = []
or_no_items (Some f) = f.items

unfoldable pub or_no_answers : Option Response → List Answer
or_no_answers None = []
or_no_answers (Some r) = r.answers

-- the items of a request's bytes, and the answers read back from the first bytes of the output, `length` many
abbrev pub items_asked : Call → List Asked
items_asked c = or_no_items (message c.request >>= frame_in)

abbrev pub answers_given : Effect → List Answer
answers_given e = or_no_answers (message (take e.length e.output) >>= answers_in)

-- the events of a call, in order; a refused call has length 0, and bytes that are no response have no answers, so there are none
unfoldable pub events_of : Call → Effect → List Event
events_of c e = paired 0 (items_asked c) (answers_given e)

-- events, in order, put onto a log, which has the latest first
unfoldable pub onto : List Event → List Event → List Event
onto [] log = log
onto (ev ∷ events) log = onto events (ev ∷ log)

-- the log after a call
unfoldable pub logged : Call → Effect → List Event → List Event
logged c e log = onto (events_of c e) log

-- ---- what a log says of an identifier, given as its serial

-- the serial that a successful answer to Create or Re-key carries; 0 for every other event
unfoldable pub issued_by : Command → Outcome → ℕ
issued_by (Create wanted) (Created serial) = serial
issued_by (Create wanted) (Failed reason) = 0
issued_by (Create wanted) (Done serial) = 0
issued_by (Create wanted) (Showed shown) = 0
issued_by (Create wanted) (Got key) = 0
issued_by (Create wanted) (Located serial) = 0
issued_by (Create wanted) Undone = 0
issued_by (Rekey target _) (Done serial) = serial
issued_by (Rekey target _) (Failed reason) = 0
issued_by (Rekey target _) (Created serial) = 0
issued_by (Rekey target _) (Showed shown) = 0
issued_by (Rekey target _) (Got key) = 0
issued_by (Rekey target _) (Located serial) = 0
issued_by (Rekey target _) Undone = 0
issued_by Unsupported outcome = 0
issued_by Invalid outcome = 0
issued_by (GetUsageAllocation target amount) outcome = 0
issued_by (Activate target) outcome = 0
issued_by (Revoke target code) outcome = 0
issued_by (Destroy target) outcome = 0
issued_by (GetAttributes target) outcome = 0
issued_by (Get target) outcome = 0
issued_by (Locate name) outcome = 0

-- whether an event issued identifier x
abbrev pub issues : ℕ → Event → Bool
issues x e = eqb (issued_by (command_of e) e.answer.outcome) x

-- how often x was issued; 02, L8: "a serial from an undone item may be issued again"
unfoldable pub issued : ℕ → List Event → ℕ
issued x [] = 0
issued x (e ∷ log) = let before = issued x log in ifb (issues x e) (suc before) before

-- the units that an event granted to x: those asked for, if the answer is a success that carries x
unfoldable pub grant_by : ℕ → Command → Outcome → ℕ
grant_by x (GetUsageAllocation target amount) (Done serial) = ifb (eqb serial x) amount 0
grant_by x (GetUsageAllocation target amount) (Failed reason) = 0
grant_by x (GetUsageAllocation target amount) (Created serial) = 0
grant_by x (GetUsageAllocation target amount) (Showed shown) = 0
grant_by x (GetUsageAllocation target amount) (Got key) = 0
grant_by x (GetUsageAllocation target amount) (Located serial) = 0
grant_by x (GetUsageAllocation target amount) Undone = 0
grant_by x Unsupported outcome = 0
grant_by x Invalid outcome = 0
grant_by x (Create wanted) outcome = 0
grant_by x (Rekey target _) outcome = 0
grant_by x (Activate target) outcome = 0
grant_by x (Revoke target code) outcome = 0
grant_by x (Destroy target) outcome = 0
grant_by x (GetAttributes target) outcome = 0
grant_by x (Get target) outcome = 0
grant_by x (Locate name) outcome = 0

-- the units granted to x
unfoldable pub granted : ℕ → List Event → ℕ
granted x [] = 0
granted x (e ∷ log) = grant_by x (command_of e) e.answer.outcome + granted x log

-- the total with which an identifier begins: that of its Create; for a Re-key, that of the identifier which it named
unfoldable pub limit_by : Event → Command → (ℕ → ℕ) → ℕ
limit_by e (Create wanted) before = wanted.total
limit_by e (Rekey target _) before = before (sought e.held target)
limit_by e Unsupported before = 0
limit_by e Invalid before = 0
limit_by e (GetUsageAllocation target amount) before = 0
limit_by e (Activate target) before = 0
limit_by e (Revoke target code) before = 0
limit_by e (Destroy target) before = 0
limit_by e (GetAttributes target) before = 0
limit_by e (Get target) before = 0
limit_by e (Locate name) before = 0

-- the total that x began with
unfoldable pub limit : ℕ → List Event → ℕ
limit x [] = 0
limit x (e ∷ log) = let begun = limit_by e (command_of e) (λ y. limit y log) in let before = limit x log in ifb (issues x e) begun before

-- 02, L6: the name with which an identifier begins: that of its Create; for a Re-key, that of the identifier which it named
unfoldable pub name_by : Event → Command → (ℕ → Name) → Name
name_by e Unsupported before = no_name
name_by e Invalid before = no_name
name_by e (Create wanted) before = wanted.name
name_by e (Rekey target _) before = before (sought e.held target)
name_by e (GetUsageAllocation target amount) before = no_name
name_by e (Activate target) before = no_name
name_by e (Revoke target code) before = no_name
name_by e (Destroy target) before = no_name
name_by e (GetAttributes target) before = no_name
name_by e (Get target) before = no_name
name_by e (Locate name) before = no_name

-- the identifier that a command replaces, by its identifier or by the placeholder; 0 where it replaces none
unfoldable pub heir_from : ℕ → Command → ℕ
heir_from held Unsupported = 0
heir_from held Invalid = 0
heir_from held (Create wanted) = 0
heir_from held (Rekey target _) = sought held target
heir_from held (GetUsageAllocation target amount) = 0
heir_from held (Activate target) = 0
heir_from held (Revoke target code) = 0
heir_from held (Destroy target) = 0
heir_from held (GetAttributes target) = 0
heir_from held (Get target) = 0
heir_from held (Locate name) = 0

-- the identifier that an event replaced; 0 where it issued no replacement
abbrev pub replaced_by : Event → ℕ
replaced_by e = ifb (eqb (issued_by (command_of e) e.answer.outcome) 0) 0 (heir_from e.held (command_of e))

-- the name that x has: the one that it began with, until "Re-key moves it from the old key to the new"
unfoldable pub name_in : ℕ → List Event → Name
name_in x [] = no_name
name_in x (e ∷ log) =
    let begun = name_by e (command_of e) (λ y. name_in y log) in
    let before = name_in x log in
    ifb (issues x e) begun (ifb (eqb (replaced_by e) x) no_name before)

-- the serial of the key that an answer hands out; 0 where it hands out none
unfoldable pub handed_by : Outcome → ℕ
handed_by (Failed reason) = 0
handed_by (Created serial) = 0
handed_by (Done serial) = 0
handed_by (Showed shown) = 0
handed_by (Got key) = key.serial
handed_by (Located serial) = 0
handed_by Undone = 0

-- the serial that a successful answer to Destroy carries; 0 for every other answer
unfoldable pub destroyed_by : ℕ → Outcome → ℕ
destroyed_by operation (Failed reason) = 0
destroyed_by operation (Created serial) = 0
destroyed_by operation (Done serial) = ifb (eqb operation destroy) serial 0
destroyed_by operation (Showed shown) = 0
destroyed_by operation (Got key) = 0
destroyed_by operation (Located serial) = 0
destroyed_by operation Undone = 0

-- whether x was destroyed
unfoldable pub was_destroyed : ℕ → List Event → Bool
was_destroyed x [] = false
was_destroyed x (e ∷ log) = eqb (destroyed_by e.answer.operation e.answer.outcome) x || was_destroyed x log

-- how often the key x was handed out after it was destroyed
unfoldable pub handed_dead : ℕ → List Event → ℕ
handed_dead x [] = 0
handed_dead x (e ∷ log) = let before = handed_dead x log in ifb (eqb (handed_by e.answer.outcome) x && was_destroyed x log) (suc before) before
