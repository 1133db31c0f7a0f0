-- 01, "Operations": for each operation the ordered conditions with their reasons, and what success does and answers, on the record that it is about.
-- Assumes nothing. There is no byte of output in it.
use Rattle.std.specs.Prelude.{ℕ, ◌-◌, ◌*◌, Bool, true, false, not, List, [], ◌∷◌, eqb}
use Rattle.std.specs.Prelude.{Option, None, Some}
use Rattle.octets.specs.Octets.{part}
use Rattle.table.specs.declared.Record.{Record}
use Rattle.table.specs.Layout.{material_size}
use Rattle.table.specs.Records.{with_place, serial_at, latest_clock}
use Rattle.search.specs.Search.{is_destroyed}
use Rattle.names.specs.declared.Name.{Name}
use Rattle.name_search.specs.Names.{find_name, is_taken}
use Rattle.rules.specs.declared.Reason.{Reason}
use Rattle.rules.specs.declared.Reason.TheVariants.{InvalidField, ObjectDestroyed, PermissionDenied, ServerLimitExceeded, WrongKeyLifecycleState, NonUniqueName}
use Rattle.rules.specs.declared.Attributes.{Attributes}
use Rattle.rules.specs.Numbers.{activate, revoke, destroy}
use Rattle.rules.specs.Tests.{Test, ◌⇒◌, due}
use Rattle.rules.specs.States.{activate_tests, revoke_tests, destroy_tests, grant_tests, moved_state}
use Rattle.date_rules.specs.Dates.{is_late}
use Rattle.changes.specs.Records.{moved_to, with_count}
use Rattle.heirs.specs.Heirs.{offset_wrong, heir_of}
use Rattle.new_records.specs.New.{new_record}
use Rattle.changes.specs.Changes.{is_full, next_serial, with_born, with_heir}
use Rattle.words.specs.Words.{words_of}
use Rattle.plans.specs.declared.Shown.{Shown}
use Rattle.plans.specs.declared.Key.{Key}
use Rattle.plans.specs.declared.Outcome.{Outcome}
use Rattle.plans.specs.declared.Outcome.TheVariants.{Failed, Created, Done, Showed, Got, Located, Undone}
use Rattle.plans.specs.declared.Performed.{Performed}

-- ---- what an item meets

-- the number of places, and the part of the fresh strip that is the item's
pub record Env : Type 0 where
  pub places : ℕ
  pub fresh : List ℕ

abbrev pub in_places : ℕ → List ℕ → Env
in_places n fresh = record { places = n; fresh = fresh }

-- "Item i, from 0, takes bytes 32i to 32i+31 of the fresh strip"
abbrev pub env_at : ℕ → List ℕ → ℕ → Env
env_at places strip i = in_places places (part strip (material_size * i) material_size)

-- the placeholder, where it is empty
abbrev pub empty_holder : ℕ
empty_holder = 0

-- ---- what an item leaves

-- what became of it, the table, and the placeholder
pub record Did : Type 0 where
  pub outcome : Outcome
  pub table : List ℕ
  pub holder : ℕ

-- "A failed item changes nothing in the table"; "a failed item empties" the placeholder
abbrev pub failing : List ℕ → Reason → Did
failing t reason = record { outcome = Failed reason; table = t; holder = empty_holder }

-- the conditions in order, and what is done where none holds
pub record Plan : Type 0 where
  pub tests : List Test
  pub did : Did

-- an item that fails with this reason whatever the table holds
abbrev pub refusal : List ℕ → Reason → Plan
refusal t reason = record { tests = true ⇒ reason ∷ []; did = failing t reason }

-- the reason that is due, or what is done
unfoldable pub carried : List ℕ → Did → Option Reason → Did
carried t did None = did
carried t did (Some reason) = failing t reason

abbrev pub carried_out : List ℕ → Plan → Did
carried_out t p = carried t p.did (due p.tests)

-- what an item leaves: the function's answer, and the table after it
abbrev pub leaves : Performed → List ℕ → Did
leaves r t = record { outcome = r.outcome; table = t; holder = r.holder }

-- "a failed item empties" the placeholder
abbrev pub failed : Reason → Performed
failed reason = record { outcome = Failed reason; holder = empty_holder }

-- whether an item failed
unfoldable pub is_failed : Outcome → Bool
is_failed (Failed reason) = true
is_failed (Created serial) = false
is_failed (Done serial) = false
is_failed (Showed shown) = false
is_failed (Got key) = false
is_failed (Located serial) = false
is_failed Undone = false

-- ---- the operations, each as its line of 01 says

-- what Get Attributes shows
unfoldable pub shown_of : Record → Shown
shown_of r = record {
  serial = r.serial;
  bits = r.bits;
  mask = r.mask;
  state = r.state;
  activation = r.activation;
  deactivation = r.deactivation;
  unit = r.unit;
  total = r.total;
  count = r.count;
  replaced = r.replaced;
  replacement = r.replacement;
  name = r.name;
}

-- what Get hands out
unfoldable pub key_of : Record → Key
key_of r = record { serial = r.serial; bits = r.bits; material = words_of r.material }

-- the serial at the place that was found, 0 where none was
unfoldable pub serial_found : List ℕ → Option ℕ → ℕ
serial_found t (Some i) = serial_at t i
serial_found t None = empty_holder

module _ (env : Env) (holder : ℕ) (t : List ℕ) where
  -- 02, L6: a name that is taken "fails with the reason 000 gives for a name that isn't unique, tested after Invalid Field"; "Server Limit Exceeded"; a new record from the
  -- attributes. "Answers Object Type, identifier"
  unfoldable pub create_plan : Attributes → Plan
  create_plan wanted = record {
    tests = is_taken env.places t wanted.name ⇒ NonUniqueName ∷ is_full env.places t ⇒ ServerLimitExceeded ∷ [];
    did = record {
      outcome = Created (next_serial t);
      table = with_born env.places t (new_record (next_serial t) wanted env.fresh);
      holder = next_serial t;
    };
  }

  -- "destroyed: Object Destroyed. Has a replacement serial: Permission Denied. Then as Create .. Answers the new identifier"; 02, L4: a wrong Offset "is Invalid Field,
  -- given after Permission Denied and before Server Limit Exceeded". The clock that counts is the latest, stored before the first item
  unfoldable pub rekey_plan : Option ℕ → ℕ → Record → Plan
  rekey_plan offset i r = record {
    tests =
        is_destroyed r.state ⇒ ObjectDestroyed
        ∷ not (eqb r.replacement 0) ⇒ PermissionDenied
        ∷ offset_wrong (latest_clock t) offset r ⇒ InvalidField
        ∷ is_full env.places t ⇒ ServerLimitExceeded
        ∷ [];
    did = record {
      outcome = Done (next_serial t);
      table = with_heir env.places t i (heir_of (next_serial t) (latest_clock t) offset r env.fresh);
      holder = next_serial t;
    };
  }

  -- the record at place i is stored anew, and its identifier answered; "others keep" the placeholder
  abbrev pub changed : ℕ → Record → Did
  changed i r = record { outcome = Done r.serial; table = with_place env.places t i r; holder = holder }

  -- "Takes it off. Answers the identifier"
  unfoldable pub allocation_plan : ℕ → ℕ → Record → Plan
  allocation_plan amount i r = record {
    tests = grant_tests r.state r.unit r.count amount;
    did = changed i (with_count (r.count - amount) r);
  }

  -- Activate, Revoke and Destroy move the state and answer the identifier; the clock that counts is the latest, stored before the first item
  abbrev pub moved : ℕ → ℕ → ℕ → Record → Did
  moved operation code i r = changed i (moved_to operation code (latest_clock t) (moved_state operation code r.state) r)

  -- 02, L3: "Activate on a key whose set deactivation date is at or before the clock: Wrong Key Lifecycle State"
  unfoldable pub activate_plan : ℕ → Record → Plan
  activate_plan i r = record {
    tests = is_late activate (latest_clock t) r.deactivation ⇒ WrongKeyLifecycleState ∷ activate_tests r.state;
    did = moved activate 0 i r;
  }

  unfoldable pub revoke_plan : ℕ → ℕ → Record → Plan
  revoke_plan code i r = record { tests = revoke_tests code r.state; did = moved revoke code i r }

  unfoldable pub destroy_plan : ℕ → Record → Plan
  destroy_plan i r = record { tests = destroy_tests r.state; did = moved destroy 0 i r }

  unfoldable pub show_plan : ℕ → Record → Plan
  show_plan i r = record { tests = []; did = record { outcome = Showed (shown_of r); table = t; holder = holder } }

  -- "States 5 and 6 fail with Object Destroyed; every other state answers the material at its length"
  unfoldable pub get_plan : ℕ → Record → Plan
  get_plan i r = record {
    tests = is_destroyed r.state ⇒ ObjectDestroyed ∷ [];
    did = record { outcome = Got (key_of r); table = t; holder = holder };
  }

  -- 02, L6: Locate "answers the one identifier or an empty payload, sets the placeholder when it finds one, and empties it when not"
  unfoldable pub locate_plan : Name → Plan
  locate_plan name = let serial = serial_found t (find_name env.places t name) in record { tests = []; did = record { outcome = Located serial; table = t; holder = serial } }
