-- For the private functions: where a new object goes, and what storing it leaves. Nothing here has to be believed.
-- Assumes nothing.
use Rattle.std.specs.Prelude.{Option, None, Some}
use Rattle.std.specs.Prelude.{ℕ, ◌<◌, List, eqb}
use Rattle.octets.specs.If.{ifb}
use Rattle.table.specs.declared.Record.{Record}
use Rattle.table.specs.Layout.{Place}
use Rattle.table.specs.Records.{place_at, with_place, last_serial, latest_clock}
use Rattle.search.specs.Search.{new_place}
use Rattle.rules.specs.declared.Reason.TheVariants.{ServerLimitExceeded}
use Rattle.rules.specs.declared.Attributes.{Attributes}
use Rattle.heirs.specs.declared.Dates.{Dates}
use Rattle.heirs.specs.Heirs.{heir_dated, linked_to}
use Rattle.new_records.specs.New.{new_record}
use Rattle.changes.specs.Changes.{serial_most, next_serial, born_at}
use Rattle.plans.specs.declared.Outcome.TheVariants.{Created, Done}
use Rattle.plans.specs.Plans.{Did, failing}

-- where a new object goes: nowhere if every serial is issued
unfoldable pub place_for_new : ℕ → List ℕ → Option ℕ
place_for_new n t = ifb (eqb (last_serial t) serial_most) None (new_place n t)

-- what storing an heir asks: the old record's place, and another one of the table's
pub record TwoPlaces (n : ℕ) (t : List ℕ) (i place : ℕ) : Type 0 where
  pub old : Place n t i
  pub below : place < n

-- the table in which the record at place i names its replacement
unfoldable pub linked_at : ℕ → List ℕ → ℕ → Record → List ℕ
linked_at n t i heir = with_place n t i (linked_to heir.serial (place_at n t i))

-- Create of what no other is named, by where the new object goes
unfoldable pub creating : ℕ → List ℕ → List ℕ → Attributes → Option ℕ → Did
creating n fresh t wanted (Some place) =
    record { outcome = Created (next_serial t); table = born_at n t (new_record (next_serial t) wanted fresh) (Some place); holder = next_serial t }
creating n fresh t wanted None = failing t ServerLimitExceeded

-- Re-key of a record that may be replaced, with the new object's dates, by where that goes
unfoldable pub replacing : ℕ → List ℕ → List ℕ → ℕ → Record → Dates → Option ℕ → Did
replacing n fresh t i old dates (Some place) =
    let heir = heir_dated (next_serial t) (latest_clock t) dates.activation dates.deactivation old fresh in
    record { outcome = Done (next_serial t); table = born_at n (linked_at n t i heir) heir (Some place); holder = next_serial t }
replacing n fresh t i old dates None = failing t ServerLimitExceeded
