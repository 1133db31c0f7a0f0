-- 01, "Operations", with 02, L4 and L6: how a record is replaced.
-- Assumes nothing.
use Rattle.std.specs.Prelude.{Option, None, Some}
use Rattle.std.specs.Prelude.{ℕ, ◌+◌, ◌-◌, Bool, false, not, ◌&&◌, ◌||◌, List, eqb}
use Rattle.octets.specs.If.{ifb}
use Rattle.names.specs.Names.{no_name}
use Rattle.table.specs.declared.Record.{Record}
use Rattle.values.specs.Values.{not_negative}
use Rattle.rules.specs.Numbers.{pre_active}
use Rattle.date_rules.specs.Dates.{dated_state}
use Rattle.heirs.specs.declared.Dates.{Dates}
use Rattle.new_records.specs.New.{material_from}

-- ---- the dates of a replacement, at a clock

-- "Without Offset the dates are copied"; "activation is then the clock plus Offset"
unfoldable pub heir_activation : ℕ → Option ℕ → Record → ℕ
heir_activation clock None old = old.activation
heir_activation clock (Some seconds) old = clock + seconds

-- "deactivation moves by the same difference": it stays as far behind activation as it was; not set stays not set
unfoldable pub heir_deactivation : ℕ → Option ℕ → Record → ℕ
heir_deactivation clock None old = old.deactivation
heir_deactivation clock (Some seconds) old = ifb (eqb old.deactivation 0) 0 (clock + seconds + (old.deactivation - old.activation))

-- "With Offset, a deactivation date without an activation date, or a sum past the largest Date-Time"
unfoldable pub offset_wrong : ℕ → Option ℕ → Record → Bool
offset_wrong clock None old = false
offset_wrong clock (Some seconds) old =
    (eqb old.activation 0 && not (eqb old.deactivation 0))
    || not (not_negative (clock + seconds))
    || not (not_negative (heir_deactivation clock (Some seconds) old))

-- both dates; none where the Offset is wrong
unfoldable pub heir_dates : ℕ → Option ℕ → Record → Option Dates
heir_dates clock offset old =
    ifb (offset_wrong clock offset old) None (Some (record { activation = heir_activation clock offset old; deactivation = heir_deactivation clock offset old }))

-- ---- the replacement

-- "with attributes copied, new material, count = total": the replacement of `old`, which it names, with these dates and the old key's name.
-- 02, L4: "State follows from the dates as L3 applies them to a Pre-Active key"
unfoldable pub heir_dated : ℕ → ℕ → ℕ → ℕ → Record → List ℕ → Record
heir_dated serial clock activation deactivation old fresh = record {
  serial = serial;
  state = dated_state clock activation deactivation pre_active;
  unit = old.unit;
  bits = old.bits;
  replaced = old.serial;
  replacement = 0;
  total = old.total;
  count = old.total;
  mask = old.mask;
  material = material_from old.bits fresh;
  activation = activation;
  deactivation = deactivation;
  name = old.name;
}

-- and with its own dates: those that the Offset makes of the old ones
unfoldable pub heir_of : ℕ → ℕ → Option ℕ → Record → List ℕ → Record
heir_of serial clock offset old fresh = heir_dated serial clock (heir_activation clock offset old) (heir_deactivation clock offset old) old fresh

-- "linked both ways": the old record names its replacement. 02, L6: "Re-key moves" the name "from the old key to the new"
unfoldable pub linked_to : ℕ → Record → Record
linked_to serial r = record {
  serial = r.serial;
  state = r.state;
  unit = r.unit;
  bits = r.bits;
  replaced = r.replaced;
  replacement = serial;
  total = r.total;
  count = r.count;
  mask = r.mask;
  material = r.material;
  activation = r.activation;
  deactivation = r.deactivation;
  name = no_name;
}
