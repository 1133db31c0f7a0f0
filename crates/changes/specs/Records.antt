-- 01, "Operations": how a record moves and is destroyed, and what a grant leaves of it. How it begins stands in crates/new_records, how it is replaced in crates/heirs.
-- Assumes nothing.
use Rattle.std.specs.Prelude.{ℕ, Bool, not, ◌&&◌, List, replicate, eqb}
use Rattle.octets.specs.If.{ifb}
use Rattle.table.specs.declared.Record.{Record}
use Rattle.table.specs.Layout.{material_size}
use Rattle.rules.specs.Numbers.{activate, revoke, destroy}
use Rattle.rules.specs.States.{is_compromise}

-- the record with a state and material
unfoldable pub in_state : ℕ → List ℕ → Record → Record
in_state state material r = record {
  serial = r.serial;
  state = state;
  unit = r.unit;
  bits = r.bits;
  replaced = r.replaced;
  replacement = r.replacement;
  total = r.total;
  count = r.count;
  mask = r.mask;
  material = material;
  activation = r.activation;
  deactivation = r.deactivation;
  name = r.name;
}

-- the record with these dates
unfoldable pub with_dates : ℕ → ℕ → Record → Record
with_dates activation deactivation r = record {
  serial = r.serial;
  state = r.state;
  unit = r.unit;
  bits = r.bits;
  replaced = r.replaced;
  replacement = r.replacement;
  total = r.total;
  count = r.count;
  mask = r.mask;
  material = r.material;
  activation = activation;
  deactivation = deactivation;
  name = r.name;
}

-- "a non-compromise Revoke"
abbrev pub stops : ℕ → ℕ → Bool
stops operation code = eqb operation revoke && not (is_compromise code)

-- "Activate and a non-compromise Revoke set their date to the clock"; "all 32 material bytes zeroed, total and count kept" for Destroy
unfoldable pub moved_to : ℕ → ℕ → ℕ → ℕ → Record → Record
moved_to operation code clock state r =
    with_dates (ifb (eqb operation activate) clock r.activation) (ifb (stops operation code) clock r.deactivation)
    (in_state state (ifb (eqb operation destroy) (replicate material_size 0) r.material) r)

-- the record with a count
unfoldable pub with_count : ℕ → Record → Record
with_count count r = record {
  serial = r.serial;
  state = r.state;
  unit = r.unit;
  bits = r.bits;
  replaced = r.replaced;
  replacement = r.replacement;
  total = r.total;
  count = count;
  mask = r.mask;
  material = r.material;
  activation = r.activation;
  deactivation = r.deactivation;
  name = r.name;
}
