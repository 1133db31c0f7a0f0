-- 01, "Operations": how a record begins.
-- Assumes nothing.
use Rattle.std.specs.Prelude.{ℕ, ◌/◌, List, take}
use Rattle.words.specs.Words.{filled}
use Rattle.table.specs.declared.Record.{Record}
use Rattle.rules.specs.declared.Attributes.{Attributes}
use Rattle.rules.specs.Numbers.{pre_active}

-- "the first length/8 of them": what is kept of a part of the fresh strip, zero past the length; 32 bytes, whatever the part is
unfoldable pub material_from : ℕ → List ℕ → List ℕ
material_from bits fresh = filled (take (bits / 8) fresh)

-- "Starts Pre-Active, count = total, both link serials 0", with the dates and the name asked for
unfoldable pub new_record : ℕ → Attributes → List ℕ → Record
new_record serial wanted fresh = record {
  serial = serial;
  state = pre_active;
  unit = wanted.unit;
  bits = wanted.bits;
  replaced = 0;
  replacement = 0;
  total = wanted.total;
  count = wanted.total;
  mask = wanted.mask;
  material = material_from wanted.bits fresh;
  activation = wanted.activation;
  deactivation = wanted.deactivation;
  name = wanted.name;
}
