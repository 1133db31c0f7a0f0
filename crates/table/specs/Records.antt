-- 01, "The stored table": what a place holds, a record stored, the lead, the blank table. Numbers are big-endian.
-- Assumes nothing.
use Rattle.std.specs.Prelude.{ℕ, ◌+◌, ◌-◌, Bool, List, ◌++◌, replicate, eqb}
use Rattle.std.proofs.lemmas.List.Edits.{sets}
use Rattle.octets.specs.Octets.{be, from_be, part}
use Rattle.names.specs.declared.Name.{Name}
use Rattle.names.specs.Names.{name_size, name_field, stored_name}
use Rattle.table.specs.declared.Record.{Record}
use Rattle.table.specs.Layout.{line_size, body_size, line_start, body_start, size_of, material_size, last_in, places_in, latest_in, serial_in, state_in, unit_in, bits_in, replaced_in, replacement_in, total_in, count_in, mask_in, material_in, activation_in, deactivation_in, name_in}

-- "serial (4, zero means free), state (1), unit (1), length in bits (2), replaced serial (4), replacement serial (4)"
unfoldable pub line : ℕ → ℕ → ℕ → ℕ → ℕ → ℕ → List ℕ
line serial state unit bits replaced replacement = be 4 serial ++ (be 1 state ++ (be 1 unit ++ (be 2 bits ++ (be 4 replaced ++ be 4 replacement))))

-- a body up to its name: "total (8), count (8), usage mask (4), zeros (4), material (32)", and "an Activation Date and a Deactivation Date (8 bytes each, 0 means not set)"
unfoldable pub body : ℕ → ℕ → ℕ → List ℕ → ℕ → ℕ → List ℕ
body total count mask material activation deactivation =
    be 8 total ++ (be 8 count ++ (be 4 mask ++ (be 4 0 ++ (material ++ (be 8 activation ++ be 8 deactivation)))))

abbrev pub line_bytes : Record → List ℕ
line_bytes r = line r.serial r.state r.unit r.bits r.replaced r.replacement

-- "Bodies gain at the end" the name
abbrev pub body_bytes : Record → List ℕ
body_bytes r = body r.total r.count r.mask r.material r.activation r.deactivation ++ name_field r.name

-- what a line and a body say
unfoldable pub record_of : List ℕ → List ℕ → Record
record_of l b = record {
  serial = from_be (part l serial_in 4);
  state = from_be (part l state_in 1);
  unit = from_be (part l unit_in 1);
  bits = from_be (part l bits_in 2);
  replaced = from_be (part l replaced_in 4);
  replacement = from_be (part l replacement_in 4);
  total = from_be (part b total_in 8);
  count = from_be (part b count_in 8);
  mask = from_be (part b mask_in 4);
  material = part b material_in material_size;
  activation = from_be (part b activation_in 8);
  deactivation = from_be (part b deactivation_in 8);
  name = stored_name (part b name_in name_size);
}

-- the record at place i of a table of n places
unfoldable pub place_at : ℕ → List ℕ → ℕ → Record
place_at n t i = record_of (part t (line_start i) line_size) (part t (body_start n i) body_size)

-- the table with r stored at place i
unfoldable pub with_place : ℕ → List ℕ → ℕ → Record → List ℕ
with_place n t i r = sets (sets t (line_start i) (line_bytes r)) (body_start n i) (body_bytes r)

-- the serial of place i, read by itself
unfoldable pub serial_at : List ℕ → ℕ → ℕ
serial_at t i = from_be (part t (line_start i + serial_in) 4)

-- the state of place i, read by itself
unfoldable pub state_at : List ℕ → ℕ → ℕ
state_at t i = from_be (part t (line_start i + state_in) 1)

-- the name of place i, read by itself
unfoldable pub name_at : ℕ → List ℕ → ℕ → Name
name_at n t i = stored_name (part t (body_start n i + name_in) name_size)

-- "serial .. zero means free"
abbrev pub is_free : List ℕ → ℕ → Bool
is_free t i = eqb (serial_at t i) 0

-- ---- the lead: "last serial issued (4), place count 64 (4)", and the latest clock seen (8)

unfoldable pub last_serial : List ℕ → ℕ
last_serial t = from_be (part t last_in 4)

unfoldable pub with_last : List ℕ → ℕ → List ℕ
with_last t serial = sets t last_in (be 4 serial)

unfoldable pub places_said : List ℕ → ℕ
places_said t = from_be (part t places_in 4)

-- "the eight zero bytes in the lead become the latest clock seen"
unfoldable pub latest_clock : List ℕ → ℕ
latest_clock t = from_be (part t latest_in 8)

unfoldable pub with_clock : List ℕ → ℕ → List ℕ
with_clock t clock = sets t latest_in (be 8 clock)

-- "A blank table is .. all zero but the place count"
unfoldable pub blank : ℕ → List ℕ
blank n = be 4 0 ++ (be 4 n ++ replicate (size_of n - 8) 0)
