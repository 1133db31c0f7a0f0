-- 01, "The stored table": lead, contents, bodies, over the number n of places; line i and body i belong to place i, counted from 0.
-- Assumes nothing.
use Rattle.std.specs.Prelude.{◌≡◌, ℕ, ◌+◌, ◌*◌, ◌≤◌, ◌<◌, Bool, ◌||◌, List, length, eqb}

-- "Lead, 16 bytes"
abbrev pub lead_size : ℕ
lead_size = 16

-- "lines of 16"
abbrev pub line_size : ℕ
line_size = 16

-- "112 bytes a body": total (8), count (8), usage mask (4), zeros (4), material (32), Activation Date (8), Deactivation Date (8), name (40)
abbrev pub body_size : ℕ
body_size = 112

-- where the line of place i starts
abbrev pub line_start : ℕ → ℕ
line_start i = lead_size + line_size * i

-- where the body of place i starts
abbrev pub body_start : ℕ → ℕ → ℕ
body_start n i = lead_size + line_size * n + body_size * i

-- the bytes of a table of n places
abbrev pub size_of : ℕ → ℕ
size_of n = lead_size + (line_size + body_size) * n

-- 02, L7, "The lead's place count may be 64 or 256": the count of a small table and that of a large one
abbrev pub small_count : ℕ
small_count = 64

abbrev pub large_count : ℕ
large_count = 256

-- the place counts that there are
abbrev pub places_ok : ℕ → Bool
places_ok n = eqb n small_count || eqb n large_count

-- the bytes of material that a body holds
abbrev pub material_size : ℕ
material_size = 32

-- ---- where the fields stand; the code has the same names (`Layout::LAST_IN` ..)

-- in the lead: "last serial issued (4), place count .. (4)", and the latest clock seen (8)
abbrev pub last_in : ℕ
last_in = 0

abbrev pub places_in : ℕ
places_in = 4

abbrev pub latest_in : ℕ
latest_in = 8

-- in a line: "serial (4, zero means free), state (1), unit (1), length in bits (2), replaced serial (4), replacement serial (4)"
abbrev pub serial_in : ℕ
serial_in = 0

abbrev pub state_in : ℕ
state_in = 4

abbrev pub unit_in : ℕ
unit_in = 5

abbrev pub bits_in : ℕ
bits_in = 6

abbrev pub replaced_in : ℕ
replaced_in = 8

abbrev pub replacement_in : ℕ
replacement_in = 12

-- in a body: "total (8), count (8), usage mask (4), zeros (4), material (32)", the two dates (8 each), and the name (40)
abbrev pub total_in : ℕ
total_in = 0

abbrev pub count_in : ℕ
count_in = 8

abbrev pub mask_in : ℕ
mask_in = 16

abbrev pub zeros_in : ℕ
zeros_in = 20

abbrev pub material_in : ℕ
material_in = 24

abbrev pub activation_in : ℕ
activation_in = 56

abbrev pub deactivation_in : ℕ
deactivation_in = 64

abbrev pub name_in : ℕ
name_in = 72

-- ---- what the functions over a table ask

-- the lead is there
abbrev pub HasLead : List ℕ → Type 0
HasLead t = lead_size ≤ length t

-- the line of place i is there
abbrev pub HasLine : List ℕ → ℕ → Type 0
HasLine t i = line_start i + line_size ≤ length t

-- t has the size of a table of n places: the check of the table shows it before any function over one is called, and every item keeps it
abbrev pub Table : ℕ → List ℕ → Type 0
Table n t = length t ≡ size_of n

-- place i is one of the table's: the search that gave it shows it
pub record Place (n : ℕ) (t : List ℕ) (i : ℕ) : Type 0 where
  pub sized : Table n t
  pub below : i < n
