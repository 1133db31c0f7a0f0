-- 01, "Sound", and 02, L3 and L6: an ordered, numbered list of rules, each of the whole table or of its places. A table is sound if none is broken.
-- Assumes nothing. A free place answers to the free-place rule alone.
use Rattle.std.specs.Prelude.{ℕ, suc, ◌+◌, Bool, true, not, ◌&&◌, List, [], ◌∷◌, length, leb, eqb}
use Rattle.std.specs.Prelude.{Option, None, Some}
use Rattle.octets.specs.If.{ifb}
use Rattle.octets.specs.Maybe.{is_some}
use Rattle.octets.specs.Octets.{part, all_zero}
use Rattle.table.specs.declared.Record.{Record}
use Rattle.table.specs.Layout.{line_size, body_size, line_start, body_start, size_of, zeros_in}
use Rattle.table.specs.Records.{place_at, serial_at, is_free, last_serial, places_said, latest_clock}
use Rattle.search.specs.Search.{first, find}
use Rattle.values.specs.Values.{not_negative}
use Rattle.record_rules.specs.Rules.{state_right, bits_right, mask_right, limit_right, tail_right, wiped_right, replaced_right, replacement_right, dates_right, order_right, started_right, name_right, name_text_right}
unfoldable pub use Rattle.twin_rules.specs.Twins.{distinct_right, names_differ}

-- ---- rules of the whole table

-- rule 1: "size .. right"
unfoldable pub size_right : ℕ → List ℕ → Bool
size_right n t = eqb (length t) (size_of n)

-- rule 2: "place count"
unfoldable pub count_right : ℕ → List ℕ → Bool
count_right n t = eqb (places_said t) n

-- rule 17: "nor the latest clock negative"; it stands behind the rules of places in the list
unfoldable pub latest_right : ℕ → List ℕ → Bool
latest_right n t = not_negative (latest_clock t)

-- ---- rules at a place

-- rule 3: "a free place zero in line and body"
unfoldable pub free_right : ℕ → List ℕ → ℕ → Bool
free_right n t i = all_zero (part t (line_start i) line_size) && all_zero (part t (body_start n i) body_size)

-- rule 4: "in every other body the zeros field zero"
unfoldable pub zeros_right : ℕ → List ℕ → ℕ → Bool
zeros_right n t i = all_zero (part t (body_start n i + zeros_in) 4)

-- rules 5 and 22 are of two places at once and stand in twin_rules (specs/Twins.antt): `distinct_right` and `names_differ`

-- rule 6: "and at most the last issued"
unfoldable pub issued_right : ℕ → List ℕ → ℕ → Bool
issued_right n t i = leb (serial_at t i) (last_serial t)

-- rules 7 to 14, 16 and 18 to 21 are of the record by itself and stand in record_rules (specs/Rules.antt): `state_right` to `replacement_right`, in this order in the list below, and `dates_right`, `order_right`, `started_right`, `name_right`, `name_text_right`

-- what a record that stands has to pass; where none stands there is nothing to pass
unfoldable pub if_stands : (ℕ → Bool) → Option ℕ → Bool
if_stands test (Some j) = test j
if_stands test None = true

-- the record at place j names this serial as its replacement
abbrev pub names_replacement : ℕ → List ℕ → ℕ → ℕ → Bool
names_replacement n t serial j = eqb (place_at n t j).replacement serial

-- the record at place j names this serial as the one it replaced
abbrev pub names_replaced : ℕ → List ℕ → ℕ → ℕ → Bool
names_replaced n t serial j = eqb (place_at n t j).replaced serial

-- rule 15: "Where both ends of a link stand, each names the other"
unfoldable pub links_right : ℕ → List ℕ → Record → Bool
links_right n t r =
    if_stands (names_replacement n t r.serial) (find n t r.replaced)
    && if_stands (names_replaced n t r.serial) (find n t r.replacement)

-- ---- the list

-- a place that is free and breaks the free-place rule
unfoldable pub breaks_free : ℕ → List ℕ → ℕ → Bool
breaks_free n t i = let right = free_right n t i in is_free t i && not right

-- a place that is not free and breaks a rule
unfoldable pub breaks_standing : (ℕ → List ℕ → ℕ → Bool) → ℕ → List ℕ → ℕ → Bool
breaks_standing rule n t i = let right = rule n t i in not (is_free t i) && not right

-- a rule of the whole table, which has to hold; or of its places, none of which may pass the test that sees it broken
pub data Rule : Type 0 where
  of_table : (ℕ → List ℕ → Bool) → Rule
  of_places : (ℕ → List ℕ → ℕ → Bool) → Rule

-- a rule of the places that are not free
abbrev pub of_standing : (ℕ → List ℕ → ℕ → Bool) → Rule
of_standing rule = of_places (breaks_standing rule)

-- a rule of a record by itself
abbrev pub of_record : (Record → Bool) → Rule
of_record rule = of_standing (λ n t i. rule (place_at n t i))

-- rules 1 to 22: 01's, then L3's, then L6's
abbrev pub rules : List Rule
rules =
    of_table size_right
    ∷ of_table count_right
    ∷ of_places breaks_free
    ∷ of_standing zeros_right
    ∷ of_standing distinct_right
    ∷ of_standing issued_right
    ∷ of_record state_right
    ∷ of_record bits_right
    ∷ of_record mask_right
    ∷ of_record limit_right
    ∷ of_record tail_right
    ∷ of_record wiped_right
    ∷ of_record replaced_right
    ∷ of_standing (λ n t i. replacement_right (last_serial t) (place_at n t i))
    ∷ of_standing (λ n t i. links_right n t (place_at n t i))
    ∷ of_record dates_right
    ∷ of_table latest_right
    ∷ of_record order_right
    ∷ of_standing (λ n t i. started_right (latest_clock t) (place_at n t i))
    ∷ of_record name_right
    ∷ of_record name_text_right
    ∷ of_standing names_differ
    ∷ []

-- ---- the first broken rule

-- a rule of the whole table that is broken, by its number; or a rule and the lowest place that breaks it
pub data Fault : Type 0 where
  whole : ℕ → Fault
  at_place : ℕ → ℕ → Fault

-- rule k, if some place breaks it; else what the later rules say
unfoldable pub or_later : ℕ → Option Fault → Option ℕ → Option Fault
or_later k later (Some i) = Some (at_place k i)
or_later k later None = later

-- the first of these rules, numbered from k on, that is broken
unfoldable pub fault_from : ℕ → List Rule → ℕ → List ℕ → Option Fault
fault_from k [] n t = None
fault_from k (of_table rule ∷ rules) n t = let later = fault_from (suc k) rules n t in ifb (rule n t) later (Some (whole k))
fault_from k (of_places broken ∷ rules) n t = or_later k (fault_from (suc k) rules n t) (first n (broken n t))

-- the first broken rule of a table of n places, and the lowest place that breaks it
unfoldable pub first_fault : ℕ → List ℕ → Option Fault
first_fault n t = fault_from 1 rules n t

-- a table of n places with no broken rule
unfoldable pub sound : ℕ → List ℕ → Bool
sound n t = not (is_some (first_fault n t))
