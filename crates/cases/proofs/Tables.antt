-- Worked cases of soundness, by computation: the blank table, tables with keys, and for each rule a table whose first fault it is.
-- Assumes nothing.
use mathlib.Core.Path.{◌≡◌, refl}
use Prim.Native.Nat.{ℕ, ◌+◌}
use mathlib.Core.Bool.{Bool, true, ◌&&◌}
use Rattle.std.specs.Prelude.{Some}
use mathlib.Core.List.{List, [], ◌∷◌, ◌++◌, map}
use lib.ListN.{replicate, set}
use Rattle.octets.specs.If.{ifb}
use Rattle.octets.specs.Maybe.{is_some}
use Rattle.octets.specs.Octets.{be, from_be, from_be_after, all}
use Rattle.utf8.specs.Text.{text}
use Rattle.words.specs.Words.{words_of, word_bytes, filled}
use Rattle.names.specs.declared.Name.{Name}
use Rattle.names.specs.Names.{name_field, stored_name, no_name, name_text, name_of, same_name, shape_right}
use Rattle.table.specs.declared.Record.{Record}
use Rattle.table.specs.Layout.{body_start, small_count, zeros_in}
use Rattle.table.specs.Records.{line, body, record_of, place_at, with_place, serial_at, name_at, last_serial, with_last, places_said, latest_clock, with_clock, blank}
use Rattle.search.specs.Search.{first_from, is_nothing, find}
use Rattle.record_rules.specs.Rules.{state_right, bits_right, mask_right, limit_right, tail_right, wiped_right, replaced_right, replacement_right, dates_right, order_right, started_right, name_right, name_text_right}
use Rattle.soundness.specs.Sound.{size_right, count_right, latest_right, free_right, zeros_right, distinct_right, issued_right, names_differ, if_stands, links_right, breaks_free, breaks_standing, whole, at_place, or_later, fault_from, first_fault, sound}

-- a key of 128 bits with a limit of 100 objects
abbrev key : ℕ → Record
key serial = record {
  serial = serial;
  state = 2;
  unit = 2;
  bits = 128;
  replaced = 0;
  replacement = 0;
  total = 100;
  count = 90;
  mask = 4;
  material = replicate 16 7 ++ replicate 16 0;
  activation = 0;
  deactivation = 0;
  name = no_name;
}

-- the same key, but for one value or two
abbrev with_values : ℕ → ℕ → ℕ → ℕ → Record → Record
with_values state bits mask count r = record {
  serial = r.serial;
  state = state;
  unit = r.unit;
  bits = bits;
  replaced = r.replaced;
  replacement = r.replacement;
  total = r.total;
  count = count;
  mask = mask;
  material = r.material;
  activation = r.activation;
  deactivation = r.deactivation;
  name = r.name;
}

abbrev with_links : ℕ → ℕ → Record → Record
with_links replaced replacement r = record {
  serial = r.serial;
  state = r.state;
  unit = r.unit;
  bits = r.bits;
  replaced = replaced;
  replacement = replacement;
  total = r.total;
  count = r.count;
  mask = r.mask;
  material = r.material;
  activation = r.activation;
  deactivation = r.deactivation;
  name = r.name;
}

abbrev with_material : List ℕ → Record → Record
with_material material r = record {
  serial = r.serial;
  state = r.state;
  unit = r.unit;
  bits = r.bits;
  replaced = r.replaced;
  replacement = r.replacement;
  total = r.total;
  count = r.count;
  mask = r.mask;
  material = material;
  activation = r.activation;
  deactivation = r.deactivation;
  name = r.name;
}

abbrev with_dates : ℕ → ℕ → Record → Record
with_dates activation deactivation r = record {
  serial = r.serial;
  state = r.state;
  unit = r.unit;
  bits = r.bits;
  replaced = r.replaced;
  replacement = r.replacement;
  total = r.total;
  count = r.count;
  mask = r.mask;
  material = r.material;
  activation = activation;
  deactivation = deactivation;
  name = r.name;
}

abbrev with_name : Name → Record → Record
with_name name r = record {
  serial = r.serial;
  state = r.state;
  unit = r.unit;
  bits = r.bits;
  replaced = r.replaced;
  replacement = r.replacement;
  total = r.total;
  count = r.count;
  mask = r.mask;
  material = r.material;
  activation = r.activation;
  deactivation = r.deactivation;
  name = name;
}

-- a name of one byte, and one that is stored otherwise: a further byte stands past its length
abbrev short : ℕ → Name
short byte = name_of (byte ∷ [])

abbrev overlong : Name
overlong = record { len = 1; zeros = 0; words = words_of (0x61 ∷ 0x62 ∷ replicate 30 0) }

-- four places, of which 1 and 2 hold keys; serials up to 3 have been issued
abbrev pair : Record → Record → List ℕ
pair p q = with_last (with_place 4 (with_place 4 (blank 4) 1 p) 2 q) 3

abbrev good : List ℕ
good = pair (key 1) (key 2)

-- one table for each rule, in the order of the rules
abbrev faulty : List (List ℕ)
faulty =
    (good ++ (0 ∷ []))
    ∷ set good 7 5
    ∷ set good (body_start 4 3 + 111) 1
    ∷ set good (body_start 4 1 + zeros_in) 1
    ∷ pair (key 2) (key 2)
    ∷ pair (key 1) (key 4)
    ∷ pair (with_values 7 128 4 90 (key 1)) (key 2)
    ∷ pair (key 1) (with_values 2 64 4 90 (key 2))
    ∷ pair (with_values 2 128 0x01000000 90 (key 1)) (key 2)
    ∷ pair (key 1) (with_values 2 128 4 101 (key 2))
    ∷ pair (with_material (replicate 32 7) (key 1)) (key 2)
    ∷ pair (key 1) (with_values 5 128 4 90 (key 2))
    ∷ pair (key 1) (with_links 2 0 (key 2))
    ∷ pair (with_links 0 4 (key 1)) (key 2)
    ∷ pair (key 1) (with_links 1 0 (key 2))
    ∷ with_clock (pair (with_dates 0x8000000000000000 0 (key 1)) (key 2)) 1
    ∷ with_clock good 0x8000000000000000
    ∷ with_clock (pair (key 1) (with_dates 9 8 (key 2))) 9
    ∷ pair (with_dates 1 0 (key 1)) (key 2)
    ∷ pair (with_name (short 0x61) (key 1)) (with_name overlong (key 2))
    ∷ pair (with_name (short 0xFF) (key 1)) (with_name (short 0xFF) (key 2))
    ∷ pair (with_name (short 0x61) (key 1)) (with_name (short 0x61) (key 2))
    ∷ []

-- what is wrong with each
pub faults : map (first_fault 4) faulty
    ≡ Some (whole 1)
    ∷ Some (whole 2)
    ∷ Some (at_place 3 3)
    ∷ Some (at_place 4 1)
    ∷ Some (at_place 5 1)
    ∷ Some (at_place 6 2)
    ∷ Some (at_place 7 1)
    ∷ Some (at_place 8 2)
    ∷ Some (at_place 9 1)
    ∷ Some (at_place 10 2)
    ∷ Some (at_place 11 1)
    ∷ Some (at_place 12 2)
    ∷ Some (at_place 13 2)
    ∷ Some (at_place 14 1)
    ∷ Some (at_place 15 2)
    ∷ Some (at_place 16 1)
    ∷ Some (whole 17)
    ∷ Some (at_place 18 2)
    ∷ Some (at_place 19 1)
    ∷ Some (at_place 20 2)
    ∷ Some (at_place 21 1)
    ∷ Some (at_place 22 1)
    ∷ []
unfolding ifb be from_be from_be_after all line body record_of place_at with_place serial_at last_serial with_last places_said latest_clock with_clock blank first_from is_nothing find size_right count_right latest_right free_right zeros_right distinct_right issued_right state_right bits_right mask_right limit_right tail_right wiped_right replaced_right replacement_right dates_right order_right started_right if_stands links_right breaks_free breaks_standing or_later fault_from first_fault words_of word_bytes filled text name_field stored_name name_text name_of same_name shape_right name_at name_right name_text_right names_differ
faults = refl

-- tables with nothing wrong: two keys; a key and its replacement; a key whose replacement stands no more; one key; keys with dates, one of them past its deactivation date; two names; a name of 32 bytes and one of 31; the table that the box starts with
abbrev right : Bool
right =
    sound 4 good
    && sound 4 (pair (with_links 0 2 (key 1)) (with_links 1 0 (key 2)))
    && sound 4 (pair (with_links 0 3 (key 1)) (key 2))
    && sound 4 (with_last (with_place 4 (blank 4) 3 (key 9)) 9)
    && sound 4 (with_clock (pair (with_dates 7 8 (key 1)) (with_dates 0 1 (key 2))) 7)
    && sound 4 (pair (with_name (short 0x61) (key 1)) (with_name (short 0x62) (key 2)))
    && sound 4 (pair (with_name (name_of (replicate 32 0x61)) (key 1)) (with_name (name_of (replicate 31 0x61)) (key 2)))
    && sound small_count (blank small_count)

pub none_wrong : right ≡ true
unfolding ifb is_some be from_be from_be_after all line body record_of place_at with_place serial_at last_serial with_last places_said latest_clock with_clock blank first_from is_nothing find size_right count_right latest_right free_right zeros_right distinct_right issued_right state_right bits_right mask_right limit_right tail_right wiped_right replaced_right replacement_right dates_right order_right started_right if_stands links_right breaks_free breaks_standing or_later fault_from first_fault sound words_of word_bytes filled text name_field stored_name name_text name_of same_name shape_right name_at name_right name_text_right names_differ
none_wrong = refl
