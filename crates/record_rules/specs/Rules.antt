-- 01, "Sound", and 02, L3 and L6: those of the rules that a record answers to by itself, 7 to 14, 16, 18 to 21. The list of all, with the others, stands in soundness (specs/Sound.antt).
-- Assumes nothing.
use Rattle.std.specs.Prelude.{ℕ, ◌/◌, Bool, true, not, ◌&&◌, ◌||◌, drop, leb, ltb, eqb}
use Rattle.octets.specs.If.{ifb}
use Rattle.octets.specs.Octets.{all_zero}
use Rattle.utf8.specs.Text.{text}
use Rattle.names.specs.Names.{name_text, shape_right}
use Rattle.values.specs.Values.{bits_ok, mask_ok, unit_ok, total_ok, not_negative, in_order}
use Rattle.table.specs.declared.Record.{Record}
use Rattle.search.specs.Search.{is_destroyed}

-- rule 7: "state 1 to 6"
unfoldable pub state_right : Record → Bool
state_right r = leb 1 r.state && leb r.state 6

-- rule 8: "length 128, 192 or 256"
unfoldable pub bits_right : Record → Bool
bits_right r = bits_ok r.bits

-- rule 9: "mask at most 00FFFFFF hex"
unfoldable pub mask_right : Record → Bool
mask_right r = mask_ok r.mask

-- rule 10: "unit 0 with total and count zero, or unit 1 or 2 with total 1 to 1,000,000,000,000 and count at most total"
unfoldable pub limit_right : Record → Bool
limit_right r =
    ifb (eqb r.unit 0) (eqb r.total 0 && eqb r.count 0)
    (unit_ok r.unit && total_ok r.total && leb r.count r.total)

-- rule 11: "material zero past its length"
unfoldable pub tail_right : Record → Bool
tail_right r = all_zero (drop (r.bits / 8) r.material)

-- rule 12: "and wholly zero in states 5 and 6"
unfoldable pub wiped_right : Record → Bool
wiped_right r = ifb (is_destroyed r.state) (all_zero r.material) true

-- rule 13: "A replaced serial is 0 or below its own"
unfoldable pub replaced_right : Record → Bool
replaced_right r = eqb r.replaced 0 || ltb r.replaced r.serial

-- rule 14: "a replacement serial is 0 or above its own and at most the last issued"
unfoldable pub replacement_right : ℕ → Record → Bool
replacement_right last r = eqb r.replacement 0 || (ltb r.serial r.replacement && leb r.replacement last)

-- rule 16: "neither a date .. negative"
unfoldable pub dates_right : Record → Bool
dates_right r = not_negative r.activation && not_negative r.deactivation

-- rule 18: "deactivation not before activation where both are set"
unfoldable pub order_right : Record → Bool
order_right r = in_order r.activation r.deactivation

-- rule 19: "a set activation date of an Active key at most the latest clock"; one that is not set is 0, at most any clock
unfoldable pub started_right : ℕ → Record → Bool
started_right latest r = not (eqb r.state 2) || leb r.activation latest

-- rule 20: "a length byte (0 means no name), seven zeros and 32 name bytes, zero past the length"
unfoldable pub name_right : Record → Bool
name_right r = shape_right r.name

-- rule 21: "Sound names are RFC 3629 text"; no name is the text of no bytes
unfoldable pub name_text_right : Record → Bool
name_text_right r = text (name_text r.name)
