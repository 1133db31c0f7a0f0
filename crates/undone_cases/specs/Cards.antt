-- Cases of 02, L8, as one list of tests over the definitions: option 3 with an item that fails and with none, and the second buffer. Requests and responses stand as bytes.
-- Assumes nothing. The bytes were worked out from the papers and not from these definitions.
use Rattle.std.specs.Prelude.{ℕ, Bool, ◌&&◌, List, [], ◌∷◌, ◌++◌, replicate, eqb}
use Rattle.octets.specs.Octets.{from_be, part, same}
use Rattle.calls.specs.Effects.{Effect}
use Rattle.hex_digits.specs.Texts.{hex}
use Rattle.cases.specs.Cards.{call_with, blank_table, continue_request, answers, refuses}

-- ---- a batch that is undone

-- under option 3: a Create of 128 bits, then a Create of 129
unfoldable pub undo_request : List ℕ
undo_request = hex "42007801 00000120 42007701 00000048 42006901 00000020 42006A02 00000004 00000002 00000000 42006B02 00000004 00000001 00000000 42000E05 00000004 00000003 00000000 42000D02 00000004 00000002 00000000 42000F01 00000060 42005C05 00000004 00000001 00000000 42007901 00000048 42005705 00000004 00000002 00000000 42012501 00000030 42002805 00000004 00000003 00000000 42002A02 00000004 00000080 00000000 42002C02 00000004 00000004 00000000 42000F01 00000060 42005C05 00000004 00000001 00000000 42007901 00000048 42005705 00000004 00000002 00000000 42012501 00000030 42002805 00000004 00000003 00000000 42002A02 00000004 00000081 00000000 42002C02 00000004 00000004 00000000"

-- status 3 and no payload, then Invalid Field
unfoldable pub undone_response : List ℕ
undone_response = hex "42007B01 000000B0 42007A01 00000048 42006901 00000020 42006A02 00000004 00000002 00000000 42006B02 00000004 00000001 00000000 42009209 00000008 00000000 00000001 42000D02 00000004 00000002 00000000 42000F01 00000020 42005C05 00000004 00000001 00000000 42007F05 00000004 00000003 00000000 42000F01 00000030 42005C05 00000004 00000001 00000000 42007F05 00000004 00000001 00000000 42007E05 00000004 00000007 00000000"

-- the blank table with the latest clock 1 stored: the table before the first item
unfoldable pub begun_table : List ℕ
begun_table = hex "00000000 00000040 00000000 00000001" ++ replicate 8192 0

-- a second buffer of the table's size, with what it happens to hold
unfoldable pub used_buffer : List ℕ
used_buffer = replicate 8208 9

-- "if any item fails, the table after the request is the table before it, apart from the latest clock", and so is what the second buffer holds;
-- "those that had succeeded carry status 3 (Operation Undone) and no payload, the failed one its reason"
unfoldable pub undone : Bool
undone = let e = call_with used_buffer 1 blank_table undo_request in answers undone_response e && same e.table begun_table && same e.undo begun_table

-- ---- one that is not

-- under option 3: two Creates of 128 bits
unfoldable pub pass_request : List ℕ
pass_request = hex "42007801 00000120 42007701 00000048 42006901 00000020 42006A02 00000004 00000002 00000000 42006B02 00000004 00000001 00000000 42000E05 00000004 00000003 00000000 42000D02 00000004 00000002 00000000 42000F01 00000060 42005C05 00000004 00000001 00000000 42007901 00000048 42005705 00000004 00000002 00000000 42012501 00000030 42002805 00000004 00000003 00000000 42002A02 00000004 00000080 00000000 42002C02 00000004 00000004 00000000 42000F01 00000060 42005C05 00000004 00000001 00000000 42007901 00000048 42005705 00000004 00000002 00000000 42012501 00000030 42002805 00000004 00000003 00000000 42002A02 00000004 00000080 00000000 42002C02 00000004 00000004 00000000"

-- identifiers 00000001 and 00000002
unfoldable pub passed_response : List ℕ
passed_response = hex "42007B01 000000F0 42007A01 00000048 42006901 00000020 42006A02 00000004 00000002 00000000 42006B02 00000004 00000001 00000000 42009209 00000008 00000000 00000001 42000D02 00000004 00000002 00000000 42000F01 00000048 42005C05 00000004 00000001 00000000 42007F05 00000004 00000000 00000000 42007C01 00000020 42005705 00000004 00000002 00000000 42009407 00000008 30303030 30303031 42000F01 00000048 42005C05 00000004 00000001 00000000 42007F05 00000004 00000000 00000000 42007C01 00000020 42005705 00000004 00000002 00000000 42009407 00000008 30303030 30303032"

-- the last serial in the lead, and the serial in the line of place 0
unfoldable pub last_left : Effect → ℕ
last_left e = from_be (part e.table 0 4)

unfoldable pub first_left : Effect → ℕ
first_left e = from_be (part e.table 16 4)

-- on the table that the undone request left: "a serial from an undone item may be issued again"; both stand, and the second buffer holds the table before them all the same
unfoldable pub issued_again : Bool
issued_again = let e = call_with used_buffer 1 begun_table pass_request in answers passed_response e && eqb (last_left e) 2 && eqb (first_left e) 1 && same e.undo begun_table

-- ---- the second buffer

-- "it is untouched by any other request", though items of it fail
unfoldable pub buffer_untouched : Bool
buffer_untouched = let e = call_with used_buffer 1 blank_table continue_request in eqb e.number 0 && same e.undo used_buffer

-- "a wrong size is refusal 11, tested after 10 for every option"
unfoldable pub wrong_size : Bool
wrong_size =
    refuses 11 (call_with (replicate 8207 9) 1 blank_table undo_request)
    && refuses 11 (call_with [] 1 blank_table continue_request)
    && refuses 10 (call_with [] 0 blank_table undo_request)

-- ---- the list

unfoldable pub undone_cases : List Bool
undone_cases = undone ∷ issued_again ∷ buffer_untouched ∷ wrong_size ∷ []
