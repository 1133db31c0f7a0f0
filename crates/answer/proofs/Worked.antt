-- Worked responses, computed: written to the papers' bytes, and read back.
-- Assumes nothing. The bytes were worked out from the papers.
use Prim.Native.Nat.{ℕ}
use mathlib.Core.Path.{◌≡◌, refl}
use mathlib.Core.Bool.{false}
use Rattle.std.specs.Prelude.{None, Some}
use mathlib.Core.List.{List, [], ◌∷◌}
use lib.ListN.{length, replicate}
use Rattle.hex_digits.specs.Texts.{hex}
use Rattle.words.specs.Words.{words_of, word_bytes, words_ok, filled}
use Rattle.rules.specs.declared.Reason.TheVariants.{OperationNotSupported, ObjectNotFound}
use Rattle.plans.specs.declared.Outcome.TheVariants.{Failed, Done, Showed, Got, Located, Undone}
use Rattle.names.specs.declared.Name.{Name}
use Rattle.names.specs.Names.{name_text, name_of, name_ok, same_name}
use Rattle.name_read.specs.Name.{or_no_name}
use Rattle.answer.specs.Respond.{Answer, Response, date_items, limit_items, link_items, name_items, located_items, attribute_items, material_of, key_items, outcome_items, id_items, answer_items, batch_items, version_items, header_items, respond}
use Rattle.octets.specs.If.{ifb}
use Rattle.octets.specs.Maybe.{◌>>=◌, ◌>>◌, is_some}
use Rattle.octets.specs.Octets.{be, from_be_after, from_be, all, same}
use Rattle.utf8.specs.Text.{text}
use Rattle.ttlv_types.specs.Types.{length_ok, value_ok}
use Rattle.ttlv.specs.Items.{nil, group, encode, item_ok, well_formed, ended}
use Rattle.tags.specs.Tags.{batch_item}
use Rattle.ttlv.specs.Parse.{headed, first_of, put_value, put_group, more, walk, parse, is_one, message}
use Rattle.fields.specs.Fields.{starts_with, bytes_of, body_of, number_of, optional}
use Rattle.identifier.specs.Identifier.{digits, identifier, from_digits_after, serial_of}
use Rattle.attributes_read.specs.Attributes.{or_unset}
use Rattle.frame.specs.Frame.{version_in, header_in, frame_in, option_of, framing, framed}
use Rattle.batch_item.specs.Item.{id_ok, id_bytes, item_in, items_in}
use Rattle.answer.specs.Read.{spelled, fixed, serial_in, set_date, limits_first, or_no_limits, link_first, or_no_link, link_in, name_shown, located_in, name_shown_ok, shown_in, created_in, done_in, showed_in, key_read, key_block_in, key_in, got_in, payload_in, reason_among, failure_in, success_in, undone_in, status_in, outcome_in, answer_in, answers_of, head_in, shown_ok, key_ok, outcome_ok, answer_ok, allowed, if_allowed, answers_in}

-- 01's card, at L3's clock 1: "Activate of the Pre-Active "00000001", alone, no Unique Batch Item ID, .., whole response of 152 bytes"
abbrev activated : Response
activated = record { clock = 1; answers = record { operation = 0x12; id = []; outcome = Done 1 } ∷ [] }

-- the definitions that the cases compute with: who opens this opens them all
opened : Unit {0}
unfolding words_of word_bytes words_ok filled ifb ◌>>=◌ ◌>>◌ is_some be from_be_after from_be all same length_ok text value_ok encode item_ok well_formed headed first_of put_value put_group more walk parse is_one message starts_with ended bytes_of body_of number_of optional digits identifier from_digits_after serial_of version_in header_in id_ok id_bytes item_in items_in frame_in option_of framing framed date_items limit_items link_items name_items located_items attribute_items material_of key_items outcome_items id_items answer_items batch_items version_items header_items respond spelled fixed serial_in set_date or_unset limits_first or_no_limits link_first or_no_link link_in name_shown located_in name_shown_ok name_text name_of name_ok same_name or_no_name shown_in created_in done_in showed_in key_read key_block_in key_in got_in payload_in reason_among failure_in success_in undone_in status_in outcome_in answer_in answers_of head_in shown_ok key_ok outcome_ok answer_ok allowed if_allowed answers_in
opened = tt

activated_written : encode (respond activated) ≡ hex "42007B01 00000090 42007A01 00000048 42006901 00000020 42006A02 00000004 00000002 00000000 42006B02 00000004 00000001 00000000 42009209 00000008 00000000 00000001 42000D02 00000004 00000001 00000000 42000F01 00000038 42005C05 00000004 00000012 00000000 42007F05 00000004 00000000 00000000 42007C01 00000010 42009407 00000008 30303030 30303031"
unfolding opened
activated_written = refl

activated_read : answers_in (respond activated) ≡ Some activated
unfolding opened
activated_read = refl

-- a name of 32 bytes
abbrev full : Name
full = record { len = 32; zeros = 0; words = record { a = 0x4142434445464748; b = 0x494A4B4C4D4E4F50; c = 0x5152535455565758; d = 0x595A5B5C5D5E5F60 } }

-- the longest answer: both dates, a usage limit, both links, a name of 32 bytes, an ID of 16 bytes
abbrev longest : Answer
longest = record {
  operation = 0x0B;
  id = hex "000102030405060708090A0B0C0D0E0F";
  outcome = Showed (record { serial = 2; bits = 256; mask = 4; state = 2; activation = 5; deactivation = 9; unit = 1; total = 100; count = 40; replaced = 1; replacement = 3; name = full });
}

-- with the latest clock that there is, and a failure of an operation that there is not
abbrev mixed : Response
mixed = record { clock = 0x7FFFFFFFFFFFFFFF; answers = longest ∷ record { operation = 0x99; id = 1 ∷ []; outcome = Failed OperationNotSupported } ∷ [] }

mixed_written : encode (respond mixed) ≡ hex "42007B01 00000220 42007A01 00000048 42006901 00000020 42006A02 00000004 00000002 00000000 42006B02 00000004 00000001 00000000 42009209 00000008 7FFFFFFF FFFFFFFF 42000D02 00000004 00000002 00000000 42000F01 00000180 42005C05 00000004 0000000B 00000000 42009308 00000010 00010203 04050607 08090A0B 0C0D0E0F 42007F05 00000004 00000000 00000000 42007C01 00000140 42009407 00000008 30303030 30303032 42012501 00000128 42002805 00000004 00000003 00000000 42002A02 00000004 00000100 00000000 42002C02 00000004 00000004 00000000 42008D05 00000004 00000002 00000000 42000109 00000008 00000000 00000005 42002F09 00000008 00000000 00000009 42009501 00000030 42009703 00000008 00000000 00000064 42009603 00000008 00000000 00000028 42009805 00000004 00000001 00000000 42004A01 00000020 42004B05 00000004 00000107 00000000 42004C07 00000008 30303030 30303031 42004A01 00000020 42004B05 00000004 00000106 00000000 42004C07 00000008 30303030 30303033 42005301 00000038 42005507 00000020 41424344 45464748 494A4B4C 4D4E4F50 51525354 55565758 595A5B5C 5D5E5F60 42005405 00000004 00000001 00000000 42000F01 00000040 42005C05 00000004 00000099 00000000 42009308 00000001 01000000 00000000 42007F05 00000004 00000001 00000000 42007E05 00000004 00000005 00000000"
unfolding opened
mixed_written = refl

mixed_read : answers_in (respond mixed) ≡ Some mixed
unfolding opened
mixed_read = refl

-- no response has a clock of 0, or one below
no_clock : answers_in (respond (record { clock = 0; answers = longest ∷ [] })) ≡ None
unfolding opened
no_clock = refl

clock_below : answers_in (respond (record { clock = 0xFFFFFFFFFFFFFFFF; answers = longest ∷ [] })) ≡ None
unfolding opened
clock_below = refl

-- no answer to a Create is an identifier alone
not_created : answers_in (respond (record { clock = 1; answers = record { operation = 0x01; id = []; outcome = Done 1 } ∷ [] })) ≡ None
unfolding opened
not_created = refl

-- ---- Get

-- an answer that hands out a key of so many bits, with this material
handing : ℕ → List ℕ → List ℕ → Answer
handing bits material id = record { operation = 0x0A; id = id; outcome = Got (record { serial = 1; bits = bits; material = words_of (filled material) }) }

-- 128 bits, material 00 to 0F
got : Response
got = record { clock = 1; answers = handing 128 (hex "000102030405060708090A0B0C0D0E0F") [] ∷ [] }

got_written : encode (respond got) ≡ hex "42007B01 00000100 42007A01 00000048 42006901 00000020 42006A02 00000004 00000002 00000000 42006B02 00000004 00000001 00000000 42009209 00000008 00000000 00000001 42000D02 00000004 00000001 00000000 42000F01 000000A8 42005C05 00000004 0000000A 00000000 42007F05 00000004 00000000 00000000 42007C01 00000080 42005705 00000004 00000002 00000000 42009407 00000008 30303030 30303031 42008F01 00000058 42004001 00000050 42004205 00000004 00000001 00000000 42004501 00000018 42004308 00000010 00010203 04050607 08090A0B 0C0D0E0F 42002805 00000004 00000003 00000000 42002A02 00000004 00000080 00000000"
unfolding opened got handing
got_written = refl

got_read : answers_in (respond got) ≡ Some got
unfolding opened got handing
got_read = refl

-- no response has key bytes past the length
not_past : allowed (record { clock = 1; answers = handing 128 (replicate 17 1) [] ∷ [] }) ≡ false
unfolding opened handing
not_past = refl

-- "A Get item stays within the 296 bytes": with an ID of 16 bytes the keys of 128, 192 and 256 bits make items of 200, 208 and 216
handed_sizes : length (encode (group batch_item (answer_items (handing 128 [] (replicate 16 1))) nil)) ∷ length (encode (group batch_item (answer_items (handing 192 [] (replicate 16 1))) nil)) ∷ length (encode (group batch_item (answer_items (handing 256 [] (replicate 16 1))) nil)) ∷ []
    ≡ 200 ∷ 208 ∷ 216 ∷ []
unfolding opened handing
handed_sizes = refl

-- Locate that found one, and one that found nothing, whose payload is empty
abbrev sought : Response
sought = record { clock = 1; answers = record { operation = 0x08; id = []; outcome = Located 2 } ∷ record { operation = 0x08; id = []; outcome = Located 0 } ∷ [] }

sought_written : encode (respond sought) ≡ hex "42007B01 000000C0 42007A01 00000048 42006901 00000020 42006A02 00000004 00000002 00000000 42006B02 00000004 00000001 00000000 42009209 00000008 00000000 00000001 42000D02 00000004 00000002 00000000 42000F01 00000038 42005C05 00000004 00000008 00000000 42007F05 00000004 00000000 00000000 42007C01 00000010 42009407 00000008 30303030 30303032 42000F01 00000028 42005C05 00000004 00000008 00000000 42007F05 00000004 00000000 00000000 42007C01 00000000"
unfolding opened
sought_written = refl

sought_read : answers_in (respond sought) ≡ Some sought
unfolding opened
sought_read = refl

-- 02, L8: an Activate that was undone and an item that failed: status 3 and nothing behind it; the undone item has 40 bytes
abbrev undone : Response
undone = record { clock = 1; answers = record { operation = 0x12; id = []; outcome = Undone } ∷ record { operation = 0x14; id = []; outcome = Failed ObjectNotFound } ∷ [] }

undone_written : encode (respond undone) ≡ hex "42007B01 000000B0 42007A01 00000048 42006901 00000020 42006A02 00000004 00000002 00000000 42006B02 00000004 00000001 00000000 42009209 00000008 00000000 00000001 42000D02 00000004 00000002 00000000 42000F01 00000020 42005C05 00000004 00000012 00000000 42007F05 00000004 00000003 00000000 42000F01 00000030 42005C05 00000004 00000014 00000000 42007F05 00000004 00000001 00000000 42007E05 00000004 00000037 00000000"
unfolding opened
undone_written = refl

undone_read : answers_in (respond undone) ≡ Some undone
unfolding opened
undone_read = refl

-- what cannot succeed cannot be undone: operation 2 is none of ours
not_undone : allowed (record { clock = 1; answers = record { operation = 2; id = []; outcome = Undone } ∷ [] }) ≡ false
unfolding opened
not_undone = refl
