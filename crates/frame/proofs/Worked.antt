-- Worked frames, computed: a request with every field reads to what it says, and each of refusals 6 to 9 is given.
-- Assumes nothing. The bytes were worked out from the papers.
use mathlib.Core.Path.{◌≡◌, refl}
use Rattle.std.specs.Prelude.{Option, None, Some}
use mathlib.Core.List.{[], ◌∷◌}
use Rattle.hex_digits.specs.Texts.{hex}
use Rattle.ttlv.specs.Items.{Items, nil, ended}
use Rattle.frame.specs.Frame.{Framed, refused, asked}
use Rattle.octets.specs.If.{ifb}
use Rattle.octets.specs.Maybe.{◌>>=◌, ◌>>◌, is_some}
use Rattle.octets.specs.Octets.{be, from_be_after, from_be, all, same}
use Rattle.utf8.specs.Text.{text}
use Rattle.ttlv_types.specs.Types.{length_ok, value_ok}
use Rattle.ttlv.specs.Items.{encode, item_ok, well_formed}
use Rattle.ttlv.specs.Parse.{headed, first_of, put_value, put_group, more, walk, parse, is_one, message}
use Rattle.fields.specs.Fields.{starts_with, bytes_of, body_of, number_of, optional}
use Rattle.batch_item.specs.Item.{id_ok, id_bytes, item_in, items_in}
use Rattle.frame.specs.Frame.{version_in, header_in, frame_in, option_of, framing, framed}

-- what bytes say as a frame; 5 where they are no item
framed_bytes : Option Items → Framed
framed_bytes None = refused 5
framed_bytes (Some t) = framed t

-- the definitions that the cases compute with: who opens this opens them all
opened : Unit {0}
unfolding framed_bytes ifb ◌>>=◌ ◌>>◌ is_some be from_be_after from_be all same length_ok text value_ok encode item_ok well_formed headed first_of put_value put_group more walk parse is_one message starts_with ended bytes_of body_of number_of optional version_in header_in id_ok id_bytes item_in items_in frame_in option_of framing framed
opened = tt

-- version, option Continue, count, one Activate with an ID of two bytes and an empty payload
every_field : framed_bytes (message (hex "42007801 00000080 42007701 00000048 42006901 00000020 42006A02 00000004 00000002 00000000 42006B02 00000004 00000001 00000000 42000E05 00000004 00000001 00000000 42000D02 00000004 00000001 00000000 42000F01 00000028 42005C05 00000004 00000012 00000000 42009308 00000002 07080000 00000000 42007901 00000000")) ≡ asked (record { option = 1; items = record { operation = 0x12; id = 7 ∷ 8 ∷ []; payload = nil } ∷ [] })
unfolding opened
every_field = refl

-- no option means Stop
no_option : framed_bytes (message (hex "42007801 00000060 42007701 00000038 42006901 00000020 42006A02 00000004 00000002 00000000 42006B02 00000004 00000001 00000000 42000D02 00000004 00000001 00000000 42000F01 00000018 42005C05 00000004 00000012 00000000 42007901 00000000")) ≡ asked (record { option = 2; items = record { operation = 0x12; id = []; payload = nil } ∷ [] })
unfolding opened
no_option = refl

-- a frame with no batch item
no_item : framed_bytes (message (hex "42007801 00000040 42007701 00000038 42006901 00000020 42006A02 00000004 00000002 00000000 42006B02 00000004 00000001 00000000 42000D02 00000004 00000000 00000000")) ≡ refused 6
unfolding opened
no_item = refl

-- version 2.0
other_version : framed_bytes (message (hex "42007801 00000060 42007701 00000038 42006901 00000020 42006A02 00000004 00000002 00000000 42006B02 00000004 00000000 00000000 42000D02 00000004 00000001 00000000 42000F01 00000018 42005C05 00000004 00000012 00000000 42007901 00000000")) ≡ refused 7
unfolding opened
other_version = refl

-- two counted, one there
other_count : framed_bytes (message (hex "42007801 00000060 42007701 00000038 42006901 00000020 42006A02 00000004 00000002 00000000 42006B02 00000004 00000001 00000000 42000D02 00000004 00000002 00000000 42000F01 00000018 42005C05 00000004 00000012 00000000 42007901 00000000")) ≡ refused 8
unfolding opened
other_count = refl

-- option 4
other_option : framed_bytes (message (hex "42007801 00000070 42007701 00000048 42006901 00000020 42006A02 00000004 00000002 00000000 42006B02 00000004 00000001 00000000 42000E05 00000004 00000004 00000000 42000D02 00000004 00000001 00000000 42000F01 00000018 42005C05 00000004 00000012 00000000 42007901 00000000")) ≡ refused 9
unfolding opened
other_option = refl

-- 02, L8: option 3, Undo
undo_option : framed_bytes (message (hex "42007801 00000070 42007701 00000048 42006901 00000020 42006A02 00000004 00000002 00000000 42006B02 00000004 00000001 00000000 42000E05 00000004 00000003 00000000 42000D02 00000004 00000001 00000000 42000F01 00000018 42005C05 00000004 00000012 00000000 42007901 00000000")) ≡ asked (record { option = 3; items = record { operation = 0x12; id = []; payload = nil } ∷ [] })
unfolding opened
undo_option = refl
