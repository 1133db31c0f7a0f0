-- Worked targets, computed: the items at the front of a payload read to the record that they name.
-- Assumes nothing. The bytes were worked out from the papers.
use mathlib.Core.Path.{◌≡◌, refl}
use Rattle.std.specs.Prelude.{Option, None, Some}
use mathlib.Core.List.{[]}
use Rattle.hex_digits.specs.Texts.{hex}
use Rattle.octets.specs.If.{ifb}
use Rattle.octets.specs.Maybe.{◌>>=◌, ◌>>◌, is_some}
use Rattle.octets.specs.Octets.{be, from_be_after, from_be, all, same}
use Rattle.utf8.specs.Text.{text}
use Rattle.ttlv_types.specs.Types.{length_ok, value_ok}
use Rattle.ttlv.specs.Items.{Items, nil, encode, item_ok, well_formed}
use Rattle.ttlv.specs.Parse.{headed, first_of, put_value, put_group, more, walk, parse, is_one, message}
use Rattle.fields.specs.Fields.{starts_with, bytes_of, optional}
use Rattle.identifier.specs.Identifier.{digits, identifier, from_digits_after, serial_of}
use Rattle.target_read.specs.Target.{target_of, target_in}
use Rattle.target_read.specs.declared.Target.{Target}
use Rattle.target_read.specs.declared.Target.TheVariants.{Placeholder, Serial}

-- the target that the bytes spell, and what stands behind it; none where they are no items
target_from : Option Items → Option (Target × Items)
target_from None = None
target_from (Some t) = target_in t

-- the definitions that the cases compute with: who opens this opens them all
opened : Unit {0}
unfolding target_from ifb ◌>>=◌ ◌>>◌ is_some be from_be_after from_be all same length_ok text value_ok encode item_ok well_formed headed first_of put_value put_group more walk parse is_one message starts_with bytes_of optional digits identifier from_digits_after serial_of target_of target_in
opened = tt

named : target_from (parse 6 (hex "42009407 00000008 30303030 30303041")) ≡ Some (Serial 10, nil)
unfolding opened
named = refl

held : target_from (parse 6 []) ≡ Some (Placeholder, nil)
unfolding opened
held = refl

-- an Integer
no_text : target_from (parse 6 (hex "42009402 00000004 00000001 00000000")) ≡ None
unfolding opened
no_text = refl
