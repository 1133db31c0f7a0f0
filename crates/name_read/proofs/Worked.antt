-- Worked names, computed: items read to the name that they spell.
-- Assumes nothing. The bytes were worked out from the papers.
use mathlib.Core.Path.{◌≡◌, refl}
use Rattle.std.specs.Prelude.{Option, None, Some}
use mathlib.Core.List.{[]}
use Rattle.hex_digits.specs.Texts.{hex}
use Rattle.octets.specs.If.{ifb}
use Rattle.octets.specs.Maybe.{◌>>=◌, ◌>>◌, is_some}
use Rattle.octets.specs.Octets.{be, from_be_after, from_be, all, same}
use Rattle.utf8.specs.Text.{text}
use Rattle.ttlv_types.specs.Types.{length_ok, value_ok}
use Rattle.ttlv.specs.Items.{Items, ended, encode, item_ok, well_formed}
use Rattle.ttlv.specs.Parse.{headed, first_of, put_value, put_group, more, walk, parse, is_one, message}
use Rattle.fields.specs.Fields.{starts_with, bytes_of, body_of, number_of, optional}
use Rattle.words.specs.Words.{words_of, filled}
use Rattle.names.specs.declared.Name.{Name}
use Rattle.names.specs.Names.{no_name, name_of, name_ok}
use Rattle.name_read.specs.Name.{name_body, name_first, only_name_in, or_no_name, last_name_in}

-- where bytes are no items: a name that no case expects, so that what is none here is a run of items
abbrev broken : Name
broken = record { len = 0; zeros = 1; words = no_name.words }

-- the name that the bytes spell, alone and as last attribute
only_from : Option Items → Option Name
only_from None = Some broken
only_from (Some t) = only_name_in t

last_from : Option Items → Option Name
last_from None = Some broken
last_from (Some t) = last_name_in t

-- the definitions that the cases compute with: who opens this opens them all
opened : Unit {0}
unfolding only_from last_from ifb ◌>>=◌ ◌>>◌ is_some be from_be_after from_be all same length_ok text value_ok encode item_ok well_formed headed first_of put_value put_group more walk parse is_one message starts_with ended bytes_of body_of number_of optional words_of filled name_of name_ok name_body name_first only_name_in or_no_name last_name_in
opened = tt

-- "pump"
abbrev pump : Name
pump = record { len = 4; zeros = 0; words = record { a = 0x70756D7000000000; b = 0; c = 0; d = 0 } }

alone : only_from (parse 5 (hex "42005301 00000020 42005507 00000004 70756D70 00000000 42005405 00000004 00000001 00000000")) ≡ Some pump
unfolding opened
alone = refl

last : last_from (parse 5 (hex "42005301 00000020 42005507 00000004 70756D70 00000000 42005405 00000004 00000001 00000000")) ≡ Some pump
unfolding opened
last = refl

-- no name may be the last attribute, and is not what Locate asks for
not_given : last_from (parse 5 []) ≡ Some no_name
unfolding opened
not_given = refl

nothing_asked : only_from (parse 5 []) ≡ None
unfolding opened
nothing_asked = refl

-- type 2, a URI
uri : only_from (parse 5 (hex "42005301 00000020 42005507 00000004 70756D70 00000000 42005405 00000004 00000002 00000000")) ≡ None
unfolding opened
uri = refl

-- the type in front of the text
exchanged : only_from (parse 5 (hex "42005301 00000020 42005405 00000004 00000001 00000000 42005507 00000004 70756D70 00000000")) ≡ None
unfolding opened
exchanged = refl

-- no type
no_type : only_from (parse 5 (hex "42005301 00000010 42005507 00000004 70756D70 00000000")) ≡ None
unfolding opened
no_type = refl

-- a text of no bytes
empty : only_from (parse 5 (hex "42005301 00000018 42005507 00000000 42005405 00000004 00000001 00000000")) ≡ None
unfolding opened
empty = refl

-- 33 bytes of text
too_long : only_from (parse 5 (hex "42005301 00000040 42005507 00000021 61616161 61616161 61616161 61616161 61616161 61616161 61616161 61616161 61000000 00000000 42005405 00000004 00000001 00000000")) ≡ None
unfolding opened
too_long = refl

-- a Byte String
no_text : only_from (parse 5 (hex "42005301 00000020 42005508 00000004 70756D70 00000000 42005405 00000004 00000001 00000000")) ≡ None
unfolding opened
no_text = refl

-- two names
twice : last_from (parse 5 (hex "42005301 00000020 42005507 00000004 70756D70 00000000 42005405 00000004 00000001 00000000 42005301 00000020 42005507 00000004 70756D70 00000000 42005405 00000004 00000001 00000000")) ≡ None
unfolding opened
twice = refl

-- a date behind the name, and one in its place
more_behind : last_from (parse 5 (hex "42005301 00000020 42005507 00000004 70756D70 00000000 42005405 00000004 00000001 00000000 42000109 00000008 00000000 00000005")) ≡ None
unfolding opened
more_behind = refl

something_else : last_from (parse 5 (hex "42000109 00000008 00000000 00000005")) ≡ None
unfolding opened
something_else = refl
