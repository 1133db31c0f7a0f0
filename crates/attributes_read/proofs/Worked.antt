-- Worked attributes, computed: the items of Attributes read to what Create asks for.
-- Assumes nothing. The bytes were worked out from the papers.
use mathlib.Core.Path.{◌≡◌, refl}
use Rattle.std.specs.Prelude.{Option, None, Some}
use Rattle.hex_digits.specs.Texts.{hex}
use Rattle.ttlv.specs.Items.{Items, ended}
use Rattle.octets.specs.If.{ifb}
use Rattle.octets.specs.Maybe.{◌>>=◌, ◌>>◌, is_some}
use Rattle.octets.specs.Octets.{be, from_be_after, from_be, all, same}
use Rattle.utf8.specs.Text.{text}
use Rattle.ttlv_types.specs.Types.{length_ok, value_ok}
use Rattle.ttlv.specs.Items.{encode, item_ok, well_formed}
use Rattle.ttlv.specs.Parse.{headed, first_of, put_value, put_group, more, walk, parse, is_one, message}
use Rattle.fields.specs.Fields.{starts_with, bytes_of, body_of, number_of, optional}
use Rattle.rules.specs.declared.Attributes.{Attributes}
use Rattle.words.specs.Words.{words_of, filled}
use Rattle.names.specs.declared.Name.{Name}
use Rattle.names.specs.Names.{no_name, name_of, name_ok}
use Rattle.name_read.specs.Name.{name_body, name_first, or_no_name, last_name_in}
use Rattle.attributes_read.specs.Attributes.{limit_in, limit_first, date_first, or_unset, dated_in, wanted_of, limited_in, masked_in, attributes_in}

-- where bytes are no items: attributes that no case expects, so that what is none here is a run of items
abbrev broken : Attributes
broken = record { bits = 0; mask = 0; unit = 0; total = 0; activation = 0; deactivation = 0; name = no_name }

-- the attributes that the bytes spell
attributes_of : Option Items → Option Attributes
attributes_of None = Some broken
attributes_of (Some t) = attributes_in t

-- the definitions that the cases compute with: who opens this opens them all
opened : Unit {0}
unfolding attributes_of ifb ◌>>=◌ ◌>>◌ is_some be from_be_after from_be all same length_ok text value_ok encode item_ok well_formed headed first_of put_value put_group more walk parse is_one message starts_with ended bytes_of body_of number_of optional words_of filled name_of name_ok name_body name_first or_no_name last_name_in limit_in limit_first date_first or_unset dated_in wanted_of limited_in masked_in attributes_in
opened = tt

limited : attributes_of (parse 5 (hex "42002805 00000004 00000003 00000000 42002A02 00000004 00000080 00000000 42002C02 00000004 00000004 00000000 42009501 00000020 42009703 00000008 00000000 00000064 42009805 00000004 00000002 00000000")) ≡ Some (record { bits = 128; mask = 4; unit = 2; total = 100; activation = 0; deactivation = 0; name = no_name })
unfolding opened
limited = refl

unlimited : attributes_of (parse 5 (hex "42002805 00000004 00000003 00000000 42002A02 00000004 00000100 00000000 42002C02 00000004 0000000C 00000000")) ≡ Some (record { bits = 256; mask = 12; unit = 0; total = 0; activation = 0; deactivation = 0; name = no_name })
unfolding opened
unlimited = refl

-- a limit without its unit
no_unit : attributes_of (parse 5 (hex "42002805 00000004 00000003 00000000 42002A02 00000004 00000080 00000000 42002C02 00000004 00000004 00000000 42009501 00000010 42009703 00000008 00000000 00000064")) ≡ None
unfolding opened
no_unit = refl

-- a limit with Sign alone, with MAC Generate alone, and with both and Encrypt
limited_sign : attributes_of (parse 5 (hex "42002805 00000004 00000003 00000000 42002A02 00000004 00000080 00000000 42002C02 00000004 00000001 00000000 42009501 00000020 42009703 00000008 00000000 00000064 42009805 00000004 00000002 00000000")) ≡ Some (record { bits = 128; mask = 1; unit = 2; total = 100; activation = 0; deactivation = 0; name = no_name })
unfolding opened
limited_sign = refl

limited_mac : attributes_of (parse 5 (hex "42002805 00000004 00000003 00000000 42002A02 00000004 00000080 00000000 42002C02 00000004 00000080 00000000 42009501 00000020 42009703 00000008 00000000 00000064 42009805 00000004 00000002 00000000")) ≡ Some (record { bits = 128; mask = 0x80; unit = 2; total = 100; activation = 0; deactivation = 0; name = no_name })
unfolding opened
limited_mac = refl

limited_all : attributes_of (parse 5 (hex "42002805 00000004 00000003 00000000 42002A02 00000004 00000080 00000000 42002C02 00000004 00000085 00000000 42009501 00000020 42009703 00000008 00000000 00000064 42009805 00000004 00000002 00000000")) ≡ Some (record { bits = 128; mask = 0x85; unit = 2; total = 100; activation = 0; deactivation = 0; name = no_name })
unfolding opened
limited_all = refl

-- a limit with Decrypt alone, with no bit, and with all 24 but these three
limited_decrypt : attributes_of (parse 5 (hex "42002805 00000004 00000003 00000000 42002A02 00000004 00000080 00000000 42002C02 00000004 00000008 00000000 42009501 00000020 42009703 00000008 00000000 00000064 42009805 00000004 00000002 00000000")) ≡ None
unfolding opened
limited_decrypt = refl

limited_none : attributes_of (parse 5 (hex "42002805 00000004 00000003 00000000 42002A02 00000004 00000080 00000000 42002C02 00000004 00000000 00000000 42009501 00000020 42009703 00000008 00000000 00000064 42009805 00000004 00000002 00000000")) ≡ None
unfolding opened
limited_none = refl

limited_others : attributes_of (parse 5 (hex "42002805 00000004 00000003 00000000 42002A02 00000004 00000080 00000000 42002C02 00000004 00FFFF7A 00000000 42009501 00000020 42009703 00000008 00000000 00000064 42009805 00000004 00000002 00000000")) ≡ None
unfolding opened
limited_others = refl

-- a mask with no bit, and no limit
unlimited_none : attributes_of (parse 5 (hex "42002805 00000004 00000003 00000000 42002A02 00000004 00000080 00000000 42002C02 00000004 00000000 00000000")) ≡ Some (record { bits = 128; mask = 0; unit = 0; total = 0; activation = 0; deactivation = 0; name = no_name })
unfolding opened
unlimited_none = refl

-- both dates behind the limit
dated : attributes_of (parse 5 (hex "42002805 00000004 00000003 00000000 42002A02 00000004 00000080 00000000 42002C02 00000004 00000004 00000000 42009501 00000020 42009703 00000008 00000000 00000064 42009805 00000004 00000002 00000000 42000109 00000008 00000000 00000005 42002F09 00000008 00000000 00000009")) ≡ Some (record { bits = 128; mask = 4; unit = 2; total = 100; activation = 5; deactivation = 9; name = no_name })
unfolding opened
dated = refl

-- a deactivation date alone
stopped : attributes_of (parse 5 (hex "42002805 00000004 00000003 00000000 42002A02 00000004 00000080 00000000 42002C02 00000004 00000004 00000000 42002F09 00000008 00000000 00000009")) ≡ Some (record { bits = 128; mask = 4; unit = 0; total = 0; activation = 0; deactivation = 9; name = no_name })
unfolding opened
stopped = refl

-- equal dates are in order
at_once : attributes_of (parse 5 (hex "42002805 00000004 00000003 00000000 42002A02 00000004 00000080 00000000 42002C02 00000004 00000004 00000000 42000109 00000008 00000000 00000005 42002F09 00000008 00000000 00000005")) ≡ Some (record { bits = 128; mask = 4; unit = 0; total = 0; activation = 5; deactivation = 5; name = no_name })
unfolding opened
at_once = refl

-- the dates in the other order
other_order : attributes_of (parse 5 (hex "42002805 00000004 00000003 00000000 42002A02 00000004 00000080 00000000 42002C02 00000004 00000004 00000000 42002F09 00000008 00000000 00000009 42000109 00000008 00000000 00000005")) ≡ None
unfolding opened
other_order = refl

-- a deactivation before the activation
too_early : attributes_of (parse 5 (hex "42002805 00000004 00000003 00000000 42002A02 00000004 00000080 00000000 42002C02 00000004 00000004 00000000 42000109 00000008 00000000 0000000A 42002F09 00000008 00000000 00000009")) ≡ None
unfolding opened
too_early = refl

-- a date of 0
at_zero : attributes_of (parse 5 (hex "42002805 00000004 00000003 00000000 42002A02 00000004 00000080 00000000 42002C02 00000004 00000004 00000000 42000109 00000008 00000000 00000000")) ≡ None
unfolding opened
at_zero = refl

-- a date below 0
below_zero_lem : attributes_of (parse 5 (hex "42002805 00000004 00000003 00000000 42002A02 00000004 00000080 00000000 42002C02 00000004 00000004 00000000 42000109 00000008 FFFFFFFF FFFFFFFF")) ≡ None
unfolding opened
below_zero_lem = refl

-- a Long Integer where a date stands
long_date : attributes_of (parse 5 (hex "42002805 00000004 00000003 00000000 42002A02 00000004 00000080 00000000 42002C02 00000004 00000004 00000000 42000103 00000008 00000000 00000005")) ≡ None
unfolding opened
long_date = refl

-- "pump"
abbrev pump : Name
pump = record { len = 4; zeros = 0; words = record { a = 0x70756D7000000000; b = 0; c = 0; d = 0 } }

-- a name alone, and behind both dates
named : attributes_of (parse 5 (hex "42002805 00000004 00000003 00000000 42002A02 00000004 00000080 00000000 42002C02 00000004 00000004 00000000 42005301 00000020 42005507 00000004 70756D70 00000000 42005405 00000004 00000001 00000000")) ≡ Some (record { bits = 128; mask = 4; unit = 0; total = 0; activation = 0; deactivation = 0; name = pump })
unfolding opened
named = refl

named_last : attributes_of (parse 5 (hex "42002805 00000004 00000003 00000000 42002A02 00000004 00000080 00000000 42002C02 00000004 00000004 00000000 42000109 00000008 00000000 00000005 42002F09 00000008 00000000 00000009 42005301 00000020 42005507 00000004 70756D70 00000000 42005405 00000004 00000001 00000000")) ≡ Some (record { bits = 128; mask = 4; unit = 0; total = 0; activation = 5; deactivation = 9; name = pump })
unfolding opened
named_last = refl

-- a name in front of a date, two names, and a name of type 2
named_first : attributes_of (parse 5 (hex "42002805 00000004 00000003 00000000 42002A02 00000004 00000080 00000000 42002C02 00000004 00000004 00000000 42005301 00000020 42005507 00000004 70756D70 00000000 42005405 00000004 00000001 00000000 42000109 00000008 00000000 00000005")) ≡ None
unfolding opened
named_first = refl

named_twice : attributes_of (parse 5 (hex "42002805 00000004 00000003 00000000 42002A02 00000004 00000080 00000000 42002C02 00000004 00000004 00000000 42005301 00000020 42005507 00000004 70756D70 00000000 42005405 00000004 00000001 00000000 42005301 00000020 42005507 00000004 70756D70 00000000 42005405 00000004 00000001 00000000")) ≡ None
unfolding opened
named_twice = refl

named_uri : attributes_of (parse 5 (hex "42002805 00000004 00000003 00000000 42002A02 00000004 00000080 00000000 42002C02 00000004 00000004 00000000 42005301 00000020 42005507 00000004 70756D70 00000000 42005405 00000004 00000002 00000000")) ≡ None
unfolding opened
named_uri = refl
