-- Worked payloads, computed: each operation's payload reads to its command.
-- Assumes nothing. The bytes were worked out from the papers.
use mathlib.Core.Path.{◌≡◌, refl}
use Prim.Native.Nat.{ℕ}
use Rattle.std.specs.Prelude.{Option, None, Some}
use mathlib.Core.List.{[]}
use Rattle.hex_digits.specs.Texts.{hex}
use Rattle.ttlv.specs.Items.{Items, ended}
use Rattle.target_read.specs.declared.Target.TheVariants.{Placeholder, Serial}
use Rattle.payload.specs.declared.Command.{Command}
use Rattle.payload.specs.declared.Command.TheVariants.{Unsupported, Invalid, Create, Rekey, GetUsageAllocation, Revoke, Destroy, GetAttributes, Get, Locate}
use Rattle.octets.specs.If.{ifb}
use Rattle.octets.specs.Maybe.{◌>>=◌, ◌>>◌, is_some}
use Rattle.octets.specs.Octets.{be, from_be_after, from_be, all, same}
use Rattle.utf8.specs.Text.{text}
use Rattle.ttlv_types.specs.Types.{length_ok, value_ok}
use Rattle.ttlv.specs.Items.{encode, item_ok, well_formed}
use Rattle.ttlv.specs.Parse.{headed, first_of, put_value, put_group, more, walk, parse, is_one, message}
use Rattle.fields.specs.Fields.{starts_with, bytes_of, body_of, number_of, optional}
use Rattle.identifier.specs.Identifier.{digits, identifier, from_digits_after, serial_of}
use Rattle.attributes_read.specs.Attributes.{limit_in, limit_first, date_first, or_unset, dated_in, wanted_of, limited_in, masked_in, attributes_in}
use Rattle.words.specs.Words.{words_of, filled}
use Rattle.names.specs.declared.Name.{Name}
use Rattle.names.specs.Names.{no_name, name_of, name_ok}
use Rattle.name_read.specs.Name.{name_body, name_first, only_name_in, or_no_name, last_name_in}
use Rattle.target_read.specs.Target.{target_of, target_in}
use Rattle.payload.specs.Payload.{create_in, rekey_in, alone_in, allocation_in, revoke_in, locate_in, or_invalid, command}

-- the command that a payload's bytes spell; none where they are no items
command_of : ℕ → Option Items → Option Command
command_of operation None = None
command_of operation (Some t) = Some (command operation t)

-- the definitions that the cases compute with: who opens this opens them all
opened : Unit {0}
unfolding command_of ifb ◌>>=◌ ◌>>◌ is_some be from_be_after from_be all same length_ok text value_ok encode item_ok well_formed headed first_of put_value put_group more walk parse is_one message starts_with ended bytes_of body_of number_of optional digits identifier from_digits_after serial_of words_of filled name_of name_ok name_body name_first only_name_in or_no_name last_name_in limit_in limit_first date_first or_unset dated_in wanted_of limited_in masked_in attributes_in create_in target_of target_in rekey_in alone_in allocation_in revoke_in locate_in or_invalid command
opened = tt

create_limited : command_of 0x01 (parse 6 (hex "42005705 00000004 00000002 00000000 42012501 00000058 42002805 00000004 00000003 00000000 42002A02 00000004 00000080 00000000 42002C02 00000004 00000004 00000000 42009501 00000020 42009703 00000008 00000000 00000064 42009805 00000004 00000002 00000000")) ≡ Some (Create (record { bits = 128; mask = 4; unit = 2; total = 100; activation = 0; deactivation = 0; name = no_name }))
unfolding opened
create_limited = refl

-- the same with mask 8, Decrypt alone: a limit is for a key that can apply protection
create_unprotected : command_of 0x01 (parse 6 (hex "42005705 00000004 00000002 00000000 42012501 00000058 42002805 00000004 00000003 00000000 42002A02 00000004 00000080 00000000 42002C02 00000004 00000008 00000000 42009501 00000020 42009703 00000008 00000000 00000064 42009805 00000004 00000002 00000000")) ≡ Some Invalid
unfolding opened
create_unprotected = refl

create_free : command_of 0x01 (parse 6 (hex "42005705 00000004 00000002 00000000 42012501 00000030 42002805 00000004 00000003 00000000 42002A02 00000004 00000100 00000000 42002C02 00000004 0000000C 00000000")) ≡ Some (Create (record { bits = 256; mask = 12; unit = 0; total = 0; activation = 0; deactivation = 0; name = no_name }))
unfolding opened
create_free = refl

-- both dates
create_dated : command_of 0x01 (parse 6 (hex "42005705 00000004 00000002 00000000 42012501 00000050 42002805 00000004 00000003 00000000 42002A02 00000004 00000100 00000000 42002C02 00000004 0000000C 00000000 42000109 00000008 00000000 00000005 42002F09 00000008 00000000 00000009")) ≡ Some (Create (record { bits = 256; mask = 12; unit = 0; total = 0; activation = 5; deactivation = 9; name = no_name }))
unfolding opened
create_dated = refl

-- a payload for another operation, and an identifier that is no Text String
create_elsewhere : command_of 0x04 (parse 6 (hex "42005705 00000004 00000002 00000000 42012501 00000058 42002805 00000004 00000003 00000000 42002A02 00000004 00000080 00000000 42002C02 00000004 00000004 00000000 42009501 00000020 42009703 00000008 00000000 00000064 42009805 00000004 00000002 00000000")) ≡ Some Invalid
unfolding opened
create_elsewhere = refl

identifier_integer : command_of 0x12 (parse 6 (hex "42009402 00000004 00000001 00000000")) ≡ Some Invalid
unfolding opened
identifier_integer = refl

revoke_named : command_of 0x13 (parse 6 (hex "42009407 00000008 30303030 30303041 42008101 00000010 42008205 00000004 00000005 00000000")) ≡ Some (Revoke (Serial 10) 5)
unfolding opened
revoke_named = refl

allocation_held : command_of 0x11 (parse 6 (hex "42009603 00000008 00000000 0000003C")) ≡ Some (GetUsageAllocation Placeholder 60)
unfolding opened
allocation_held = refl

-- lower case names no record
lower_case : command_of 0x14 (parse 6 (hex "42009407 00000008 30303030 30303061")) ≡ Some (Destroy (Serial 0))
unfolding opened
lower_case = refl

alone : command_of 0x04 (parse 6 []) ≡ Some (Rekey Placeholder None)
unfolding opened
alone = refl

-- ten days; and the longest Offset, which is not negative
rekey_later : command_of 0x04 (parse 6 (hex "42009407 00000008 30303030 30303041 4200580A 00000004 000D2F00 00000000")) ≡ Some (Rekey (Serial 10) (Some 864_000))
unfolding opened
rekey_later = refl

rekey_latest : command_of 0x04 (parse 6 (hex "4200580A 00000004 FFFFFFFF 00000000")) ≡ Some (Rekey Placeholder (Some 4_294_967_295))
unfolding opened
rekey_latest = refl

-- an Offset that is an Integer, one in front of the identifier, and two
rekey_integer : command_of 0x04 (parse 6 (hex "42005802 00000004 000D2F00 00000000")) ≡ Some Invalid
unfolding opened
rekey_integer = refl

rekey_turned : command_of 0x04 (parse 6 (hex "4200580A 00000004 000D2F00 00000000 42009407 00000008 30303030 30303041")) ≡ Some Invalid
unfolding opened
rekey_turned = refl

rekey_twice : command_of 0x04 (parse 6 (hex "4200580A 00000004 000D2F00 00000000 4200580A 00000004 000D2F00 00000000")) ≡ Some Invalid
unfolding opened
rekey_twice = refl

-- and an Offset for another operation
activate_later : command_of 0x12 (parse 6 (hex "4200580A 00000004 000D2F00 00000000")) ≡ Some Invalid
unfolding opened
activate_later = refl

shown_alone : command_of 0x0B (parse 6 []) ≡ Some (GetAttributes Placeholder)
unfolding opened
shown_alone = refl

get_named : command_of 0x0A (parse 6 (hex "42009407 00000008 30303030 30303031")) ≡ Some (Get (Serial 1))
unfolding opened
get_named = refl

-- a Key Format Type may not be asked for
get_more : command_of 0x0A (parse 6 (hex "42009407 00000008 30303030 30303031 42004205 00000004 00000001 00000000")) ≡ Some Invalid
unfolding opened
get_more = refl

-- "pump"
abbrev pump : Name
pump = record { len = 4; zeros = 0; words = record { a = 0x70756D7000000000; b = 0; c = 0; d = 0 } }

create_named : command_of 0x01 (parse 6 (hex "42005705 00000004 00000002 00000000 42012501 00000058 42002805 00000004 00000003 00000000 42002A02 00000004 00000100 00000000 42002C02 00000004 0000000C 00000000 42005301 00000020 42005507 00000004 70756D70 00000000 42005405 00000004 00000001 00000000")) ≡ Some (Create (record { bits = 256; mask = 12; unit = 0; total = 0; activation = 0; deactivation = 0; name = pump }))
unfolding opened
create_named = refl

locate_named : command_of 0x08 (parse 6 (hex "42012501 00000028 42005301 00000020 42005507 00000004 70756D70 00000000 42005405 00000004 00000001 00000000")) ≡ Some (Locate pump)
unfolding opened
locate_named = refl

-- nothing, Attributes with nothing, a name outside of Attributes, another attribute beside it, and an identifier
locate_nothing : command_of 0x08 (parse 6 []) ≡ Some Invalid
unfolding opened
locate_nothing = refl

locate_empty : command_of 0x08 (parse 6 (hex "42012501 00000000")) ≡ Some Invalid
unfolding opened
locate_empty = refl

locate_bare : command_of 0x08 (parse 6 (hex "42005301 00000020 42005507 00000004 70756D70 00000000 42005405 00000004 00000001 00000000")) ≡ Some Invalid
unfolding opened
locate_bare = refl

locate_more : command_of 0x08 (parse 6 (hex "42012501 00000038 42002805 00000004 00000003 00000000 42005301 00000020 42005507 00000004 70756D70 00000000 42005405 00000004 00000001 00000000")) ≡ Some Invalid
unfolding opened
locate_more = refl

locate_both : command_of 0x08 (parse 6 (hex "42009407 00000008 30303030 30303041 42012501 00000028 42005301 00000020 42005507 00000004 70756D70 00000000 42005405 00000004 00000001 00000000")) ≡ Some Invalid
unfolding opened
locate_both = refl

unknown : command_of 0x0C (parse 6 []) ≡ Some Unsupported
unfolding opened
unknown = refl
