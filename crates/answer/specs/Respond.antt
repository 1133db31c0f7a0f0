-- 01, "Response Message", and 02, L1, L3 and L6: the answers to a request as items. With `encode` it is the one spelling of a response.
-- Assumes nothing.
use Rattle.std.specs.Prelude.{ℕ, ◌/◌, List, [], ◌∷◌, length, take, eqb}
use Rattle.octets.specs.If.{ifb}
use Rattle.octets.specs.Octets.{be}
use Rattle.ttlv_types.specs.Types.{integer, long_integer, enumeration, text_string, byte_string, date_time}
use Rattle.ttlv.specs.Items.{Items, nil, value, group}
use Rattle.tags.specs.Tags.{activation_date, batch_count, batch_item, operation_tag, protocol_version, protocol_version_major, protocol_version_minor, unique_batch_item_id, attributes, cryptographic_algorithm, cryptographic_length, cryptographic_usage_mask, deactivation_date, key_block, key_format_type, key_material, key_value, name_tag, name_type, name_value, object_type, unique_identifier, usage_limits, usage_limits_count, usage_limits_total, usage_limits_unit, link, link_type, linked_object_identifier, response_header, response_message, response_payload, result_reason, result_status, state_tag, symmetric_key_tag, time_stamp}
use Rattle.names.specs.declared.Name.{Name}
use Rattle.names.specs.Names.{name_text}
use Rattle.attributes_read.specs.Attributes.{aes}
use Rattle.name_read.specs.Name.{uninterpreted_text}
use Rattle.payload.specs.Payload.{symmetric_key}
use Rattle.identifier.specs.Identifier.{identifier}
use Rattle.rules.specs.Numbers.{success, operation_failed, operation_undone, reason_number}
use Rattle.words.specs.Words.{word_bytes}
use Rattle.plans.specs.declared.Shown.{Shown}
use Rattle.plans.specs.declared.Key.{Key}
use Rattle.plans.specs.declared.Outcome.{Outcome}
use Rattle.plans.specs.declared.Outcome.TheVariants.{Failed, Created, Done, Showed, Got, Located, Undone}

-- ---- what a response says

-- the answer to one item: its operation and its ID as given, and what became of it
pub record Answer : Type 0 where
  pub operation : ℕ
  pub id : List ℕ
  pub outcome : Outcome

-- the clock's 64 bits and the answers
pub record Response : Type 0 where
  pub clock : ℕ
  pub answers : List Answer

-- ---- fields

-- a field of four bytes, and the rest
abbrev pub word : ℕ → ℕ → ℕ → Items → Items
word tag kind n rest = value tag kind (be 4 n) rest

-- a field of eight bytes, and the rest
abbrev pub long : ℕ → ℕ → ℕ → Items → Items
long tag kind n rest = value tag kind (be 8 n) rest

-- the identifier of a serial as a Text String, and the rest
abbrev pub named : ℕ → ℕ → Items → Items
named tag serial rest = value tag text_string (identifier serial) rest

-- ---- payloads

-- a date if it is set, and the rest
unfoldable pub date_items : ℕ → ℕ → Items → Items
date_items tag date rest = ifb (eqb date 0) rest (long tag date_time date rest)

-- "Usage Limits (total, count, unit) if any"
unfoldable pub limit_items : Shown → Items → Items
limit_items s rest =
    ifb (eqb s.unit 0) rest
    (group usage_limits
    (long usage_limits_total long_integer s.total
    (long usage_limits_count long_integer s.count
    (word usage_limits_unit enumeration s.unit nil)))
    rest)

-- "107 hex replaced, then 106 hex replacement"
abbrev pub replaced_object_link : ℕ
replaced_object_link = 0x107

abbrev pub replacement_object_link : ℕ
replacement_object_link = 0x106

-- "Links { Link Type, Linked Object Identifier, Text String }", if there is one
unfoldable pub link_items : ℕ → ℕ → Items → Items
link_items kind serial rest =
    ifb (eqb serial 0) rest
    (group link (word link_type enumeration kind (named linked_object_identifier serial nil)) rest)

-- "Name { Name Value, Name Type }", "type uninterpreted text", if there is one
unfoldable pub name_items : Name → Items → Items
name_items m rest = ifb (eqb m.len 0) rest (group name_tag (value name_value text_string (name_text m) (word name_type enumeration uninterpreted_text nil)) rest)

-- "Attributes with algorithm, length, mask, State, Usage Limits if any, Links: 107 hex replaced, then 106 hex replacement"; the dates
-- "that are set, after State"; the Name "last"
unfoldable pub attribute_items : Shown → Items
attribute_items s =
    word cryptographic_algorithm enumeration aes
    (word cryptographic_length integer s.bits
    (word cryptographic_usage_mask integer s.mask
    (word state_tag enumeration s.state
    (date_items activation_date s.activation
    (date_items deactivation_date s.deactivation
    (limit_items s
    (link_items replaced_object_link s.replaced
    (link_items replacement_object_link s.replacement
    (name_items s.name nil)))))))))

-- "Key Format Type Raw"
abbrev pub raw : ℕ
raw = 1

-- "the material at its length"
unfoldable pub material_of : Key → List ℕ
material_of k = take (k.bits / 8) (word_bytes k.material)

-- "Key Value { Key Material }"
abbrev pub key_value_items : List ℕ → Items → Items
key_value_items material rest = group key_value (value key_material byte_string material nil) rest

-- "Key Block { Key Format Type Raw, Key Value, algorithm, length }"
abbrev pub key_block_items : List ℕ → ℕ → Items
key_block_items material bits =
    word key_format_type enumeration raw
    (key_value_items material
    (word cryptographic_algorithm enumeration aes
    (word cryptographic_length integer bits nil)))

-- "Symmetric Key with its Key Block", nothing else optional
unfoldable pub key_items : Key → Items
key_items k = group symmetric_key_tag (group key_block (key_block_items (material_of k) k.bits) nil) nil

-- "the one identifier or an empty payload"
unfoldable pub located_items : ℕ → Items
located_items serial = ifb (eqb serial 0) nil (named unique_identifier serial nil)

-- a success: its status and its payload
abbrev pub succeeded : Items → Items
succeeded payload = word result_status enumeration success (group response_payload payload nil)

-- "Result Status, Result Reason on failure, Response Payload on success"; what was undone carries "status 3 (Operation Undone) and no payload"
unfoldable pub outcome_items : Outcome → Items
outcome_items (Failed reason) = word result_status enumeration operation_failed (word result_reason enumeration (reason_number reason) nil)
outcome_items (Created serial) = succeeded (word object_type enumeration symmetric_key (named unique_identifier serial nil))
outcome_items (Done serial) = succeeded (named unique_identifier serial nil)
outcome_items (Showed shown) = succeeded (named unique_identifier shown.serial (group attributes (attribute_items shown) nil))
outcome_items (Got key) = succeeded (word object_type enumeration symmetric_key (named unique_identifier key.serial (key_items key)))
outcome_items (Located serial) = succeeded (located_items serial)
outcome_items Undone = word result_status enumeration operation_undone nil

-- ---- the message

-- "the ID if given"
unfoldable pub id_items : List ℕ → Items → Items
id_items [] rest = rest
id_items (x ∷ id) rest = value unique_batch_item_id byte_string (x ∷ id) rest

-- "items { Operation as given, the ID if given, Result Status, .. }"
unfoldable pub answer_items : Answer → Items
answer_items a = word operation_tag enumeration a.operation (id_items a.id (outcome_items a.outcome))

unfoldable pub batch_items : List Answer → Items
batch_items [] = nil
batch_items (a ∷ answers) = group batch_item (answer_items a) (batch_items answers)

-- "Protocol Version 2.1"
unfoldable pub version_items : Items → Items
version_items rest = group protocol_version (word protocol_version_major integer 2 (word protocol_version_minor integer 1 nil)) rest

-- "Response Header { Protocol Version 2.1, Time Stamp = the clock, Batch Count }"; "The count in the response counts items answered"
unfoldable pub header_items : ℕ → ℕ → Items
header_items clock count = version_items (long time_stamp date_time clock (word batch_count integer count nil))

-- the response as items
unfoldable pub respond : Response → Items
respond r = group response_message (group response_header (header_items r.clock (length r.answers)) (batch_items r.answers)) nil
