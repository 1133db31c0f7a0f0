-- Responses read back: `answers_in` reads what `respond` writes and nothing else, and `allowed` says which responses there are.
-- Assumes nothing.
use Rattle.std.specs.Prelude.{ℕ, ◌/◌, ◌^◌, Bool, true, not, ◌&&◌, ◌||◌, List, [], ◌∷◌, length, drop, leb, ltb, eqb}
use Rattle.std.specs.Prelude.{Option, None, Some}
use Rattle.octets.specs.If.{ifb}
use Rattle.octets.specs.Maybe.{◌>>=◌, ◌>>◌}
use Rattle.octets.specs.Octets.{be, from_be, same, all, all_zero}
use Rattle.ttlv_types.specs.Types.{integer, long_integer, enumeration, text_string, byte_string, date_time}
use Rattle.ttlv.specs.Items.{Items, nil, value, group, ended}
use Rattle.fields.specs.Fields.{bytes_of, body_of, optional}
use Rattle.tags.specs.Tags.{activation_date, batch_count, batch_item, operation_tag, protocol_version, protocol_version_major, protocol_version_minor, unique_batch_item_id, attributes, cryptographic_algorithm, cryptographic_length, cryptographic_usage_mask, deactivation_date, key_block, key_format_type, key_material, key_value, name_tag, name_type, name_value, object_type, unique_identifier, usage_limits, usage_limits_count, usage_limits_total, usage_limits_unit, link, link_type, linked_object_identifier, response_header, response_message, response_payload, result_reason, result_status, state_tag, symmetric_key_tag, time_stamp}
use Rattle.names.specs.declared.Name.{Name}
use Rattle.names.specs.Names.{no_name, is_named, name_text, name_of, name_ok, same_name}
use Rattle.attributes_read.specs.Attributes.{aes, or_unset}
use Rattle.name_read.specs.Name.{uninterpreted_text, or_no_name}
use Rattle.payload.specs.Payload.{symmetric_key}
use Rattle.identifier.specs.Identifier.{serial_of}
use Rattle.values.specs.Values.{bits_ok, mask_ok, unit_ok, total_ok, not_negative, above_zero, in_order}
use Rattle.rules.specs.declared.Reason.{Reason}
use Rattle.rules.specs.declared.Reason.TheVariants.{OperationNotSupported, InvalidField, ObjectNotFound, ObjectDestroyed, PermissionDenied, WrongKeyLifecycleState, UsageLimitExceeded, ServerLimitExceeded, NonUniqueName}
use Rattle.rules.specs.Numbers.{reason_number, create, rekey, locate, get, get_attributes, get_usage_allocation, activate, revoke, destroy, success, operation_failed, operation_undone}
use Rattle.changes.specs.Changes.{serial_most}
use Rattle.words.specs.Words.{words_of, word_bytes, words_ok, filled}
use Rattle.plans.specs.declared.Shown.{Shown}
use Rattle.plans.specs.declared.Key.{Key}
use Rattle.plans.specs.declared.Outcome.{Outcome}
use Rattle.plans.specs.declared.Outcome.TheVariants.{Failed, Created, Done, Showed, Got, Located, Undone}
use Rattle.batch_item.specs.Item.{id_most, id_ok, id_bytes}
use Rattle.frame.specs.Frame.{batch_most}
use Rattle.answer.specs.Respond.{Answer, Response, raw, material_of, replaced_object_link, replacement_object_link}

-- ---- fields, in their one spelling

-- the number of the first item, whose value is the number's w bytes
unfoldable pub spelled : ℕ → ℕ → ℕ → Items → Option (ℕ × Items)
spelled w tag kind t = do
  (v, rest) ← bytes_of tag kind t
  same v (be w (from_be v))
  Some (from_be v, rest)

-- a first item with this number and no other; the rest
unfoldable pub fixed : ℕ → ℕ → ℕ → Items → Option Items
fixed tag kind n t = do
  (m, rest) ← spelled 4 tag kind t
  eqb m n
  Some rest

-- the serial of an identifier that could name a record
unfoldable pub serial_in : ℕ → Items → Option (ℕ × Items)
serial_in tag t = do
  (v, rest) ← bytes_of tag text_string t
  not (eqb (serial_of v) 0)
  Some (serial_of v, rest)

-- ---- payloads

-- a date that is set, in front
unfoldable pub set_date : ℕ → Items → Option (ℕ × Items)
set_date tag t = do
  (date, rest) ← spelled 8 tag date_time t
  not (eqb date 0)
  Some (date, rest)

-- unit, total and count of a usage limit; all 0 where there is none
pub record Limits : Type 0 where
  pub unit : ℕ
  pub total : ℕ
  pub count : ℕ

unfoldable pub limits_first : Items → Option (Limits × Items)
limits_first t = do
  (body, rest) ← body_of usage_limits t
  (total, r) ← spelled 8 usage_limits_total long_integer body
  (count, s) ← spelled 8 usage_limits_count long_integer r
  (unit, u) ← spelled 4 usage_limits_unit enumeration s
  ended u
  not (eqb unit 0)
  Some (record { unit = unit; total = total; count = count }, rest)

unfoldable pub or_no_limits : Option Limits → Limits
or_no_limits None = record { unit = 0; total = 0; count = 0 }
or_no_limits (Some limits) = limits

-- the serial of a link of this type in front
unfoldable pub link_first : ℕ → Items → Option (ℕ × Items)
link_first kind t = do
  (body, rest) ← body_of link t
  r ← fixed link_type enumeration kind body
  (serial, s) ← serial_in linked_object_identifier r
  ended s
  Some (serial, rest)

unfoldable pub or_no_link : Items → Option (ℕ × Items) → Option (ℕ × Items)
or_no_link t None = Some (0, t)
or_no_link t (Some found) = Some found

-- the serial of a link of this type if one stands in front, else 0
unfoldable pub link_in : ℕ → Items → Option (ℕ × Items)
link_in kind t = or_no_link t (link_first kind t)

-- a Name in front, in its one spelling
unfoldable pub name_shown : Items → Option (Name × Items)
name_shown t = do
  (body, rest) ← body_of name_tag t
  (v, r) ← bytes_of name_value text_string body
  name_ok v
  s ← fixed name_type enumeration uninterpreted_text r
  ended s
  Some (name_of v, rest)

unfoldable pub shown_in : ℕ → Items → Option Shown
shown_in serial t = do
  r ← fixed cryptographic_algorithm enumeration aes t
  (bits, s) ← spelled 4 cryptographic_length integer r
  (mask, u) ← spelled 4 cryptographic_usage_mask integer s
  (state, v) ← spelled 4 state_tag enumeration u
  (activation, w) ← optional activation_date (set_date activation_date) v
  (deactivation, x) ← optional deactivation_date (set_date deactivation_date) w
  (given, y) ← optional usage_limits limits_first x
  (replaced, z) ← link_in replaced_object_link y
  (replacement, last) ← link_in replacement_object_link z
  (name, after) ← optional name_tag name_shown last
  ended after
  Some (record {
    serial = serial;
    bits = bits;
    mask = mask;
    state = state;
    activation = or_unset activation;
    deactivation = or_unset deactivation;
    unit = (or_no_limits given).unit;
    total = (or_no_limits given).total;
    count = (or_no_limits given).count;
    replaced = replaced;
    replacement = replacement;
    name = or_no_name name;
  })

unfoldable pub created_in : Items → Option Outcome
created_in t = do
  r ← fixed object_type enumeration symmetric_key t
  (serial, s) ← serial_in unique_identifier r
  ended s
  Some (Created serial)

unfoldable pub done_in : Items → Option Outcome
done_in t = do
  (serial, r) ← serial_in unique_identifier t
  ended r
  Some (Done serial)

unfoldable pub showed_in : Items → Option Outcome
showed_in t = do
  (serial, r) ← serial_in unique_identifier t
  (body, s) ← body_of attributes r
  ended s
  shown ← shown_in serial body
  Some (Showed shown)

-- the key that a serial, a length and the bytes of its material say; past these it is zero
unfoldable pub key_read : ℕ → ℕ → List ℕ → Key
key_read serial bits v = record { serial = serial; bits = bits; material = words_of (filled v) }

-- material and length, as a Key Block has them
unfoldable pub key_block_in : Items → Option (List ℕ × ℕ)
key_block_in t = do
  r ← fixed key_format_type enumeration raw t
  (held, s) ← body_of key_value r
  (v, u) ← bytes_of key_material byte_string held
  ended u
  w ← fixed cryptographic_algorithm enumeration aes s
  (bits, x) ← spelled 4 cryptographic_length integer w
  ended x
  Some (v, bits)

-- a Symmetric Key and nothing else; its material has the length that is said
unfoldable pub key_in : ℕ → Items → Option Key
key_in serial t = do
  (object, rest) ← body_of symmetric_key_tag t
  ended rest
  (block, after) ← body_of key_block object
  ended after
  (v, bits) ← key_block_in block
  same v (material_of (key_read serial bits v))
  Some (key_read serial bits v)

unfoldable pub got_in : Items → Option Outcome
got_in t = do
  r ← fixed object_type enumeration symmetric_key t
  (serial, s) ← serial_in unique_identifier r
  key ← key_in serial s
  Some (Got key)

unfoldable pub located_in : Items → Option Outcome
located_in t = do
  (serial, rest) ← optional unique_identifier (serial_in unique_identifier) t
  ended rest
  Some (Located (or_unset serial))

-- Re-key, Get Usage Allocation, Activate, Revoke, Destroy: the operations that answer an identifier alone
abbrev pub answers_done : ℕ → Bool
answers_done operation = eqb operation rekey || eqb operation get_usage_allocation || eqb operation activate || eqb operation revoke || eqb operation destroy

-- the payload of a success, by its operation
unfoldable pub payload_in : ℕ → Items → Option Outcome
payload_in operation t =
    ifb (eqb operation create) (created_in t)
    (ifb (answers_done operation) (done_in t)
    (ifb (eqb operation get_attributes) (showed_in t)
    (ifb (eqb operation get) (got_in t)
    (ifb (eqb operation locate) (located_in t)
    None))))

-- ---- outcomes

-- the reasons that a failure may have
abbrev pub reasons : List Reason
reasons = OperationNotSupported ∷ InvalidField ∷ PermissionDenied ∷ UsageLimitExceeded ∷ ObjectDestroyed ∷ ObjectNotFound ∷ ServerLimitExceeded ∷ WrongKeyLifecycleState ∷ NonUniqueName ∷ []

-- the one of some reasons that has a number
unfoldable pub reason_among : ℕ → List Reason → Option Reason
reason_among n [] = None
reason_among n (r ∷ rs) = let later = reason_among n rs in ifb (eqb n (reason_number r)) (Some r) later

unfoldable pub failure_in : Items → Option Outcome
failure_in t = do
  (number, rest) ← spelled 4 result_reason enumeration t
  ended rest
  reason ← reason_among number reasons
  Some (Failed reason)

unfoldable pub success_in : ℕ → Items → Option Outcome
success_in operation t = do
  (payload, rest) ← body_of response_payload t
  ended rest
  payload_in operation payload

unfoldable pub undone_in : Items → Option Outcome
undone_in t = do
  ended t
  Some Undone

-- by its status
unfoldable pub status_in : ℕ → ℕ → Items → Option Outcome
status_in operation status rest =
    ifb (eqb status success) (success_in operation rest)
    (ifb (eqb status operation_failed) (failure_in rest)
    (ifb (eqb status operation_undone) (undone_in rest)
    None))

unfoldable pub outcome_in : ℕ → Items → Option Outcome
outcome_in operation t = do
  (status, rest) ← spelled 4 result_status enumeration t
  status_in operation status rest

-- ---- the message

unfoldable pub answer_in : Items → Option Answer
answer_in t = do
  (operation, r) ← spelled 4 operation_tag enumeration t
  (id, s) ← optional unique_batch_item_id (bytes_of unique_batch_item_id byte_string) r
  id_ok id
  outcome ← outcome_in operation s
  Some (record { operation = operation; id = id_bytes id; outcome = outcome })

unfoldable pub answers_of : Items → Option (List Answer)
answers_of nil = Some []
answers_of (value tag kind v rest) = None
answers_of (group tag body rest) = do
  eqb tag batch_item
  answer ← answer_in body
  answers ← answers_of rest
  Some (answer ∷ answers)

-- clock and count
unfoldable pub head_in : Items → Option (ℕ × ℕ)
head_in t = do
  (version, r) ← body_of protocol_version t
  minor ← fixed protocol_version_major integer 2 version
  after ← fixed protocol_version_minor integer 1 minor
  ended after
  (clock, s) ← spelled 8 time_stamp date_time r
  (count, u) ← spelled 4 batch_count integer s
  ended u
  Some (clock, count)

-- ---- which responses there are

-- a serial that a record may have
abbrev pub serial_ok : ℕ → Bool
serial_ok serial = leb 1 serial && leb serial serial_most

-- a link's serial, or 0
abbrev pub link_ok : ℕ → Bool
link_ok serial = leb serial serial_most

-- no name, or one that its own text makes
unfoldable pub name_shown_ok : Name → Bool
name_shown_ok m = ifb (is_named m) (name_ok (name_text m) && same_name (name_of (name_text m)) m) (same_name no_name m)

-- "each success has its operation's payload with values in 01's ranges"; dates and name as a sound table has them
unfoldable pub shown_ok : Shown → Bool
shown_ok s =
    serial_ok s.serial
    && bits_ok s.bits
    && mask_ok s.mask
    && (leb 1 s.state && leb s.state 6)
    && not_negative s.activation
    && not_negative s.deactivation
    && in_order s.activation s.deactivation
    && ifb (eqb s.unit 0) (eqb s.total 0 && eqb s.count 0) (unit_ok s.unit && total_ok s.total && leb s.count s.total)
    && link_ok s.replaced
    && link_ok s.replacement
    && name_shown_ok s.name

-- a key as a sound table has it: zero past its length
unfoldable pub key_ok : Key → Bool
key_ok k = serial_ok k.serial && bits_ok k.bits && words_ok k.material && all_zero (drop (k.bits / 8) (word_bytes k.material))

-- the operations that can succeed
abbrev pub is_supported : ℕ → Bool
is_supported operation = eqb operation create || answers_done operation || eqb operation get_attributes || eqb operation get || eqb operation locate

-- the outcomes that an operation can have; any operation can fail, and what can succeed can be undone
unfoldable pub outcome_ok : ℕ → Outcome → Bool
outcome_ok operation (Failed reason) = true
outcome_ok operation (Created serial) = eqb operation create && serial_ok serial
outcome_ok operation (Done serial) = answers_done operation && serial_ok serial
outcome_ok operation (Showed shown) = eqb operation get_attributes && shown_ok shown
outcome_ok operation (Got key) = eqb operation get && key_ok key
outcome_ok operation (Located serial) = eqb operation locate && link_ok serial
outcome_ok operation Undone = is_supported operation

unfoldable pub answer_ok : Answer → Bool
answer_ok a = ltb a.operation (2 ^ 32) && leb (length a.id) id_most && outcome_ok a.operation a.outcome

-- 1 to 16 answers, each allowed, and a clock from 1 up
unfoldable pub allowed : Response → Bool
allowed r = above_zero r.clock && leb 1 (length r.answers) && leb (length r.answers) batch_most && all answer_ok r.answers

-- a response, if it is allowed
unfoldable pub if_allowed : Response → Option Response
if_allowed r = allowed r >> Some r

-- the response that items are, if they are one
unfoldable pub answers_in : Items → Option Response
answers_in t = do
  (message, after) ← body_of response_message t
  ended after
  (head, batch) ← body_of response_header message
  (clock, count) ← head_in head
  answers ← answers_of batch
  eqb count (length answers)
  if_allowed (record { clock = clock; answers = answers })
