-- The tags, with the numbers of KMIP 2.1's tag table: each stands here once, and all other definitions use these names.
-- Assumes nothing. Types stand where an item is read or written.
use Rattle.std.specs.Prelude.{ℕ, ◌/◌, Bool, eqb}

-- the first byte of every tag
abbrev pub tag_lead : ℕ
tag_lead = 0x42

-- a tag of three bytes that starts with 42 hex
abbrev pub tag_ok : ℕ → Bool
tag_ok tag = eqb (tag / 65536) tag_lead

-- ---- by number

abbrev pub activation_date : ℕ
activation_date = 0x420001

abbrev pub batch_count : ℕ
batch_count = 0x42000D

abbrev pub batch_error_continuation_option : ℕ
batch_error_continuation_option = 0x42000E

abbrev pub batch_item : ℕ
batch_item = 0x42000F

abbrev pub cryptographic_algorithm : ℕ
cryptographic_algorithm = 0x420028

abbrev pub cryptographic_length : ℕ
cryptographic_length = 0x42002A

abbrev pub cryptographic_usage_mask : ℕ
cryptographic_usage_mask = 0x42002C

abbrev pub deactivation_date : ℕ
deactivation_date = 0x42002F

abbrev pub key_block : ℕ
key_block = 0x420040

abbrev pub key_format_type : ℕ
key_format_type = 0x420042

abbrev pub key_material : ℕ
key_material = 0x420043

abbrev pub key_value : ℕ
key_value = 0x420045

abbrev pub link : ℕ
link = 0x42004A

abbrev pub link_type : ℕ
link_type = 0x42004B

abbrev pub linked_object_identifier : ℕ
linked_object_identifier = 0x42004C

abbrev pub name_tag : ℕ
name_tag = 0x420053

abbrev pub name_type : ℕ
name_type = 0x420054

abbrev pub name_value : ℕ
name_value = 0x420055

abbrev pub object_type : ℕ
object_type = 0x420057

abbrev pub offset : ℕ
offset = 0x420058

abbrev pub operation_tag : ℕ
operation_tag = 0x42005C

abbrev pub protocol_version : ℕ
protocol_version = 0x420069

abbrev pub protocol_version_major : ℕ
protocol_version_major = 0x42006A

abbrev pub protocol_version_minor : ℕ
protocol_version_minor = 0x42006B

abbrev pub request_header : ℕ
request_header = 0x420077

abbrev pub request_message : ℕ
request_message = 0x420078

abbrev pub request_payload : ℕ
request_payload = 0x420079

abbrev pub response_header : ℕ
response_header = 0x42007A

abbrev pub response_message : ℕ
response_message = 0x42007B

abbrev pub response_payload : ℕ
response_payload = 0x42007C

abbrev pub result_reason : ℕ
result_reason = 0x42007E

abbrev pub result_status : ℕ
result_status = 0x42007F

abbrev pub revocation_reason : ℕ
revocation_reason = 0x420081

abbrev pub revocation_reason_code : ℕ
revocation_reason_code = 0x420082

abbrev pub state_tag : ℕ
state_tag = 0x42008D

-- the object itself; `symmetric_key` is its Object Type
abbrev pub symmetric_key_tag : ℕ
symmetric_key_tag = 0x42008F

abbrev pub time_stamp : ℕ
time_stamp = 0x420092

abbrev pub unique_batch_item_id : ℕ
unique_batch_item_id = 0x420093

abbrev pub unique_identifier : ℕ
unique_identifier = 0x420094

abbrev pub usage_limits : ℕ
usage_limits = 0x420095

abbrev pub usage_limits_count : ℕ
usage_limits_count = 0x420096

abbrev pub usage_limits_total : ℕ
usage_limits_total = 0x420097

abbrev pub usage_limits_unit : ℕ
usage_limits_unit = 0x420098

abbrev pub attributes : ℕ
attributes = 0x420125
