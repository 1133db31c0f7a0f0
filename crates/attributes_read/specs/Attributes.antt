-- 01, "Operations", Create, and 02, L3, L6 and L9: what Attributes holds, and the values allowed in it.
-- Assumes nothing. "One of wrong shape or with a value not allowed here fails with Invalid Field."
use Rattle.std.specs.Prelude.{ℕ, eqb}
use Rattle.std.specs.Prelude.{Option, None, Some}
use Rattle.octets.specs.Maybe.{◌>>=◌, ◌>>◌}
use Rattle.ttlv_types.specs.Types.{integer, long_integer, enumeration, date_time}
use Rattle.ttlv.specs.Items.{Items, ended}
use Rattle.fields.specs.Fields.{body_of, number_of, optional}
use Rattle.tags.specs.Tags.{activation_date, cryptographic_algorithm, cryptographic_length, cryptographic_usage_mask, deactivation_date, usage_limits, usage_limits_total, usage_limits_unit}
use Rattle.values.specs.Values.{bits_ok, mask_ok, protects, unit_ok, total_ok, above_zero, in_order}
use Rattle.rules.specs.declared.Attributes.{Attributes}
use Rattle.names.specs.declared.Name.{Name}
use Rattle.attributes_read.specs.declared.Limit.{Limit}
use Rattle.name_read.specs.Name.{last_name_in}

-- "Cryptographic Algorithm = 3": AES
abbrev pub aes : ℕ
aes = 3

-- "Usage Limits { Total, Unit }"
unfoldable pub limit_in : Items → Option Limit
limit_in t = do
  (total, r) ← number_of usage_limits_total long_integer t
  total_ok total
  (unit, s) ← number_of usage_limits_unit enumeration r
  unit_ok unit
  ended s
  Some (record { unit = unit; total = total })

-- a Usage Limits structure in front, of a key with this mask: "Create with Usage Limits and a mask with none of Sign (1), Encrypt (4) and MAC Generate (80 hex) now fails with Invalid Field" (L9)
unfoldable pub limit_first : ℕ → Items → Option (Limit × Items)
limit_first mask t = do
  protects mask
  (body, rest) ← body_of usage_limits t
  limit ← limit_in body
  Some (limit, rest)

-- a date in front: "from 1 up"
unfoldable pub date_first : ℕ → Items → Option (ℕ × Items)
date_first tag t = do
  (date, rest) ← number_of tag date_time t
  above_zero date
  Some (date, rest)

-- a date that is not given is not set: 0
unfoldable pub or_unset : Option ℕ → ℕ
or_unset None = 0
or_unset (Some date) = date

-- from the dates on: "both dates as optional last attributes, from 1 up, deactivation not before activation" (L3); then the Name "as last attribute" (L6), and nothing behind it
unfoldable pub dated_in : Items → Option (ℕ × ℕ × Name)
dated_in t = do
  (activation, r) ← optional activation_date (date_first activation_date) t
  (deactivation, s) ← optional deactivation_date (date_first deactivation_date) r
  in_order (or_unset activation) (or_unset deactivation)
  name ← last_name_in s
  Some (or_unset activation, or_unset deactivation, name)

-- the attributes of a new key, of its length, mask, limit, activation, deactivation and name; no limit is unit 0 and total 0
unfoldable pub wanted_of : ℕ → ℕ → Option Limit → ℕ → ℕ → Name → Attributes
wanted_of bits mask None activation deactivation name =
    record { bits = bits; mask = mask; unit = 0; total = 0; activation = activation; deactivation = deactivation; name = name }
wanted_of bits mask (Some limit) activation deactivation name =
    record { bits = bits; mask = mask; unit = limit.unit; total = limit.total; activation = activation; deactivation = deactivation; name = name }

-- behind the mask, for a key of this length and mask: "[Usage Limits]", the dates and the name
unfoldable pub limited_in : ℕ → ℕ → Items → Option Attributes
limited_in bits mask t = do
  (limit, r) ← optional usage_limits (limit_first mask) t
  (activation, deactivation, name) ← dated_in r
  Some (wanted_of bits mask limit activation deactivation name)

-- from the mask on, for a key of this length: "Cryptographic Usage Mask, [Usage Limits]", the dates and the name
unfoldable pub masked_in : ℕ → Items → Option Attributes
masked_in bits t = do
  (mask, r) ← number_of cryptographic_usage_mask integer t
  mask_ok mask
  limited_in bits mask r

-- "Attributes { Cryptographic Algorithm = 3, Cryptographic Length, Cryptographic Usage Mask, [Usage Limits] }", L3's dates and L6's Name
unfoldable pub attributes_in : Items → Option Attributes
attributes_in t = do
  (algorithm, r) ← number_of cryptographic_algorithm enumeration t
  eqb algorithm aes
  (bits, s) ← number_of cryptographic_length integer r
  bits_ok bits
  masked_in bits s
