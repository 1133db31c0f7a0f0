-- 01, "Message frame": the batch items of a request.
-- Assumes nothing. "Fields stand in the order given, brackets mean optional, nothing else may appear."
use Rattle.std.specs.Prelude.{ℕ, Bool, true, ◌&&◌, List, [], ◌∷◌, length, leb, eqb}
use Rattle.std.specs.Prelude.{Option, None, Some}
use Rattle.octets.specs.Maybe.{◌>>=◌, ◌>>◌}
use Rattle.ttlv_types.specs.Types.{enumeration, byte_string}
use Rattle.ttlv.specs.Items.{Items, nil, value, group, ended}
use Rattle.fields.specs.Fields.{bytes_of, body_of, number_of, optional}
use Rattle.tags.specs.Tags.{batch_item, operation_tag, request_payload, unique_batch_item_id}

-- a batch item: its operation, its Unique Batch Item ID (no bytes where none was given), its payload
pub record Asked : Type 0 where
  pub operation : ℕ
  pub id : List ℕ
  pub payload : Items

abbrev pub id_most : ℕ
id_most = 16

-- "A Unique Batch Item ID has 1 to 16 bytes"
abbrev pub id_length_ok : ℕ → Bool
id_length_ok n = leb 1 n && leb n id_most

unfoldable pub id_ok : Option (List ℕ) → Bool
id_ok None = true
id_ok (Some v) = id_length_ok (length v)

-- the ID's bytes, none where it is absent
unfoldable pub id_bytes : Option (List ℕ) → List ℕ
id_bytes None = []
id_bytes (Some v) = v

-- "Batch Item { Operation, Enumeration, [Unique Batch Item ID, Byte String], Request Payload }"
unfoldable pub item_in : Items → Option Asked
item_in t = do
  (operation, r) ← number_of operation_tag enumeration t
  (id, s) ← optional unique_batch_item_id (bytes_of unique_batch_item_id byte_string) r
  id_ok id
  (payload, u) ← body_of request_payload s
  ended u
  Some (record { operation = operation; id = id_bytes id; payload = payload })

-- a run of batch items and nothing else
unfoldable pub items_in : Items → Option (List Asked)
items_in nil = Some []
items_in (value tag kind v rest) = None
items_in (group tag body rest) = do
  eqb tag batch_item
  item ← item_in body
  items ← items_in rest
  Some (item ∷ items)
