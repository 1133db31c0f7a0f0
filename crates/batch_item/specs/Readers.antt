-- What the readers of batch items answer of lent bytes: an item's operation, where its parts start, and how many items there are.
-- Assumes nothing. The bytes are a run of items, whose items are `tree_of`.
use Rattle.std.specs.Prelude.{ℕ, ◌+◌, ◌-◌, List, [], ◌++◌, length, drop, replicate}
use Rattle.std.specs.Prelude.{Option, None, Some}
use Rattle.std.specs.Borrow.{Bor}
use Rattle.octets.specs.If.{ifb}
use Rattle.octets.specs.Maybe.{◌>>=◌, ◌>>◌}
use Rattle.ttlv_types.specs.Types.{enumeration, byte_string}
use Rattle.ttlv.specs.Items.{Items}
use Rattle.ttlv.specs.Tree.{tree_of}
use Rattle.fields.specs.Fields.{bytes_of, optional}
use Rattle.fields.specs.Found.{starts_at, bytes_at, number_at}
use Rattle.batch_item.specs.declared.ItemId.{ItemId}
use Rattle.batch_item.specs.declared.ItemParts.{ItemParts}
use Rattle.tags.specs.Tags.{operation_tag, unique_batch_item_id}
use Rattle.batch_item.specs.Item.{Asked, id_most, id_length_ok, id_ok, id_bytes, item_in}
use Rattle.runs.specs.declared.run.Run.{Run}

-- ---- a batch item

unfoldable pub number_end : Option (ℕ × ℕ) → ℕ
number_end (Some (v, next)) = next
number_end None = 0

unfoldable pub bytes_end : Option (ℕ × ℕ) → ℕ
bytes_end (Some (n, next)) = next
bytes_end None = 0

unfoldable pub id_span : Option (ℕ × ℕ) → Option (ℕ × ℕ)
id_span (Some (n, next)) = ifb (id_length_ok n) (Some (n, next)) None
id_span None = None

-- the length of the ID at the front of s and where it ends: no bytes, which end at 0, where it is absent
unfoldable pub id_at : List ℕ → Option (ℕ × ℕ)
id_at s = ifb (starts_at s unique_batch_item_id) (id_span (bytes_at s unique_batch_item_id byte_string)) (Some (0, 0))

-- where the operation of the batch item s ends
unfoldable pub operation_end : List ℕ → ℕ
operation_end s = number_end (number_at s operation_tag enumeration)

-- where the items of its payload start: behind the operation, the ID and the payload's own head
unfoldable pub payload_at : List ℕ → ℕ
payload_at s = operation_end s + bytes_end (id_at (drop (operation_end s) s)) + 8

-- the ID at the front, no bytes where it is absent, and the items behind it
unfoldable pub id_in : Items → Option (List ℕ × Items)
id_in t = do
  (id, rest) ← optional unique_batch_item_id (bytes_of unique_batch_item_id byte_string) t
  id_ok id
  Some (id_bytes id, rest)

-- a batch item as the reader answers it: the operation, the ID's bytes and the payload's items
abbrev pub asked : ℕ × Bor (List ℕ) × Run → Asked
asked (operation, id, payload) = record { operation = operation; id = id.now; payload = tree_of payload.bytes.now }

-- an ID of at most 16 bytes as a struct carries it
unfoldable pub id_of : List ℕ → ItemId
id_of v = record { bytes = v ++ replicate (id_most - length v) 0; len = length v }

unfoldable pub parts_in : Option Asked → ℕ → ItemParts
parts_in None at = record { operation = 0; id = id_of []; payload = 0 }
parts_in (Some a) at = record { operation = a.operation; id = id_of a.id; payload = at }

-- the parts of the batch item s
unfoldable pub parts_of : List ℕ → ItemParts
parts_of s = parts_in (item_in (tree_of s)) (payload_at s)

-- a run of batch items as the reader answers it: how many there are
unfoldable pub items_read : Option (List Asked) → Option ℕ
items_read None = None
items_read (Some items) = Some (length items)
