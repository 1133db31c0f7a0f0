-- The bytes of a response in front of its batch items, and how long a response can be.
-- Assumes nothing.
use Rattle.std.specs.Prelude.{ℕ, ◌+◌, ◌*◌, List, ◌++◌}
use Rattle.ttlv_types.specs.Types.{structure}
use Rattle.ttlv.specs.Items.{nil, group, head, encode}
use Rattle.frame.specs.Frame.{batch_most}
use Rattle.tags.specs.Tags.{response_header, response_message}
use Rattle.answer.specs.Respond.{header_items}

-- the header: its head, version, Time Stamp, Batch Count
abbrev pub header_size : ℕ
header_size = 80

-- the head of the message and the header
abbrev pub frame_size : ℕ
frame_size = 8 + header_size

-- the longest answer: Get Attributes with both dates, a usage limit, both links, a name of 32 bytes and a 16-byte ID
abbrev pub longest_item : ℕ
longest_item = 392

-- the longest response
abbrev pub response_most : ℕ
response_most = frame_size + batch_most * longest_item

-- what stands in front of n bytes of batch items: the head of the message and the header
unfoldable pub front : ℕ → ℕ → ℕ → List ℕ
front clock count n = head response_message structure (header_size + n) ++ encode (group response_header (header_items clock count) nil)
