-- 01, "Message frame" of a request, and refusals 6 to 9 of "Turning a request away".
-- Assumes nothing. "Fields stand in the order given, brackets mean optional, nothing else may appear."
use Rattle.std.specs.Prelude.{ℕ, Bool, not, ◌&&◌, ◌||◌, List, length, leb, eqb}
use Rattle.std.specs.Prelude.{Option, None, Some}
use Rattle.octets.specs.If.{ifb}
use Rattle.octets.specs.Maybe.{◌>>=◌, ◌>>◌}
use Rattle.ttlv_types.specs.Types.{integer, enumeration}
use Rattle.ttlv.specs.Items.{Items, ended}
use Rattle.fields.specs.Fields.{body_of, number_of, optional}
use Rattle.tags.specs.Tags.{batch_count, batch_error_continuation_option, protocol_version, protocol_version_major, protocol_version_minor, request_header, request_message}
use Rattle.batch_item.specs.Item.{Asked, items_in}

-- ---- what a frame says

-- a header: version, option if given, count
pub record Header : Type 0 where
  pub major : ℕ
  pub minor : ℕ
  pub option : Option ℕ
  pub count : ℕ

pub record Frame : Type 0 where
  pub header : Header
  pub items : List Asked

-- ---- reading it

-- "Protocol Version { Major, Minor, Integers }"
unfoldable pub version_in : Items → Option (ℕ × ℕ)
version_in t = do
  (major, r) ← number_of protocol_version_major integer t
  (minor, s) ← number_of protocol_version_minor integer r
  ended s
  Some (major, minor)

-- "Request Header { Protocol Version, [Batch Error Continuation Option, Enumeration], Batch Count, Integer }"
unfoldable pub header_in : Items → Option Header
header_in t = do
  (version, r) ← body_of protocol_version t
  (major, minor) ← version_in version
  (option, s) ← optional batch_error_continuation_option (number_of batch_error_continuation_option enumeration) r
  (count, u) ← number_of batch_count integer s
  ended u
  Some (record { major = major; minor = minor; option = option; count = count })

-- "Request Message { Request Header, one or more Batch Item }"
unfoldable pub frame_in : Items → Option Frame
frame_in t = do
  (message, after) ← body_of request_message t
  ended after
  (head, batch) ← body_of request_header message
  header ← header_in head
  not (ended batch)
  items ← items_in batch
  Some (record { header = header; items = items })

-- ---- refusals 6 to 9

-- "frame wrong"
abbrev pub frame_wrong : ℕ
frame_wrong = 6

-- "version not 2.1"
abbrev pub is_version : ℕ → ℕ → Bool
is_version major minor = eqb major 2 && eqb minor 1

abbrev pub version_ok : Header → Bool
version_ok h = is_version h.major h.minor

abbrev pub batch_most : ℕ
batch_most = 16

-- "Batch Count not 1 to 16, or not the number of items"
abbrev pub is_count : ℕ → ℕ → Bool
is_count count found = leb 1 count && leb count batch_most && eqb count found

abbrev pub count_ok : Frame → Bool
count_ok f = is_count f.header.count (length f.items)

-- "Option 1 is Continue, 2 is Stop; absent means Stop"; 02, L8: "option 3", Undo
abbrev pub continue : ℕ
continue = 1

abbrev pub stop : ℕ
stop = 2

abbrev pub undo : ℕ
undo = 3

unfoldable pub option_of : Option ℕ → ℕ
option_of None = stop
option_of (Some option) = option

abbrev pub option_ok : ℕ → Bool
option_ok option = eqb option continue || eqb option stop || eqb option undo

-- the option and the items of a request that is not turned away
pub record Request : Type 0 where
  pub option : ℕ
  pub items : List Asked

-- a request, or the number of the refusal
pub data Framed : Type 0 where
  refused : ℕ → Framed
  asked : Request → Framed

-- "The lowest number that applies is given"
unfoldable pub framing : Option Frame → Framed
framing None = refused frame_wrong
framing (Some f) =
    ifb (not (version_ok f.header)) (refused 7)
    (ifb (not (count_ok f)) (refused 8)
    (ifb (not (option_ok (option_of f.header.option))) (refused 9)
    (asked (record { option = option_of f.header.option; items = f.items }))))

-- what the one item of a request says as a frame
unfoldable pub framed : Items → Framed
framed t = framing (frame_in t)
