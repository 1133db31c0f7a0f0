-- What the frame's readers answer of lent bytes: the frame's numbers, and where its parts start.
-- Assumes nothing. The bytes are a run of items, whose items are `tree_of`.
use Rattle.frame.specs.declared.FrameParts.{FrameParts}
use Rattle.frame.specs.declared.HeaderParts.{HeaderParts}
use Rattle.std.specs.Prelude.{ℕ, ◌+◌, List, length, drop}
use Rattle.std.specs.Prelude.{Option, None, Some, Result, Ok, Err}
use Rattle.ttlv_types.specs.Types.{enumeration}
use Rattle.ttlv.specs.Items.{Items}
use Rattle.ttlv.specs.Tree.{tree_of}
use Rattle.fields.specs.Fields.{number_of, optional}
use Rattle.fields.specs.Found.{body_at}
use Rattle.refusal.specs.declared.Refusal.{Refusal}
use Rattle.refusal.specs.Numbers.{refusal_number}
use Rattle.frame.specs.declared.Batch.{Batch}
use Rattle.tags.specs.Tags.{batch_error_continuation_option, request_header}
use Rattle.frame.specs.Frame.{Header, Frame, Framed, refused, asked, option_of, framed}

-- ---- the header

-- the option at the front, if it is given, and the items behind it
abbrev pub option_in : Items → Option (Option ℕ × Items)
option_in = optional batch_error_continuation_option (number_of batch_error_continuation_option enumeration)

-- a header as the reader answers it: an option that is absent is Stop
unfoldable pub header_read : Option Header → Option HeaderParts
header_read None = None
header_read (Some h) = Some (record { major = h.major; minor = h.minor; option = (option_of h.option); count = h.count })

-- ---- the frame

unfoldable pub body_end : Option ℕ → ℕ
body_end (Some next) = next
body_end None = 0

-- where the batch items of the request s start: behind the message's own head and the header
unfoldable pub items_at : List ℕ → ℕ
items_at s = 8 + body_end (body_at (drop 8 s) request_header)

-- a frame as the reader answers it: the header's numbers, how many batch items there are and where they start
unfoldable pub frame_read : Option Frame → ℕ → Option FrameParts
frame_read None at = None
frame_read (Some f) at = Some (record { major = f.header.major; minor = f.header.minor; option = (option_of f.header.option); count = f.header.count; found = (length f.items); items = at })

-- the number of a refusal and nothing else; or 0, the option, and where the batch items start
pub record Framing : Type 0 where
  pub number : ℕ
  pub option : ℕ
  pub items : ℕ

unfoldable pub framing_in : Framed → ℕ → Framing
framing_in (refused number) at = record { number = number; option = 0; items = 0 }
framing_in (asked request) at = record { number = 0; option = request.option; items = at }

-- how the request s is taken as a frame
unfoldable pub framing_of : List ℕ → Framing
framing_of s = framing_in (framed (tree_of s)) (items_at s)

-- what an answer of the reader says of it
abbrev pub framing_told : Result Batch Refusal → Framing
framing_told (Ok batch) = record { number = 0; option = batch.option; items = batch.items }
framing_told (Err refusal) = record { number = refusal_number refusal; option = 0; items = 0 }
