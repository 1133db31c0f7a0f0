-- What a call leaves, and the sizes that it keeps to; the table's are those of its layout.
-- Assumes nothing. Neither the batch nor what a call does is defined or used here, so that a demand can speak of an outcome without them.
use Rattle.std.specs.Prelude.{ℕ, ◌*◌, List}
use Rattle.table.specs.Layout.{material_size}
use Rattle.frame.specs.Frame.{batch_most}
use Rattle.answer.specs.Front.{response_most}

-- ---- sizes

-- "output room below 6,360 bytes": the longest response has to fit
abbrev pub room_least : ℕ
room_least = response_most

-- "fresh strip not 512 bytes": 32 bytes for each of 16 items
abbrev pub strip_size : ℕ
strip_size = material_size * batch_most

-- "request empty or above 4,096 bytes"
abbrev pub request_most : ℕ
request_most = 4096

-- ---- what a call leaves

pub record Effect : Type 0 where
  pub number : ℕ
  pub length : ℕ
  pub table : List ℕ
  pub output : List ℕ
  -- 02, L8: "a second buffer of the table's size"
  pub undo : List ℕ
