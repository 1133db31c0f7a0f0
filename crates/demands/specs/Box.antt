-- A box: what is lent to a call, what the call leaves, and which of these belong together.
-- Assumes nothing. The demands are predicates on any box.
use Rattle.std.specs.Prelude.{ℕ, ◌<◌, ◌^◌, max, List}
use Rattle.octets.specs.Octets.{Bytes}
use Rattle.table.specs.Records.{places_said, latest_clock}
use Rattle.calls.specs.Effects.{Effect}

-- what is lent to a call; the clock comes as its 64 bits
pub record Call : Type 0 where
  pub request : List ℕ
  pub table : List ℕ
  pub strip : List ℕ
  pub clock : ℕ
  pub output : List ℕ
  -- 02, L8: "a second buffer of the table's size"
  pub undo : List ℕ

-- a box says of a call and of what it left whether they belong together
abbrev pub Box : Type 1
Box = Call → Effect → Type 0

-- what every real call has: lent bytes are bytes, and the clock has 64 bits
pub record Lent (c : Call) : Type 0 where
  pub request : Bytes c.request
  pub table : Bytes c.table
  pub strip : Bytes c.strip
  pub output : Bytes c.output
  pub clock : c.clock < 2 ^ 64
  pub undo : Bytes c.undo

-- 02, L7, "The lead's place count": the number of places of the table that is lent to a call
abbrev pub places_of : Call → ℕ
places_of c = places_said c.table

-- 02, L3, "A clock earlier than the latest seen counts as the latest": the clock that counts for a call
abbrev pub counted : Call → ℕ
counted c = max c.clock (latest_clock c.table)
