-- A link of a record, read by itself: "replaced serial (4), replacement serial (4)" of its line.
-- Assumes nothing.
use Rattle.std.specs.Prelude.{ℕ, ◌+◌, ◌≤◌, List}
use Rattle.octets.specs.Octets.{from_be, part}
use Rattle.table.specs.Layout.{line_size, line_start, Place}

-- the serial that stands `from` bytes into the line of place i
abbrev pub link_at : List ℕ → ℕ → ℕ → ℕ
link_at t i from = from_be (part t (line_start i + from) 4)

-- i is a place of the table, and four bytes stand in its line from there on
pub record LinkIn (n : ℕ) (t : List ℕ) (i from : ℕ) : Type 0 where
  pub place : Place n t i
  pub in_line : from + 4 ≤ line_size
