-- Old tables, as 01 had them or as L3 left them, and what they become: lead and lines stand where they stood, and each body gets zeros behind it, so that what is new is not set.
-- Assumes nothing; over the number n of places and the number w of bytes in an old body.
use Rattle.std.specs.Prelude.{◌≡◌, ℕ, zero, suc, ◌+◌, ◌*◌, ◌-◌, ◌≤◌, ◌<◌, List, [], ◌++◌, length, take, replicate}
use Rattle.octets.specs.Octets.{part}
use Rattle.table.specs.declared.Record.{Record}
use Rattle.table.specs.Layout.{lead_size, line_size, body_size, line_start, body_start, Table}
use Rattle.table.specs.Records.{record_of}

-- ---- the old tables

-- a table of 01, or one of L3 with dates
pub data Age : Type 0 where
  plain : Age
  dated : Age

-- the bytes of a body: "bodies of 56" and "a body is 72 bytes"
abbrev pub width : Age → ℕ
width plain = 56
width dated = 72

-- the bytes in front of the bodies: the lead and the lines
abbrev pub front_size : ℕ → ℕ
front_size n = lead_size + line_size * n

-- where the body of place i starts
abbrev pub old_body_start : ℕ → ℕ → ℕ → ℕ
old_body_start w n i = front_size n + w * i

-- the bytes of an old table of n places
abbrev pub old_size_of : ℕ → ℕ → ℕ
old_size_of w n = front_size n + w * n

-- t has the size of an old table of n places
abbrev pub OldTable : ℕ → ℕ → List ℕ → Type 0
OldTable w n t = length t ≡ old_size_of w n

-- the body of place i
abbrev pub old_body_at : ℕ → ℕ → List ℕ → ℕ → List ℕ
old_body_at w n t i = part t (old_body_start w n i) w

-- a body with zeros behind it, up to the bytes of a body of today: what is new is not set
abbrev pub lengthened : ℕ → List ℕ → List ℕ
lengthened w b = b ++ replicate (body_size - w) 0

-- the record at place i of an old table; what is new is not set
unfoldable pub old_place_at : ℕ → ℕ → List ℕ → ℕ → Record
old_place_at w n t i = record_of (part t (line_start i) line_size) (lengthened w (old_body_at w n t i))

-- ---- from the old table to the new one, and back

-- what is given for each of the k places from i on, one behind the other
unfoldable pub joined_from : (ℕ → List ℕ) → ℕ → ℕ → List ℕ
joined_from given i zero = []
joined_from given i (suc k) = given i ++ joined_from given (suc i) k

-- lead and lines of t as they are, and then these bodies
abbrev pub with_bodies : ℕ → List ℕ → (ℕ → List ℕ) → List ℕ
with_bodies n t bodies = take (front_size n) t ++ joined_from bodies 0 n

-- the new table: lead and lines as they were, and zeros behind each body
unfoldable pub widened : ℕ → ℕ → List ℕ → List ℕ
widened w n t = with_bodies n t (λ i. lengthened w (old_body_at w n t i))

-- the old table of a new one: each body cut to w bytes
unfoldable pub narrowed : ℕ → ℕ → List ℕ → List ℕ
narrowed w n t = with_bodies n t (λ i. part t (body_start n i) w)

-- ---- what the private functions ask; `convert` shows it

-- both tables have their sizes, and an old body is no longer than one of today
pub record BothTables (w n : ℕ) (old new : List ℕ) : Type 0 where
  pub fits : w ≤ body_size
  pub old_sized : OldTable w n old
  pub new_sized : Table n new

-- and place i is one of theirs
pub record BothPlaces (w n : ℕ) (old new : List ℕ) (i : ℕ) : Type 0 where
  pub tables : BothTables w n old new
  pub below : i < n
