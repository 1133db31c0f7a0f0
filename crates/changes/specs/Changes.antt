-- 01, "Operations": what becomes of the table, and when no new object can be taken in.
-- Assumes nothing.
use Rattle.std.specs.Prelude.{Option, None, Some}
use Rattle.std.specs.Prelude.{ℕ, ◌+◌, Bool, ◌||◌, List, eqb}
use Rattle.table.specs.declared.Record.{Record}
use Rattle.table.specs.Records.{place_at, with_place, last_serial, with_last}
use Rattle.search.specs.Search.{is_nothing, new_place}
use Rattle.heirs.specs.Heirs.{linked_to}

-- "the last serial is 4,294,967,295"
abbrev pub serial_most : ℕ
serial_most = 4_294_967_295

-- "Server Limit Exceeded is given exactly when neither exists or the last serial is 4,294,967,295"
unfoldable pub is_full : ℕ → List ℕ → Bool
is_full n t = is_nothing (new_place n t) || eqb (last_serial t) serial_most

-- "New objects take serial last + 1"
abbrev pub next_serial : List ℕ → ℕ
next_serial t = last_serial t + 1

-- a new record stored in a place, "from then on the last issued"
unfoldable pub born_at : ℕ → List ℕ → Record → Option ℕ → List ℕ
born_at n t r None = t
born_at n t r (Some i) = with_last (with_place n t i r) r.serial

-- the table with a new record in the place that is due
unfoldable pub with_born : ℕ → List ℕ → Record → List ℕ
with_born n t r = born_at n t r (new_place n t)

-- the table with the replacement of the record at place i, linked both ways
unfoldable pub with_heir : ℕ → List ℕ → ℕ → Record → List ℕ
with_heir n t i heir = born_at n (with_place n t i (linked_to heir.serial (place_at n t i))) heir (new_place n t)
