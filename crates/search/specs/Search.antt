-- Searches of the table: the lowest place that passes a test; a record by its serial; where a new key goes.
-- Assumes nothing.
use Rattle.std.specs.Prelude.{Option, None, Some}
use Rattle.std.specs.Prelude.{ℕ, zero, suc, ◌<◌, Bool, true, false, ◌||◌, List, eqb}
use Rattle.octets.specs.If.{ifb}
use Rattle.table.specs.Records.{serial_at, state_at, is_free}

-- the lowest of the k places from i on that passes the test
unfoldable pub first_from : (ℕ → Bool) → ℕ → ℕ → Option ℕ
first_from test i zero = None
first_from test i (suc k) = let later = first_from test (suc i) k in ifb (test i) (Some i) later

-- the lowest of n places that passes the test
abbrev pub first : ℕ → (ℕ → Bool) → Option ℕ
first n test = first_from test 0 n

-- what a search of n places may find, where `gives` says what a test may give: the lowest place at which it gives true
unfoldable pub IsFirst : ℕ → (ℕ → Bool → Type 0) → Option ℕ → Type 0
IsFirst n gives (Some i) = (i < n) × gives i true × ((j : ℕ) → j < i → gives j false)
IsFirst n gives None = (j : ℕ) → j < n → gives j false

unfoldable pub is_nothing : Option ℕ → Bool
is_nothing (Some i) = false
is_nothing None = true

-- one place if there is one, else another
unfoldable pub or_else : Option ℕ → Option ℕ → Option ℕ
or_else (Some i) other = Some i
or_else None other = other

-- place i has this serial
abbrev pub has_serial : List ℕ → ℕ → ℕ → Bool
has_serial t serial i = eqb (serial_at t i) serial

-- the place of the record with a serial; zero is no record's serial, though a free place has it
unfoldable pub find : ℕ → List ℕ → ℕ → Option ℕ
find n t serial = ifb (eqb serial 0) None (first n (has_serial t serial))

-- state 5 or 6
abbrev pub is_destroyed : ℕ → Bool
is_destroyed state = eqb state 5 || eqb state 6

unfoldable pub free_place : ℕ → List ℕ → Option ℕ
free_place n t = first n (is_free t)

unfoldable pub destroyed_place : ℕ → List ℕ → Option ℕ
destroyed_place n t = first n (λ i. is_destroyed (state_at t i))

-- "the lowest free place, or if none is free the lowest place in state 5 or 6"
unfoldable pub new_place : ℕ → List ℕ → Option ℕ
new_place n t = or_else (free_place n t) (destroyed_place n t)
