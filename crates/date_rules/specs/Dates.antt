-- 02, L3: what a key's dates make of its state at a clock. Dates and clocks are their 64 bits; a date of 0 is not set.
-- Assumes nothing.
use Rattle.std.specs.Prelude.{ℕ, Bool, ◌&&◌, leb, eqb}
use Rattle.octets.specs.If.{ifb}
use Rattle.rules.specs.Numbers.{activate, pre_active, active, deactivated}

-- a date that is set and at or before a clock
abbrev pub has_come : ℕ → ℕ → Bool
has_come clock date = leb 1 date && leb date clock

-- the state that a date makes of a state: once it has come, `to` of `from`
abbrev pub moved_by : ℕ → ℕ → ℕ → ℕ → ℕ → ℕ
moved_by clock date from to state = ifb (eqb state from && has_come clock date) to state

-- "every Pre-Active key whose set activation date is at or before the clock becomes Active"
unfoldable pub started_state : ℕ → ℕ → ℕ → ℕ
started_state clock activation state = moved_by clock activation pre_active active state

-- "and then every Active key whose set deactivation date is at or before it becomes Deactivated"
unfoldable pub stopped_state : ℕ → ℕ → ℕ → ℕ
stopped_state clock deactivation state = moved_by clock deactivation active deactivated state

-- the state that a key's dates make of its state
unfoldable pub dated_state : ℕ → ℕ → ℕ → ℕ → ℕ
dated_state clock activation deactivation state = stopped_state clock deactivation (started_state clock activation state)

-- "Activate on a key whose set deactivation date is at or before the clock"
abbrev pub is_late : ℕ → ℕ → ℕ → Bool
is_late operation clock deactivation = eqb operation activate && has_come clock deactivation
