-- 02, L3: the clock that counts, and what is due by it before the first item of a request.
-- Assumes nothing.
use Rattle.std.specs.Prelude.{ℕ, zero, suc, Bool, not, ◌&&◌, List, ltb, eqb}
use Rattle.octets.specs.If.{ifb}
use Rattle.table.specs.declared.Record.{Record}
use Rattle.table.specs.Records.{place_at, with_place, is_free, latest_clock, with_clock}
use Rattle.date_rules.specs.Dates.{dated_state}
use Rattle.changes.specs.Records.{in_state}

-- the state that a record's dates make of it
abbrev pub state_by : ℕ → Record → ℕ
state_by clock r = dated_state clock r.activation r.deactivation r.state

-- the record in that state
unfoldable pub ripened : ℕ → Record → Record
ripened clock r = in_state (state_by clock r) r.material r

-- a key stands at place i, and its dates move it
unfoldable pub is_ripe : ℕ → ℕ → List ℕ → ℕ → Bool
is_ripe n clock t i = let moves = not (eqb (state_by clock (place_at n t i)) (place_at n t i).state) in not (is_free t i) && moves

-- the table with what is due at place i done
unfoldable pub ripe_at : ℕ → ℕ → List ℕ → ℕ → List ℕ
ripe_at n clock t i = let changed = with_place n t i (ripened clock (place_at n t i)) in ifb (is_ripe n clock t i) changed t

-- and at the k places from i on
unfoldable pub ripe_from : ℕ → ℕ → ℕ → ℕ → List ℕ → List ℕ
ripe_from n clock i zero t = t
ripe_from n clock i (suc k) t = ripe_from n clock (suc i) k (ripe_at n clock t i)

-- "A clock earlier than the latest seen counts as the latest"
unfoldable pub counted_clock : ℕ → List ℕ → ℕ
counted_clock given t = ifb (ltb given (latest_clock t)) (latest_clock t) given

-- the table that the first item meets: the clock that counts is stored, and what is due by it is done
unfoldable pub began : ℕ → ℕ → List ℕ → List ℕ
began n clock t = ripe_from n clock 0 n (with_clock t clock)
