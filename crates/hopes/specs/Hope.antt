-- 00's hope: time-driven deactivation that stands firm when the station clock is set back.
-- Assumes nothing. Runs are those of demand 3, and the points between the items of an accepted call are the tables that its items meet and leave, as demand 2 links them.
use Rattle.std.specs.Prelude.{ℕ, ◌≤◌, ◌<◌, max, ◌≡◌, ◌⊎◌, true, List, [], ◌∷◌, eqb}
use Rattle.octets.specs.If.{ifb}
use Rattle.table.specs.Layout.{places_ok}
use Rattle.table.specs.Records.{place_at, last_serial, latest_clock}
use Rattle.rules.specs.Numbers.{pre_active, active, deactivated}
use Rattle.date_rules.specs.Dates.{has_come}
use Rattle.payload.specs.Payload.{command}
use Rattle.calls.specs.Effects.{Effect}
use Rattle.demands.specs.Box.{Call, Box, Lent, counted}
use Rattle.demands.specs.Log.{Event, grant_by, granted, logged}
use Rattle.demands.specs.Demand2.{Link, Answered}
use Rattle.demands.specs.Demand3.{Run, begins, calls, Later, Stands}

-- the largest of some clocks; 0 where there is none
unfoldable pub largest : List ℕ → ℕ
largest [] = 0
largest (clock ∷ clocks) = max clock (largest clocks)

-- each of some items
pub data Every (P : Link → Type 0) : List Link → Type 0 where
  none : Every P []
  more : {l : Link} {links : List Link} → P l → Every P links → Every P (l ∷ links)

-- ---- runs on a table of n places

module _ (n : ℕ) where
  -- ---- (a) the clocks of a run

  -- the clocks that the accepted calls of a run gave
  unfoldable pub heard : {B : Box} {log : List Event} {t : List ℕ} → Run n B log t → List ℕ
  heard begins = []
  heard (calls c e run same lent b) = let before = heard run in ifb (eqb e.number 0) (c.clock ∷ before) before

  -- ---- (b) in time

  -- the key at place i has no deactivation date, or one that lies after the clock
  abbrev pub InTimeAt : ℕ → List ℕ → ℕ → Type 0
  InTimeAt clock t i = ((place_at n t i).deactivation ≡ 0) ⊎ (clock < (place_at n t i).deactivation)

  -- and so has every Active key
  abbrev pub InTime : ℕ → List ℕ → Type 0
  InTime clock t = (i : ℕ) → i < n → (place_at n t i).state ≡ active → InTimeAt clock t i

  -- a key that is granted units: it stands, is Active, and is in time
  pub record Spends (clock x : ℕ) (t : List ℕ) : Type 0 where
    pub place : ℕ
    pub stands : Stands n x t place
    pub active : (place_at n t place).state ≡ active
    pub in_time : InTimeAt clock t place

  -- ---- (c) stopped

  -- x was issued, and where it stands it is neither Pre-Active nor Active
  pub record Stopped (x : ℕ) (t : List ℕ) : Type 0 where
    pub issued : x ≤ last_serial t
    pub past : (i : ℕ) → Stands n x t i → ((place_at n t i).state ≡ pre_active → ⊥) × ((place_at n t i).state ≡ active → ⊥)

  -- ---- an item of an accepted call

  pub record Firm (clock : ℕ) (l : Link) : Type 0 where
    -- Active keys are in time where it begins and where it ends
    pub meets : InTime clock l.table
    pub leaves : InTime clock l.did.table
    -- so no units are granted for a key past its date
    pub spends : (x : ℕ) → (grant_by x (command l.asked.operation l.asked.payload) l.did.outcome ≡ 0 → ⊥) → Spends clock x l.table
    -- and what is stopped stays so
    pub stopped : (x : ℕ) → (x ≡ 0 → ⊥) → Stopped x l.table → Stopped x l.did.table

  -- ---- the whole

  pub record HopeOf (B : Box) : Type 0 where
    -- (a) the stored latest clock is the largest clock of the accepted calls, and never falls
    pub largest_clock : {log : List Event} {t : List ℕ} (run : Run n B log t) → latest_clock t ≡ largest (heard run)
    pub never_falls : {log log' : List Event} {t t' : List ℕ} → Run n B log t → Later n B log t log' t' → latest_clock t ≤ latest_clock t'
    -- (b) at every point of a run Active keys are in time by the latest clock
    pub in_time : {log : List Event} {t : List ℕ} → Run n B log t → InTime (latest_clock t) t
    -- (b) no units are granted for a key past its date, whatever clocks later calls give: a call in which its deactivation date has come, by the clock that counts, adds nothing to them
    pub spends_nothing : {log : List Event} {t : List ℕ} → Run n B log t → (c : Call) (e : Effect) → c.table ≡ t → Lent c → B c e
        → (x i : ℕ) → (x ≡ 0 → ⊥) → Stands n x t i → has_come (counted c) (place_at n t i).deactivation ≡ true → granted x (logged c e log) ≡ granted x log
    -- (b), (c) and so they are between the items of an accepted call, by the clock that counts, whatever clock it gives
    pub firm : {log : List Event} {t : List ℕ} → Run n B log t → (c : Call) (e : Effect) → c.table ≡ t → Lent c → B c e → e.number ≡ 0 → (g : Answered c e)
        → Every (Firm (counted c)) g.links
    -- what is due before the first item does not bring back what is stopped
    pub stopped_begins : {log : List Event} {t : List ℕ} → Run n B log t → (c : Call) (e : Effect) → c.table ≡ t → Lent c → B c e → e.number ≡ 0 → (g : Answered c e)
        → (x : ℕ) → (x ≡ 0 → ⊥) → Stopped x t → Stopped x g.start
    -- (c) a key that was Deactivated is never Pre-Active or Active again under its identifier
    pub never_again : {log log' : List Event} {t t' : List ℕ} → Run n B log t → (x i : ℕ) → (x ≡ 0 → ⊥) → Stands n x t i → (place_at n t i).state ≡ deactivated
        → Later n B log t log' t' → (j : ℕ) → Stands n x t' j → ((place_at n t' j).state ≡ pre_active → ⊥) × ((place_at n t' j).state ≡ active → ⊥)

-- of either count
abbrev pub Hope : Box → Type 0
Hope B = (n : ℕ) → places_ok n ≡ true → HopeOf n B
