-- Demand 3 in 00's own words, over whole runs: nothing here speaks of the items of a call, or of the tables between them.
-- Assumes nothing. Every box that meets demand 3 has it (`plainly`).
use Rattle.std.specs.Prelude.{ℕ, ◌+◌, ◌≤◌, ◌<◌, ◌≡◌, true, false, List, [], ◌∷◌, replicate}
use Rattle.table.specs.Layout.{places_ok, material_size}
use Rattle.table.specs.declared.Record.{Record}
use Rattle.table.specs.Records.{place_at}
use Rattle.search.specs.Search.{is_destroyed}
use Rattle.plans.specs.declared.Key.{Key}
use Rattle.plans.specs.declared.Outcome.TheVariants.{Got}
use Rattle.plans.specs.Plans.{key_of}
use Rattle.demands.specs.Box.{Box}
use Rattle.demands.specs.Log.{Event, issued, granted, limit, name_in, was_destroyed, handed_dead}
use Rattle.demands.specs.Demand3.{Run, Later, Stands, listed, listed_by}

-- the states that one state can lead to, by the listed transitions alone: those of the operations, and by 02, L3, those of the dates
pub data Ways : ℕ → ℕ → Type 0 where
  still : {from : ℕ} → Ways from from
  by_item : {from via to : ℕ} (operation code : ℕ) → Ways from via → listed operation code via to ≡ true → Ways from to
  by_date : {from to : ℕ} (clock : ℕ) (r : Record) → Ways from r.state → listed_by clock r to ≡ true → Ways from to

-- every key that a log hands out under identifier x is this one
abbrev pub HandsOut : ℕ → Key → List Event → Type 0
HandsOut x key [] = Unit {0}
HandsOut x key (e ∷ log) = ((k : Key) → e.answer.outcome ≡ Got k → k.serial ≡ x → k ≡ key) × HandsOut x key log

-- ---- runs on a table of n places; identifiers are given as their serials, which are not 0

module _ (n : ℕ) where
  pub record PlainOf (B : Box) : Type 0 where
    -- "For every identifier issued with a usage limit, the units granted in its successful answers plus the count in its record equal the total it began with, as long as its record stands"
    pub counted : {log : List Event} {t : List ℕ} → Run n B log t → (x i : ℕ) → (x ≡ 0 → ⊥) → Stands n x t i → granted x log + (place_at n t i).count ≡ limit x log
    -- its record keeps that total
    pub total_kept : {log : List Event} {t : List ℕ} → Run n B log t → (x i : ℕ) → (x ≡ 0 → ⊥) → Stands n x t i → (place_at n t i).total ≡ limit x log
    -- "If the box grants 101 on 100": it never does, whether the record still stands or not
    pub no_more : {log : List Event} {t : List ℕ} → Run n B log t → (x : ℕ) → (x ≡ 0 → ⊥) → granted x log ≤ limit x log
    -- "Once a newer object has taken the place, that identifier is granted nothing more": what was issued and does not stand
    pub nothing_more : {log log' : List Event} {t t' : List ℕ} → Run n B log t → Later n B log t log' t' → (x : ℕ) → (x ≡ 0 → ⊥) → 1 ≤ issued x log → ((i : ℕ) → Stands n x t i → ⊥)
        → granted x log' ≡ granted x log
    -- "No identifier is issued twice"
    pub once : {log : List Event} {t : List ℕ} → Run n B log t → (x : ℕ) → (x ≡ 0 → ⊥) → issued x log ≤ 1
    -- "no state changes but by the listed transitions": a record that stands at two points of a run stands at the same place, and its first state leads to its second
    pub states : {log log' : List Event} {t t' : List ℕ} → Run n B log t → Later n B log t log' t' → (x i j : ℕ) → (x ≡ 0 → ⊥) → Stands n x t i → Stands n x t' j
        → (j ≡ i) × Ways (place_at n t i).state (place_at n t' j).state
    -- "and a record in a destroyed state holds no key byte"
    pub wiped : {log : List Event} {t : List ℕ} → Run n B log t → (i : ℕ) → i < n → is_destroyed (place_at n t i).state ≡ true → (place_at n t i).material ≡ replicate material_size 0
    -- 02, L6: a key has the name that its Create asked for, or that of the key which it replaced, until "Re-key moves it from the old key to the new"
    pub named : {log : List Event} {t : List ℕ} → Run n B log t → (x i : ℕ) → (x ≡ 0 → ⊥) → Stands n x t i → (place_at n t i).name ≡ name_in x log
    -- "or wakes a destroyed key": what was answered as destroyed is so as long as its record stands
    pub dead_as_told : {log : List Event} {t : List ℕ} → Run n B log t → (x i : ℕ) → (x ≡ 0 → ⊥) → Stands n x t i → was_destroyed x log ≡ true → is_destroyed (place_at n t i).state ≡ true
    -- 02, L1: "once an identifier is in a destroyed state, no later Get for it succeeds"
    pub unheard : {log : List Event} {t : List ℕ} → Run n B log t → (x : ℕ) → (x ≡ 0 → ⊥) → handed_dead x log ≡ 0
    -- "hands keys out": every Get of x hands out the same key
    pub same_key : {log : List Event} {t : List ℕ} → Run n B log t → (x : ℕ) → (x ≡ 0 → ⊥) → (key : Key) × HandsOut x key log
    -- and that is the one of its record, as long as it stands and is not destroyed
    pub own_key : {log : List Event} {t : List ℕ} → Run n B log t → (x i : ℕ) → (x ≡ 0 → ⊥) → Stands n x t i → is_destroyed (place_at n t i).state ≡ false → HandsOut x (key_of (place_at n t i)) log
    -- "stay dead": what is destroyed is so as long as it stands, and is granted nothing more
    pub stays_dead : {log log' : List Event} {t t' : List ℕ} → Run n B log t → Later n B log t log' t' → (x i : ℕ) → (x ≡ 0 → ⊥) → Stands n x t i → is_destroyed (place_at n t i).state ≡ true
        → ((j : ℕ) → Stands n x t' j → is_destroyed (place_at n t' j).state ≡ true) × (granted x log' ≡ granted x log)

-- of either count
abbrev pub Plain : Box → Type 0
Plain B = (n : ℕ) → places_ok n ≡ true → PlainOf n B
