-- 02, L6: names in a run: no two records ever have the same one, and Locate answers the one record that has it.
-- Assumes nothing. Runs are those of demand 3, and the points between the items of an accepted call are the tables that its items meet and leave, as demand 2 links them.
use Rattle.std.specs.Prelude.{ℕ, ◌<◌, ◌≡◌, true, List}
use Rattle.names.specs.declared.Name.{Name}
use Rattle.names.specs.Names.{is_named}
use Rattle.table.specs.Layout.{places_ok}
use Rattle.table.specs.Records.{place_at}
use Rattle.payload.specs.declared.Command.TheVariants.{Locate}
use Rattle.payload.specs.Payload.{command}
use Rattle.calls.specs.Effects.{Effect}
use Rattle.demands.specs.Box.{Call, Box, Lent}
use Rattle.demands.specs.Log.{Event}
use Rattle.demands.specs.Demand2.{Link, Answered}
use Rattle.demands.specs.Demand3.{Run, Stands, carries}
use Rattle.hopes.specs.Hope.{Every}

-- ---- runs on a table of n places

module _ (n : ℕ) where
  -- no two records have the same name
  abbrev pub NamesApart : List ℕ → Type 0
  NamesApart t = (i j : ℕ) → i < n → j < n → is_named (place_at n t i).name ≡ true → (place_at n t i).name ≡ (place_at n t j).name → i ≡ j

  -- the record at place i has the name, and no other has it
  pub record OnlyNamed (name : Name) (t : List ℕ) (i : ℕ) : Type 0 where
    pub here : (place_at n t i).name ≡ name
    pub only : (j : ℕ) → j < n → (place_at n t j).name ≡ name → j ≡ i

  -- what Locate answers, as the serial that its answer carries
  pub record LocatedAs (name : Name) (t : List ℕ) (serial : ℕ) : Type 0 where
    -- none, and no record has the name
    pub nothing : serial ≡ 0 → (j : ℕ) → j < n → (place_at n t j).name ≡ name → ⊥
    -- or that of the one record that has it
    pub there : (serial ≡ 0 → ⊥) → (i : ℕ) × Stands n serial t i × OnlyNamed name t i

  -- an item of an accepted call
  pub record Named (l : Link) : Type 0 where
    pub meets : NamesApart l.table
    pub leaves : NamesApart l.did.table
    pub locates : (name : Name) → command l.asked.operation l.asked.payload ≡ Locate name → LocatedAs name l.table (carries l.did.outcome)

  pub record NamingOf (B : Box) : Type 0 where
    -- at every point of a run
    pub apart : {log : List Event} {t : List ℕ} → Run n B log t → NamesApart t
    -- and between the items of an accepted call
    pub between : {log : List Event} {t : List ℕ} → Run n B log t → (c : Call) (e : Effect) → c.table ≡ t → Lent c → B c e → e.number ≡ 0 → (g : Answered c e) → Every Named g.links

-- of either count
abbrev pub Naming : Box → Type 0
Naming B = (n : ℕ) → places_ok n ≡ true → NamingOf n B
