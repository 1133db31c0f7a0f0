-- 02, L6: "Older tables are .. converted as in L3", and L3: "a small tool turns old into new, dates not set and latest clock 0". A table of L3 keeps its dates and its latest clock. No name is set.
-- Assumes nothing.
use Rattle.std.specs.Prelude.{ℕ, ◌<◌, ◌≡◌, Bool, true, ◌&&◌, ◌||◌, List, length, eqb}
use Rattle.octets.specs.If.{ifb}
use Rattle.names.specs.Names.{no_name}
use Rattle.table.specs.declared.Record.{Record}
use Rattle.table.specs.Layout.{size_of, small_count}
use Rattle.table.specs.Records.{place_at, last_serial, places_said, latest_clock}
use Rattle.soundness.specs.Sound.{sound}
use Rattle.convert.specs.Old.{Age, plain, dated, width, old_size_of, old_place_at, widened, narrowed}
use Rattle.convert.specs.OldSound.{sound_old}

-- whether `old` is a sound table of 01 or of L3, and `new` has room for what it becomes, not a byte more
unfoldable pub converts : List ℕ → List ℕ → Bool
converts old new = (sound_old plain small_count old || sound_old dated small_count old) && eqb (length new) (size_of small_count)

-- which of the two a table is, by its size
unfoldable pub age_of : List ℕ → Age
age_of old = ifb (eqb (length old) (old_size_of (width plain) small_count)) plain dated

-- what is left in `new`: the new table, or what it held
unfoldable pub converted : List ℕ → List ℕ → List ℕ
converted old new = let wide = widened (width (age_of old)) small_count old in ifb (converts old new) wide new

-- what is left in `new` once an old table with bodies of w bytes was put together anew: the new table if that is sound, or what it held
unfoldable pub if_sound : ℕ → List ℕ → List ℕ → List ℕ
if_sound w old new = let wide = widened w small_count old in ifb (sound small_count wide) wide new

-- ---- what an old table should become

-- what an old table did not know is not set in this record: no name, and of a table of 01 no date
abbrev pub Unset : Age → Record → Type 0
Unset plain r = (r.activation ≡ 0) × ((r.deactivation ≡ 0) × (r.name ≡ no_name))
Unset dated r = r.name ≡ no_name

-- the latest clock that an old table saw: one of 01 saw none
abbrev pub clock_seen : Age → List ℕ → ℕ
clock_seen plain t = 0
clock_seen dated t = latest_clock t

-- the table u is what an old table t should become: sound, with the same records and what is new unset, the same lead, and t can be had back
pub record Becomes (age : Age) (n : ℕ) (t u : List ℕ) : Type 0 where
  pub sound : sound n u ≡ true
  pub records : (i : ℕ) → i < n → place_at n u i ≡ old_place_at (width age) n t i
  pub unset : (i : ℕ) → i < n → Unset age (place_at n u i)
  pub last : last_serial u ≡ last_serial t
  pub said : places_said u ≡ places_said t
  pub latest : latest_clock u ≡ clock_seen age t
  pub back : narrowed (width age) n u ≡ t
