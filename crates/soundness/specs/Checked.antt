-- What the check asks of the whole table and of one place after the other, each place once; that it asks what `sound` asks is a law.
-- Assumes nothing.
use Rattle.std.specs.Prelude.{◌≡◌, ℕ, ◌+◌, ◌≤◌, Bool, ◌&&◌, List, eqb}
use Rattle.octets.specs.If.{ifb}
use Rattle.table.specs.declared.Record.{Record}
use Rattle.table.specs.Layout.{line_size, Table, Place}
use Rattle.table.specs.Records.{place_at, is_free, last_serial, latest_clock}
use Rattle.search.specs.Search.{find}
use Rattle.records.specs.Links.{link_at}
use Rattle.record_rules.specs.Checked.{values_right, material_right, serials_right, times_right}
use Rattle.twin_rules.specs.Checked.{TopBelow, own_name}
unfoldable pub use Rattle.twin_rules.specs.Checked.{is_at}
use Rattle.soundness.specs.Sound.{size_right, count_right, latest_right, free_right, zeros_right, links_right}

-- rules 1, 2 and 17
unfoldable pub whole_right : ℕ → List ℕ → Bool
whole_right n t = size_right n t && count_right n t && latest_right n t

-- the record at place j has this serial as the link that stands `from` bytes into its line
abbrev pub has_link : List ℕ → ℕ → ℕ → ℕ → Bool
has_link t serial from j = eqb (link_at t j from) serial

-- rules 4 to 16 and 18 to 22 at place i, where r stands: its serial is distinct if the search for it gives this place, and so is its name
unfoldable pub standing_right : ℕ → List ℕ → ℕ → Record → Bool
standing_right n t i r =
    zeros_right n t i && values_right r && material_right r && serials_right (last_serial t) r && times_right (latest_clock t) r
    && is_at i (find n t r.serial) && links_right n t r && own_name n t i r.name

-- rules 3 to 16 and 18 to 22 at place i
unfoldable pub place_right : ℕ → List ℕ → ℕ → Bool
place_right n t i = ifb (is_free t i) (free_right n t i) (standing_right n t i (place_at n t i))

-- ---- what the functions at a place ask; the check shows it as it counts the places

-- the table has n places, and four bytes stand in a line from there on
pub record LinkAsked (n : ℕ) (t : List ℕ) (from : ℕ) : Type 0 where
  pub sized : Table n t
  pub in_line : from + 4 ≤ line_size

-- p is the record at place i
pub record RecordAt (n : ℕ) (t : List ℕ) (i : ℕ) (p : Record) : Type 0 where
  pub place : Place n t i
  pub held : p ≡ place_at n t i

-- the check has come to place i: `last` is the last serial issued, `latest` the latest clock, and `top` is as high as any below
pub record Reached (n : ℕ) (t : List ℕ) (i last latest top : ℕ) : Type 0 where
  pub place : Place n t i
  pub issued : last ≡ last_serial t
  pub seen : latest ≡ latest_clock t
  pub highest : TopBelow t i top

-- and p is the record there
pub record ReachedRecord (n : ℕ) (t : List ℕ) (i last latest top : ℕ) (p : Record) : Type 0 where
  pub reached : Reached n t i last latest top
  pub held : p ≡ place_at n t i
