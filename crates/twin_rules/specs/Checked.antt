-- What the check asks in place of those rules, one search a place: that a place is found by its own serial and by its own name. That this comes to the same is a law.
-- Assumes nothing.
use Rattle.std.specs.Prelude.{Option, None, Some}
use Rattle.std.specs.Prelude.{◌≡◌, ℕ, ◌≤◌, ◌<◌, Bool, true, false, List, eqb}
use Rattle.octets.specs.If.{ifb}
use Rattle.names.specs.declared.Name.{Name}
use Rattle.names.specs.Names.{is_named}
use Rattle.table.specs.Layout.{Place}
use Rattle.table.specs.Records.{serial_at}
use Rattle.name_search.specs.Names.{find_name}

-- a search found this place
unfoldable pub is_at : ℕ → Option ℕ → Bool
is_at i (Some j) = eqb j i
is_at i None = false

-- no name at all, or one whose search gives place i
unfoldable pub own_name : ℕ → List ℕ → ℕ → Name → Bool
own_name n t i name = let found = is_at i (find_name n t name) in ifb (is_named name) found true

-- no serial at the places below i is above `top`
abbrev pub TopBelow : List ℕ → ℕ → ℕ → Type 0
TopBelow t i top = (j : ℕ) → j < i → serial_at t j ≤ top

-- what the search for a serial asks: the serial is that of place i, and `top` is as high as any below
pub record Owns (n : ℕ) (t : List ℕ) (i top serial : ℕ) : Type 0 where
  pub place : Place n t i
  pub own : serial ≡ serial_at t i
  pub highest : TopBelow t i top
