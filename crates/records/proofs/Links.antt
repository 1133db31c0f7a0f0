-- The two links of a record are the serials in its line.
-- Assumes nothing.
use mathlib.Core.Path.{◌≡◌, ap}
use Prim.Native.Nat.{ℕ}
use mathlib.Core.List.{List}
use Rattle.table.specs.declared.Record.{Record}
use Rattle.table.specs.Layout.{replaced_in, replacement_in}
use Rattle.table.specs.Records.{place_at}
use Rattle.table.proofs.Places.{place_fields}
use Rattle.records.specs.Links.{link_at}

pub link_replaced : (n : ℕ) (t : List ℕ) (i : ℕ) → link_at t i replaced_in ≡ (place_at n t i).replaced
link_replaced n t i = ap (λ (r : Record). r.replaced) (place_fields n t i)

pub link_replacement : (n : ℕ) (t : List ℕ) (i : ℕ) → link_at t i replacement_in ≡ (place_at n t i).replacement
link_replacement n t i = ap (λ (r : Record). r.replacement) (place_fields n t i)
