-- How great the parts of batch items are: every operation fits 32 bits, every ID 16 bytes.
-- Assumes nothing. `Bytes` holds of every lent slice.
use mathlib.Core.Path.{◌≡◌}
use Prim.Native.Nat.{ℕ, ◌-◌, ◌^◌, ◌≤◌, ◌<◌}
use mathlib.Core.Bool.{true}
use Rattle.std.specs.Prelude.{Some}
use mathlib.Core.List.{List, [], ◌∷◌}
use lib.ListN.{length, drop}
use Rattle.octets.specs.Octets.{part, Bytes}
use Rattle.octets.proofs.Numbers.{bytes_take, bytes_drop}
use Rattle.ttlv.specs.Tree.{is_run, tree_of}
use Rattle.batch_item.specs.Item.{Asked, items_in}
use Rattle.batch_item.proofs.Item.{shape}
use Rattle.batch_item.proofs.Items.{step}

pub record Bounded (a : Asked) : Type 0 where
  pub below : a.operation < 256 ^ 4
  pub short : length a.id ≤ 16

abbrev pub AllBounded : List Asked → Type 0
AllBounded [] = Unit {0}
AllBounded (a ∷ later) = Bounded a × AllBounded later

pub items_bounded : (items : List Asked) (u : List ℕ) → is_run u ≡ true → Bytes u → items_in (tree_of u) ≡ Some items → AllBounded items
items_bounded [] u r b h = tt
items_bounded (a ∷ later) u r b h =
    let p = step u r a later h in
    let f = shape (part u 8 (p.next - 8)) a p.item_run p.item in
    let i = f.below (bytes_take (p.next - 8) (drop 8 u) (bytes_drop 8 u b)) in
    (record { below = i; short = f.short }, items_bounded later (drop p.next u) p.later_run (bytes_drop p.next u b) p.items)
