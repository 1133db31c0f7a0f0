-- A number reader reads at most eight bytes: of a shorter part that is the whole part.
-- Assumes nothing.
use mathlib.Core.Path.{◌≡◌}
use Prim.Native.Nat.{ℕ, ◌+◌, ◌^◌, ◌≤◌, ◌<◌}
use native.Mathlib.Omega.{arith}
use mathlib.Core.List.{List}
use lib.ListN.{length, take, length-take}
use lib.Seq.{take_all}
use Rattle.octets.specs.Octets.{part}
use Rattle.octets.proofs.Stores.{length_part}

pub eight_part : (w at : ℕ) (s : List ℕ) → w ≤ 8 → take 8 (part s at w) ≡ part s at w
eight_part w at s h = take_all 8 (part s at w) (rw length-take (omega arith))

pub eight_below : (w at : ℕ) (s : List ℕ) (n : ℕ) → (w ≤ 8) × (at + w ≤ length s) → n < 256 ^ length (take 8 (part s at w)) → n < 256 ^ w
eight_below w at s n h l = rw (eight_part w at s h.0, length_part s at w h.1) at l
