-- `records::material_at`. What is stored over all of the array is what the array then holds.
-- Assumes nothing.
use Prim.Native.Nat.{ℕ, ◌+◌, ◌-◌}
use mathlib.Core.Path.{◌≡◌, ap, ◌∙◌}
use native.Mathlib.Omega.{arith}
use lib.ListN.{replicate}
use lib.Seq.{sets}
use Rattle.octets.specs.Octets.{part}
use Rattle.octets.proofs.Stores.{length_part, sets_whole}
use Rattle.table.specs.Layout.{material_size}
use Rattle.records.proofs.material_at.Goals as goal

pub returns : goal.returns
returns c =
    let a = c.args in
    let e : a.at + material_size - a.at ≡ material_size = omega arith in
    c.put_all.ensures
    ∙ ap (λ (k : ℕ). sets (replicate material_size 0) 0 (part a.t.now a.at k)) e
    ∙ sets_whole (replicate material_size 0) (part a.t.now a.at material_size) (length_part a.t.now a.at material_size (omega arith))
