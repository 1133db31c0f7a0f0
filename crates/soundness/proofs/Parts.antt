-- Parts of the table and of a record as the check's functions lend them, and as the rules name them.
-- Assumes nothing.
use mathlib.Core.Path.{◌≡◌, sym, ap, ap₂, ◌∙◌}
use Prim.Native.Nat.{ℕ, ◌+◌, ◌-◌, ◌≤◌, min}
use native.Mathlib.Nat.{min-eq_left, min-eq_right, min-le_right}
use native.Mathlib.Decide.{dec_le}
use native.Mathlib.Omega.{arith}
use mathlib.Core.List.{List}
use lib.ListN.{length, take, drop, length-drop, drop_of_length-le}
use lib.Seq.{take_all}
use Rattle.octets.specs.Octets.{part}
use Rattle.octets.proofs.Stores.{length_part, part_part}
use Rattle.table.specs.declared.Record.{Record}
use Rattle.table.specs.Layout.{body_start, material_size, material_in, Place}
use Rattle.table.specs.Records.{place_at}
use Rattle.table.proofs.Places.{place_fields}
use Rattle.record_rules.specs.Checked.{zeros_from}

-- what is left of m from k on, or from its end if k lies past it
pub tail_lent : (m : List ℕ) (k len : ℕ) → length m ≡ material_size → len ≡ min k material_size → take (material_size - len) (drop len m) ≡ drop k m
tail_lent m k len l e = elim (dec_le k material_size) [
  | yes h ↦ let z : len ≡ k = e ∙ min-eq_left h in rw z (take_all (material_size - k) (drop k m) (rw length-drop (omega arith)))
  | no h ↦
      let z : len ≡ material_size = e ∙ min-eq_right (omega arith) in
      rw z (sym (drop_of_length-le m {i = k} (omega arith)))
]

-- the w bytes from `at` on, lent
pub lent_part_lem : (t : List ℕ) (at a w : ℕ) → at ≡ a → take (at + w - at) (drop at t) ≡ part t a w
lent_part_lem t at a w e = let z : at + w - at ≡ w = omega arith in rw (z, e)

-- the material of the record at place i from where its zeros start, lent where it stands
pub material_lent : (n : ℕ) (t : List ℕ) (i : ℕ) (r : Record) (body z : ℕ) → Place n t i → r ≡ place_at n t i → body ≡ body_start n i → z ≡ min (zeros_from r) material_size
    → take (body + material_in + material_size - (body + material_in + z)) (drop (body + material_in + z) t) ≡ drop (zeros_from r) r.material
material_lent n t i r body z place same eb ez =
    let k = zeros_from r in
    let few : z ≤ material_size = rw ez (min-le_right k material_size) in
    let at = body_start n i + material_in in
    let left : body + material_in + material_size - (body + material_in + z) ≡ material_size - z = omega arith in
    let material : part t at material_size ≡ r.material = ap (λ (x : Record). x.material) (place_fields n t i) ∙ ap (λ (x : Record). x.material) (sym same) in
    ap₂ (λ (w from : ℕ). take w (drop from t)) left (ap (λ (b : ℕ). b + material_in + z) eb)
    ∙ sym (part_part t at material_size z (material_size - z) (omega arith))
    ∙ tail_lent (part t at material_size) k z (length_part t at material_size (omega arith)) ez
    ∙ ap (drop k) material
