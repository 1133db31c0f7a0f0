-- Laws of material: the first bytes of a part of the fresh strip, filled up with zeros.
-- Assumes nothing.
use mathlib.Core.Path.{◌≡◌, sym, ap, ◌∙◌}
use Prim.Native.Nat.{ℕ, ◌/◌, ◌≤◌, min}
use native.Mathlib.Omega.{arith}
use mathlib.Core.Bool.{true}
use mathlib.Core.List.{List}
use lib.ListN.{length, take, drop, length-take}
use lib.Seq.{length-take-le}
use Rattle.octets.specs.Octets.{Bytes, all_zero}
use Rattle.octets.proofs.Numbers.{bytes_take}
use Rattle.octets.proofs.Stores.{take_there}
use Rattle.words.specs.Words.{filled}
use Rattle.words.proofs.Laws.{length_filled, bytes_filled, filled_tail}
use Rattle.table.specs.Layout.{material_size}
use Rattle.new_records.specs.New.{material_from}

module _ (bits : ℕ) (fresh : List ℕ) where
  -- the bytes that are there, filled up
  pub material_filled : (end : ℕ) → end ≡ min (bits / 8) (length fresh) → filled (take end fresh) ≡ material_from bits fresh
  unfolding material_from
  material_filled end e =
      let m : end ≡ length (take (bits / 8) fresh) = e ∙ sym (length-take (bits / 8) fresh) in
      ap (λ (k : ℕ). filled (take k fresh)) m ∙ ap filled (take_there (bits / 8) fresh)

  pub length_material : length (material_from bits fresh) ≡ material_size
  unfolding material_from
  length_material = length_filled (take (bits / 8) fresh)

  pub bytes_material : Bytes fresh → Bytes (material_from bits fresh)
  unfolding material_from
  bytes_material b = bytes_filled (take (bits / 8) fresh) (bytes_take (bits / 8) fresh b)

  -- zero past the length, where there is as much as it asks
  pub material_tail : bits / 8 ≤ material_size → bits / 8 ≤ length fresh → all_zero (drop (bits / 8) (material_from bits fresh)) ≡ true
  unfolding material_from
  material_tail h k =
      let l : length (take (bits / 8) fresh) ≡ bits / 8 = length-take-le (bits / 8) fresh k in
      ap (λ (n : ℕ). all_zero (drop n (filled (take (bits / 8) fresh)))) (sym l) ∙ filled_tail (take (bits / 8) fresh) (omega arith)
