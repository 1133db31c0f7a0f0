-- Padding by the eight bytes that end with it: with the bytes in front of it shifted out of their number, 0 is left exactly where it is zeros.
-- Assumes nothing.
use mathlib.Core.Path.{◌≡◌, sym, ap, ap₂, ◌∙◌}
use Prim.Native.Nat.{ℕ, ◌+◌, ◌-◌, ◌*◌, ◌%◌, ◌^◌, ◌≤◌, ◌<◌}
use native.Mathlib.Omega.{arith}
use mathlib.Core.Bool.{true}
use mathlib.Core.List.{List, ◌++◌}
use lib.ListN.{length, take, drop, length-drop}
use lib.Seq.{take-take, take-add, drop-drop, length-take-le}
use lib.Dec.{eqb}
use Rattle.octets.specs.Octets.{from_be, part, all, all_zero, Bytes}
use Rattle.octets.proofs.Numbers.{bytes_take, bytes_drop, zeros_left}

module _ (s : List ℕ) (stop next : ℕ) where
  pub no_padding : next ≡ stop → all_zero (part s stop (next - stop)) ≡ true
  unfolding all
  no_padding e =
      let z : next - stop ≡ 0 = omega arith in
      ap (λ (k : ℕ). all_zero (part s stop k)) z

  module _ (b : Bytes s) (o : stop ≤ next) (few : next < stop + 8) (w : 8 ≤ next) (r : next ≤ length s) where
    -- the eight bytes: those in front of the padding, and the padding
    eight : take 8 (part s (next - 8) (next - (next - 8))) ≡ part s (next - 8) (stop - (next - 8)) ++ part s stop (next - stop)
    eight =
        let at = next - 8 in
        let i = stop - at in
        let n : 8 ≡ i + (next - stop) = omega arith in
        let p : at + i ≡ stop = omega arith in
        take-take 8 (next - at) (drop at s) (omega arith)
        ∙ ap (λ (k : ℕ). take k (drop at s)) n
        ∙ take-add i (next - stop) (drop at s)
        ∙ ap (λ (l : List ℕ). part s at i ++ take (next - stop) l) (drop-drop i at s ∙ ap (λ (k : ℕ). drop k s) p)

    pub padding_left : eqb (from_be (take 8 (part s (next - 8) (next - (next - 8)))) * 2 ^ ((stop - (next - 8)) * 8) % 2 ^ 64) 0 ≡ all_zero (part s stop (next - stop))
    padding_left =
        let xs = part s (next - 8) (stop - (next - 8)) in
        let ys = part s stop (next - stop) in
        let d = length-drop (next - 8) s in
        let l : length xs ≡ stop - (next - 8) = length-take-le _ _ (omega arith) in
        let e = length-drop stop s in
        let m : length ys ≡ next - stop = length-take-le _ _ (omega arith) in
        let z = zeros_left xs ys (bytes_take (next - stop) (drop stop s) (bytes_drop stop s b)) (omega arith) in
        ap₂ (λ (v : List ℕ) (i : ℕ). eqb (from_be v * 2 ^ (i * 8) % 2 ^ 64) 0) eight (sym l) ∙ z
