-- A number of at most eight bytes, put together of two words of at most four.
-- Assumes nothing.
use mathlib.Core.Path.{◌≡◌, sym, ap, ap₂, ◌∙◌}
use Prim.Native.Nat.{ℕ, ◌+◌, ◌-◌, ◌*◌, ◌^◌, ◌≤◌, ◌<◌, min}
use native.Mathlib.Nat.{zero-add}
use native.Mathlib.Omega.{arith}
use mathlib.Core.List.{List, ◌++◌}
use lib.ListN.{length, take, drop, length-take, length-drop, take-append-drop}
use lib.Seq.{take_all, take-take}
use lib.Pow.{pow-add}
use Rattle.octets.specs.Octets.{from_be, part}
use Rattle.octets.proofs.Numbers.{from_be_join}
use Rattle.octets.proofs.Stores.{take_there, part_part}

module _ (s : List ℕ) (end : ℕ) (e : end ≡ min 8 (length s)) where
  -- as many bytes as are looked at
  pub length_looked : (k : ℕ) → k ≤ end → length (take k s) ≡ k
  length_looked k h = rw length-take (omega arith)

  pub looked : take end s ≡ take 8 s
  looked = ap (λ (k : ℕ). take k s) (e ∙ sym (length-take 8 s)) ∙ take_there 8 s

  module _ (more : 4 < end) where
    pub length_low : length (take (end - (end - 4)) (drop (end - 4) s)) ≡ 4
    length_low = rw (length-take, length-drop) (omega arith)

    joined : take 8 s ≡ take (end - 4) s ++ take (end - (end - 4)) (drop (end - 4) s)
    joined =
        let w = take 8 s in
        let m = end - 4 in
        let four : end - m ≡ 4 = omega arith in
        let l : length w ≡ end = length-take 8 s ∙ sym e in
        let rest : length (drop m w) ≤ end - m = rw (length-drop, l) (omega arith) in
        sym (take-append-drop m w)
        ∙ ap₂ (λ (xs ys : List ℕ). xs ++ ys)
        (take-take m 8 s (omega arith))
        (sym (take_all (end - m) (drop m w) rest) ∙ part_part s 0 8 m (end - m) (omega arith) ∙ ap (λ (k : ℕ). part s k (end - m)) (zero-add m))

    pub two_words : (high low : ℕ) → high ≡ from_be (take (end - 4) s) → high < 256 ^ length (take (end - 4) s)
        → low ≡ from_be (take (end - (end - 4)) (drop (end - 4) s)) → low < 256 ^ length (take (end - (end - 4)) (drop (end - 4) s))
        → (high * 4294967296 + low ≡ from_be (take 8 s)) × (high * 4294967296 + low < 256 ^ length (take 8 s))
    two_words high low eh lh el ll =
        let xs = take (end - 4) s in
        let ys = take (end - (end - 4)) (drop (end - 4) s) in
        let lx : length xs ≡ end - 4 = length_looked (end - 4) (omega arith) in
        let l : length (take 8 s) ≡ length xs + 4 = rw length-take (omega arith) in
        let below : low < 4294967296 = rw length_low at ll in (
          sym (ap from_be joined ∙ from_be_join xs ys ∙ ap₂ (λ (h k : ℕ). h * 256 ^ k + from_be ys) (sym eh) length_low ∙ ap (λ (k : ℕ). high * 4294967296 + k) (sym el)),
          rw (l, pow-add) (omega arith),
        )
