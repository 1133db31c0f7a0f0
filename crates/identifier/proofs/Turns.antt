-- What a turn of the loop that writes the digits of a text does: what is left decides.
-- Assumes nothing.
use mathlib.Core.Path.{◌≡◌}
use Prim.Native.Nat.{ℕ, zero, suc, ◌-◌, ◌/◌, ◌%◌, ◌≤◌, ◌<◌}
use native.Mathlib.Nat.{not-suc-le-zero}
use native.Mathlib.Omega.{arith}
use mathlib.Core.List.{List, ◌++◌, append_assoc}
use lib.ListN.{length, drop, set, length-set}
use lib.Seq.{drop-cons, get_or-set_same, drop-set-lt}
use Rattle.hex_digits.specs.Hex.{digit}
use Rattle.identifier.specs.Identifier.{digits}

-- from the last digit: n is left for the first k characters of t

pub writing_goes : (t : List ℕ) (k n : ℕ) → 0 < k → k ≤ length t
    → digits (k - 1) (n / 16) ++ drop (k - 1) (set t (k - 1) (digit (n % 16))) ≡ digits k n ++ drop k t
unfolding digits
writing_goes t zero n h l = absurd (not-suc-le-zero h)
writing_goes t (suc j) n h l =
    let e : suc j - 1 ≡ j = omega arith in
    let g : j < length (set t j (digit (n % 16))) = rw length-set (omega arith) in
    let b : j < suc j = omega arith in
    rw (e, drop-cons (set t j (digit (n % 16))) j 0 g, get_or-set_same t j (digit (n % 16)) 0, drop-set-lt (suc j) t j (digit (n % 16)), append_assoc)
