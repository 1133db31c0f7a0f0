-- Laws of bytes that are written one behind the other: what the loops go by, that a strip is 0 to 255 twice, and what makes zeros a blank table.
-- Assumes nothing.
use Prim.Native.Nat.{ℕ, zero, suc, ◌+◌, ◌%◌, ◌<◌}
use mathlib.Core.Path.{◌≡◌, refl, sym, ap, ◌∙◌}
use mathlib.Core.List.{List, [], ◌∷◌, ◌++◌, append_assoc}
use native.Mathlib.Omega.{arith}
use native.Mathlib.Numerals.{add-one}
use lib.ListN.{length, take, set, replicate, length-replicate}
use lib.Seq.{sets, sets-eq, take-suc-set}
use Rattle.octets.specs.Octets.{be, counted_from}
use Rattle.octets.proofs.Numbers.{length_be, be_zero}
use Rattle.octets.proofs.Zeros.{drop_zeros, part_zeros}
use Rattle.table.specs.Layout.{places_in, size_of, Table}
use Rattle.table.specs.Records.{blank}

-- the front of s is written, and then one byte more
written_on : (s front : List ℕ) (i b : ℕ) → i < length s → take i s ≡ front → take (suc i) (set s i b) ≡ front ++ (b ∷ [])
written_on s front i b h e = rw (take-suc-set s i b h, e)

-- ---- bytes that count up

-- one more behind k of them
counted_more : (i k : ℕ) → counted_from i (suc k) ≡ counted_from i k ++ ((i + k) % 256 ∷ [])
unfolding counted_from
counted_more i zero = let e : i + 0 ≡ i = omega arith in rw e
counted_more i (suc k) =
    let e : i + suc k ≡ i + 1 + k = omega arith in
    rw e (ap (λ (s : List ℕ). i % 256 ∷ s) (counted_more (i + 1) k))

pub counted_on : (s : List ℕ) (i : ℕ) → i < length s → take i s ≡ counted_from 0 i → take (i + 1) (set s i (i % 256)) ≡ counted_from 0 (i + 1)
counted_on s i h e =
    let zero_on : 0 + i ≡ i = omega arith in
    rw add-one
    (written_on s (counted_from 0 i) i (i % 256) h e ∙ sym (counted_more 0 i ∙ ap (λ (k : ℕ). counted_from 0 i ++ (k % 256 ∷ [])) zero_on))

-- "the bytes 0 to 255 twice"
pub strip_twice : counted_from 0 512 ≡ counted_from 0 256 ++ counted_from 0 256
unfolding counted_from
strip_twice = refl

-- ---- the blank table

-- "all zero but the place count"
blank_set : (n : ℕ) → sets (replicate (size_of n) 0) places_in (be 4 n) ≡ blank n
unfolding blank
blank_set n =
    let size = length-replicate {A = ℕ} (size_of n) 0 in
    let count = length_be 4 n in
    rw (sets-eq (be 4 n) (replicate (size_of n) 0) places_in (omega arith), append_assoc, count, be_zero 4, part_zeros (size_of n) 0 4 (omega arith), drop_zeros 8 (size_of n))

-- zeros over the whole of t, and then the count in them
pub blank_made : (t : List ℕ) {u v : List ℕ} (n : ℕ) → Table n t → u ≡ replicate (length t) 0 → v ≡ sets u places_in (be 4 n) → v ≡ blank n
blank_made t n size zeros counted =
    counted ∙ ap (λ (s : List ℕ). sets s places_in (be 4 n)) (zeros ∙ ap (λ (k : ℕ). replicate k 0) size) ∙ blank_set n
