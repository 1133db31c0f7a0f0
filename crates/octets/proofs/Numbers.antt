-- Laws of big-endian numbers: `be` and `from_be` undo each other, at every width.
-- Assumes nothing.
use mathlib.Core.Path.{◌≡◌, refl, sym, ap, ◌∙◌}
use Prim.Native.Nat.{ℕ, zero, suc, ◌+◌, ◌*◌, ◌/◌, ◌%◌, ◌^◌, ◌≤◌, ◌<◌}
use native.Mathlib.Nat.{add-zero, add_assoc, add-mul, pow-suc, pow-zero, div-add-mod', mul-one, one-mul, mul_assoc, mul-pos, zero-mul, mul-mod_left, pow-le-pow_right, pow-succ', zero-add}
use native.Mathlib.Omega.{arith}
use native.Mathlib.Numerals.{add-one}
use mathlib.Core.List.{List, [], ◌∷◌, ◌++◌, append_assoc, append-nil}
use lib.ListN.{length, get_or, take, drop, replicate, length-append, length-take, length-drop, replicate-append-replicate}
use lib.Seq.{take-suc}
use lib.Dec.{eqb}
use lib.Pow.{pow-add, pow_pos, shl-shr, mod-pow-add, low}
use borrow.Author.Tests.{eqb-true, eqb-false, ne_eqb}
use Rattle.octets.specs.Octets.{be, from_be, from_be_after, part, all, all_zero, Bytes}
use Rattle.octets.proofs.If.{on_bool}

pub length_be : (w n : ℕ) → length (be w n) ≡ w
unfolding be
length_be zero n = refl
length_be (suc w) n = rw (length-append, length_be w (n / 256)) (omega arith)

pub after_snoc : (a : ℕ) (xs : List ℕ) (y : ℕ) → from_be_after a (xs ++ (y ∷ [])) ≡ from_be_after a xs * 256 + y
unfolding from_be_after
after_snoc a [] y = refl
after_snoc a (x ∷ xs) y = after_snoc (a * 256 + x) xs y

pub from_be_snoc : (xs : List ℕ) (y : ℕ) → from_be (xs ++ (y ∷ [])) ≡ from_be xs * 256 + y
unfolding from_be
from_be_snoc xs y = after_snoc 0 xs y

-- a number that fits w bytes is read back
pub from_be_be : (w n : ℕ) → n < 256 ^ w → from_be (be w n) ≡ n
unfolding be from_be from_be_after
from_be_be zero n h = omega (arith, pow-zero 256)
from_be_be (suc w) n h =
    let h' : n / 256 < 256 ^ w = omega (arith, pow-suc 256 w) in
    from_be_snoc (be w (n / 256)) (n % 256) ∙ rw (from_be_be w (n / 256) h') (div-add-mod' n 256)

be_after : (xs : List ℕ) (k a : ℕ) → Bytes xs → be (length xs + k) (from_be_after a xs) ≡ be k a ++ xs
unfolding be from_be_after
be_after [] k a h = simp (zero-add, append-nil)
be_after (x ∷ xs) k a h =
    let q : (a * 256 + x) / 256 ≡ a = omega arith in
    let r : (a * 256 + x) % 256 ≡ x = omega arith in
    let e : suc (length xs) + k ≡ length xs + suc k = omega arith in
    rw e (be_after xs (suc k) (a * 256 + x) h.1 ∙ rw (q, r, append_assoc))

-- bytes are written back as they were read
pub be_from_be : (xs : List ℕ) → Bytes xs → be (length xs) (from_be xs) ≡ xs
unfolding be from_be
be_from_be xs h = rw add-zero at (be_after xs 0 0 h)

-- w bytes spell a number below 256 ^ w
after_lt : (xs : List ℕ) (a b : ℕ) → a < b → Bytes xs → from_be_after a xs < b * 256 ^ length xs
unfolding from_be_after
after_lt [] a b h g = rw (pow-zero, mul-one) h
after_lt (x ∷ xs) a b h g =
    let l : from_be_after (a * 256 + x) xs < (b * 256) * 256 ^ length xs = after_lt xs (a * 256 + x) (b * 256) (omega arith) g.1 in
    rw (pow-succ', ← mul_assoc) l

pub from_be_lt : (xs : List ℕ) → Bytes xs → from_be xs < 256 ^ length xs
unfolding from_be
from_be_lt xs h = rw one-mul at (after_lt xs 0 1 (omega arith) h)

-- zero is spelled by zeros
pub be_zero : (w : ℕ) → be w 0 ≡ replicate w 0
unfolding be
be_zero zero = refl
be_zero (suc w) = rw (be_zero w) (replicate-append-replicate {A = ℕ} w 1 0 ∙ rw add-one)

-- ---- bytes

pub bytes_append : (xs ys : List ℕ) → Bytes xs → Bytes ys → Bytes (xs ++ ys)
bytes_append [] ys h g = g
bytes_append (x ∷ xs) ys h g = (h.0, bytes_append xs ys h.1 g)

pub bytes_take : (n : ℕ) (xs : List ℕ) → Bytes xs → Bytes (take n xs)
bytes_take zero xs h = tt
bytes_take (suc n) [] h = tt
bytes_take (suc n) (x ∷ xs) h = (h.0, bytes_take n xs h.1)

pub bytes_drop : (n : ℕ) (xs : List ℕ) → Bytes xs → Bytes (drop n xs)
bytes_drop zero xs h = h
bytes_drop (suc n) [] h = tt
bytes_drop (suc n) (x ∷ xs) h = bytes_drop n xs h.1

-- bytes, by their places
pub bytes_of : (xs : List ℕ) → ((i : ℕ) → get_or xs i 0 < 256) → Bytes xs
bytes_of [] h = tt
bytes_of (x ∷ xs) h = (h 0, bytes_of xs (λ i. h (suc i)))

pub be_bytes : (w n : ℕ) → Bytes (be w n)
unfolding be
be_bytes zero n = tt
be_bytes (suc w) n = bytes_append (be w (n / 256)) (n % 256 ∷ []) (be_bytes w (n / 256)) (omega arith, tt)

-- the same, of the w bytes of s from `at` on
pub be_part : (w at : ℕ) (s : List ℕ) → at + w ≤ length s → Bytes s → be w (from_be (part s at w)) ≡ part s at w
be_part w at s l h =
    let e : length (part s at w) ≡ w = rw (length-take, length-drop) (omega arith) in
    rw e at (be_from_be (part s at w) (bytes_take w (drop at s) (bytes_drop at s h)))

-- ---- one byte more

pub from_be_more : (s : List ℕ) (i : ℕ) → i < length s → from_be (take (i + 1) s) ≡ from_be (take i s) * 256 + get_or s i 0
from_be_more s i h = rw (add-one, take-suc s i 0) (from_be_snoc (take i s) (get_or s i 0))

pub more_lt : (n i b : ℕ) → n < 256 ^ i → b < 256 → n * 256 + b < 256 ^ (i + 1)
more_lt n i b h g = rw (add-one, pow-suc) (omega arith)

-- one byte more fits a word, if fewer than 4 are in
pub more_fits : (n i : ℕ) → n < 256 ^ i → i < 4 → n < 2 ^ 24
more_fits n i h g = omega (arith, pow-le-pow_right {n = 256} (omega arith) {i = i} {j = 3} (omega arith))

-- ---- zeros

grows : (xs : List ℕ) (a : ℕ) → a ≤ from_be_after a xs
unfolding from_be_after
grows [] a = omega arith
grows (x ∷ xs) a = omega (arith, grows xs (a * 256 + x))

-- bytes spell 0 exactly when they are zeros
pub zero_spelled : (xs : List ℕ) → eqb (from_be xs) 0 ≡ all_zero xs
unfolding from_be from_be_after all
zero_spelled [] = refl
zero_spelled (x ∷ xs) =
    on_bool (eqb x 0)
    (λ e. rw (eqb-true x 0 e) (zero_spelled xs))
    (λ e. let n = eqb-false x 0 e in rw e (ne_eqb (from_be_after (0 * 256 + x) xs) 0 (λ z. n (omega (arith, grows xs (0 * 256 + x))))))

-- ---- bytes behind bytes

after_join : (a : ℕ) (ys : List ℕ) → from_be_after a ys ≡ a * 256 ^ length ys + from_be ys
unfolding from_be from_be_after
after_join a [] = omega arith
after_join a (y ∷ ys) =
    let p = 256 ^ length ys in
    let e : (a * 256 + y) * p ≡ a * 256 ^ suc (length ys) + y * p = rw (add-mul, pow-succ', mul_assoc) in
    let r : y * p + from_be ys ≡ from_be (y ∷ ys) = sym (after_join (0 * 256 + y) ys ∙ ap (λ (n : ℕ). n * p + from_be ys) (omega arith)) in
    after_join (a * 256 + y) ys ∙ rw (e, add_assoc) (ap (λ (n : ℕ). a * 256 ^ suc (length ys) + n) r)

after_behind : (a : ℕ) (xs ys : List ℕ) → from_be_after a (xs ++ ys) ≡ from_be_after (from_be_after a xs) ys
unfolding from_be_after
after_behind a [] ys = refl
after_behind a (x ∷ xs) ys = after_behind (a * 256 + x) xs ys

pub from_be_join : (xs ys : List ℕ) → from_be (xs ++ ys) ≡ from_be xs * 256 ^ length ys + from_be ys
unfolding from_be
from_be_join xs ys = after_behind 0 xs ys ∙ after_join (from_be_after 0 xs) ys

-- ---- bytes shifted out of a word

-- k bytes are 8 * k bits
pow_bits : (k : ℕ) → 256 ^ k ≡ 2 ^ (k * 8)
pow_bits zero = refl
pow_bits (suc k) =
    let e : suc k * 8 ≡ k * 8 + 8 = omega arith in
    rw (e, pow-add 2 (k * 8) 8, pow-suc, pow_bits k)

-- what a shift by c leaves in m + c bits
shifted : (n m c : ℕ) → n * 2 ^ c % 2 ^ (m + c) ≡ n % 2 ^ m * 2 ^ c
shifted n m c = mod-pow-add (n * 2 ^ c) m c ∙ rw (shl-shr n c, mul-mod_left n (2 ^ c), add-zero)

times_zero : (n k : ℕ) → 0 < k → eqb (n * k) 0 ≡ eqb n 0
times_zero n k h =
    on_bool (eqb n 0)
    (λ e. rw (eqb-true n 0 e, zero-mul))
    (λ e. let p = eqb-false n 0 e in rw e (ne_eqb (n * k) 0 (λ z. omega (arith, mul-pos {m = n} {n = k} (omega arith) h))))

-- of eight bytes, with the first shifted out of the word, the others are left: 0 exactly when these are zeros
pub zeros_left : (xs ys : List ℕ) → Bytes ys → length xs + length ys ≡ 8 → eqb (from_be (xs ++ ys) * 2 ^ (length xs * 8) % 2 ^ 64) 0 ≡ all_zero ys
zeros_left xs ys b h =
    let m = length ys * 8 in
    let c = length xs * 8 in
    let n = from_be (xs ++ ys) in
    let w : m + c ≡ 64 = omega arith in
    let below : from_be ys < 2 ^ m = rw (← pow_bits (length ys)) (from_be_lt ys b) in
    let rest : n % 2 ^ m ≡ from_be ys = rw (from_be_join xs ys, pow_bits (length ys)) (low (from_be xs) m below) in
    let left : n * 2 ^ c % 2 ^ 64 ≡ from_be ys * 2 ^ c = ap (λ (k : ℕ). n * 2 ^ c % 2 ^ k) (sym w) ∙ shifted n m c ∙ ap (λ (k : ℕ). k * 2 ^ c) rest in
    ap (λ (k : ℕ). eqb k 0) left ∙ times_zero (from_be ys) (2 ^ c) (pow_pos c) ∙ zero_spelled ys
