-- Laws of digits in a row: a number and its digits, at every width.
-- Assumes nothing.
use mathlib.Core.Path.{◌≡◌, refl, ◌∙◌}
use Prim.Native.Nat.{ℕ, zero, suc, ◌+◌, ◌*◌, ◌/◌, ◌%◌, ◌^◌, ◌<◌}
use native.Mathlib.Nat.{pow-suc, pow-zero, div-add-mod', mul-one, mul_assoc, pow-succ', zero-add}
use native.Mathlib.Omega.{arith}
use mathlib.Core.Bool.{Bool, true}
use mathlib.Core.List.{List, [], ◌∷◌, ◌++◌, append_assoc, append-nil}
use lib.ListN.{length, length-append}
use Rattle.octets.specs.Octets.{all}
use Rattle.octets.proofs.Bools.{both}
use Rattle.hex_digits.specs.Hex.{digit, is_digit, digit_of}
use Rattle.hex_digits.proofs.Digits.{character_spells, digit_spells}
use Rattle.identifier.specs.Identifier.{digits, from_digits_after}

-- ---- digits

pub length_digits : (w n : ℕ) → length (digits w n) ≡ w
unfolding digits
length_digits zero n = refl
length_digits (suc w) n = rw (length-append, length_digits w (n / 16)) (omega arith)

all_append : {A : Type 0} (test : A → Bool) (xs ys : List A) → all test xs ≡ true → all test ys ≡ true → all test (xs ++ ys) ≡ true
unfolding all
all_append test [] ys h g = g
all_append test (x ∷ xs) ys h g =
    let t = both (test x) (all test xs) h in
    rw t.0 (all_append test xs ys t.1 g)

-- what passes a test passes one that asks less
pub all_weaker : {A : Type 0} (test less : A → Bool) → ((x : A) → test x ≡ true → less x ≡ true) → (xs : List A) → all test xs ≡ true → all less xs ≡ true
unfolding all
all_weaker test less f [] h = refl
all_weaker test less f (x ∷ xs) h =
    let t = both (test x) (all test xs) h in
    rw (f x t.0) (all_weaker test less f xs t.1)

pub digits_all : (w n : ℕ) → all is_digit (digits w n) ≡ true
unfolding digits all
digits_all zero n = refl
digits_all (suc w) n =
    all_append is_digit (digits w (n / 16)) (digit (n % 16) ∷ []) (digits_all w (n / 16))
    (rw (digit_spells (n % 16) (omega arith)).is)

after_snoc : (a : ℕ) (xs : List ℕ) (y : ℕ) → from_digits_after a (xs ++ (y ∷ [])) ≡ from_digits_after a xs * 16 + digit_of y
unfolding from_digits_after
after_snoc a [] y = refl
after_snoc a (x ∷ xs) y = after_snoc (a * 16 + digit_of x) xs y

-- a number that fits w digits is read back
pub digits_back : (w n : ℕ) → n < 16 ^ w → from_digits_after 0 (digits w n) ≡ n
unfolding digits from_digits_after
digits_back zero n h = omega (arith, pow-zero 16)
digits_back (suc w) n h =
    let h' : n / 16 < 16 ^ w = omega (arith, pow-suc 16 w) in
    after_snoc 0 (digits w (n / 16)) (digit (n % 16))
    ∙ rw (digits_back w (n / 16) h', (digit_spells (n % 16) (omega arith)).back) (div-add-mod' n 16)

-- digit characters are written back as they were read
pub digits_after : (xs : List ℕ) (k a : ℕ) → all is_digit xs ≡ true → digits (length xs + k) (from_digits_after a xs) ≡ digits k a ++ xs
unfolding digits from_digits_after all
digits_after [] k a h = simp (zero-add, append-nil)
digits_after (x ∷ xs) k a h =
    let t = both (is_digit x) (all is_digit xs) h in
    let s = character_spells x t.0 in
    let q : (a * 16 + digit_of x) / 16 ≡ a = omega arith in
    let r : (a * 16 + digit_of x) % 16 ≡ digit_of x = omega arith in
    let e : suc (length xs) + k ≡ length xs + suc k = omega arith in
    rw e (digits_after xs (suc k) (a * 16 + digit_of x) t.1 ∙ rw (q, r, s.there, append_assoc))

-- w digits spell a number below 16 ^ w
pub after_lt : (xs : List ℕ) (a b : ℕ) → a < b → all is_digit xs ≡ true → from_digits_after a xs < b * 16 ^ length xs
unfolding from_digits_after all
after_lt [] a b h g = rw (pow-zero, mul-one) h
after_lt (x ∷ xs) a b h g =
    let t = both (is_digit x) (all is_digit xs) g in
    let s = character_spells x t.0 in
    let l : from_digits_after (a * 16 + digit_of x) xs < (b * 16) * 16 ^ length xs = after_lt xs (a * 16 + digit_of x) (b * 16) (omega arith) t.1 in
    rw (pow-succ', ← mul_assoc) l
