-- Laws of hex digits: a digit and its character.
-- Assumes nothing.
use mathlib.Core.Path.{◌≡◌, sym, ap, ◌∙◌}
use Rattle.std.specs.Prelude.{Option, None, Some}
use Prim.Native.Nat.{ℕ, ◌+◌, ◌-◌, ◌≤◌, ◌<◌}
use native.Mathlib.Omega.{arith}
use mathlib.Core.Bool.{true, false, ◌&&◌}
use lib.Dec.{leb, ltb}
use borrow.Author.Tests.{leb-true, le-leb, lt-leb, lt-ltb, le-ltb, ltb-true, ltb-false}
use Rattle.octets.proofs.Bools.{both}
use Rattle.octets.proofs.If.{ifb_true, ifb_false, on_bool}
use Rattle.hex_digits.specs.Hex.{digit, is_decimal, is_letter, is_digit, digit_of, value_of}

-- ---- tests

between : (l c h : ℕ) → (leb l c && leb c h) ≡ true → (l ≤ c) × (c ≤ h)
between l c h e =
    let t = both (leb l c) (leb c h) e in
    (leb-true l c t.0, leb-true c h t.1)

pub above : (l c h : ℕ) → l ≤ c → leb c h ≡ false → (leb l c && leb c h) ≡ false
above l c h p e = rw (le-leb l c p) e

pub below : (l c h : ℕ) → c < l → (leb l c && leb c h) ≡ false
below l c h p = rw (lt-leb l c p)

-- ---- one digit

-- c is the character of the digit d
pub record Spells (c d : ℕ) : Type 0 where
  pub is : is_digit c ≡ true
  pub back : digit_of c ≡ d
  pub there : digit d ≡ c
  pub low : d < 16
  pub lowest : 0x30 ≤ c
  pub highest : c ≤ 0x46

pub decimal_spells : (c : ℕ) → 0x30 ≤ c → c ≤ 0x39 → Spells c (c - 0x30)
decimal_spells c l h =
    let t : is_decimal c ≡ true = rw (le-leb 0x30 c l, le-leb c 0x39 h) in
    let d : c - 0x30 < 10 = omega arith in
    record {
      is = rw t;
      back = ifb_true (is_decimal c) (c - 0x30) (c - 0x37) t;
      there = ifb_true _ _ _ (lt-ltb (c - 0x30) 10 d) ∙ omega arith;
      low = omega arith;
      lowest = l;
      highest = omega arith;
    }

pub letter_spells : (c : ℕ) → 0x41 ≤ c → c ≤ 0x46 → Spells c (c - 0x37)
letter_spells c l h =
    let n : is_decimal c ≡ false = rw (le-leb 0x30 c (omega arith), lt-leb c 0x39 (omega arith)) in
    let t : is_letter c ≡ true = rw (le-leb 0x41 c l, le-leb c 0x46 h) in
    let d : 10 ≤ c - 0x37 = omega arith in
    record {
      is = rw (n, t);
      back = ifb_false (is_decimal c) (c - 0x30) (c - 0x37) n;
      there = ifb_false _ _ _ (le-ltb (c - 0x37) 10 d) ∙ omega arith;
      low = omega arith;
      lowest = omega arith;
      highest = h;
    }

-- each digit character spells its digit
pub character_spells : (c : ℕ) → is_digit c ≡ true → Spells c (digit_of c)
character_spells c e = on_bool (is_decimal c) decimal letter
  where
    decimal : is_decimal c ≡ true → Spells c (digit_of c)
    decimal t =
        let b = between 0x30 c 0x39 t in
        rw (ifb_true (is_decimal c) (c - 0x30) (c - 0x37) t) (decimal_spells c b.0 b.1)

    letter : is_decimal c ≡ false → Spells c (digit_of c)
    letter n =
        let b = between 0x41 c 0x46 (rw n at e) in
        rw (ifb_false (is_decimal c) (c - 0x30) (c - 0x37) n) (letter_spells c b.0 b.1)

-- each digit is spelled by its character
pub digit_spells : (d : ℕ) → d < 16 → Spells (digit d) d
digit_spells d h = on_bool (ltb d 10) decimal letter
  where
    decimal : ltb d 10 ≡ true → Spells (digit d) d
    decimal t =
        let l : d < 10 = ltb-true d 10 t in
        let m : 0x30 + d - 0x30 ≡ d = omega arith in
        rw (ifb_true (ltb d 10) (0x30 + d) (0x37 + d) t) (rw m at (decimal_spells (0x30 + d) (omega arith) (omega arith)))

    letter : ltb d 10 ≡ false → Spells (digit d) d
    letter n =
        let l : 10 ≤ d = ltb-false d 10 n in
        let m : 0x37 + d - 0x37 ≡ d = omega arith in
        rw (ifb_false (ltb d 10) (0x30 + d) (0x37 + d) n) (rw m at (letter_spells (0x37 + d) (omega arith) (omega arith)))

-- a digit character is below 80 hex
pub digit_plain : (c : ℕ) → is_digit c ≡ true → leb c 0x7F ≡ true
digit_plain c e =
    let s = character_spells c e in
    le-leb c 0x7F (omega arith)

-- ---- the digit of a character, if it is one

module _ (c : ℕ) where
  pub value_spells : (r : ℕ) → Spells c r → Some r ≡ value_of c
  value_spells r s = sym (ifb_true _ _ _ s.is ∙ ap Some s.back)

  pub value_none : is_decimal c ≡ false → is_letter c ≡ false → None ≡ value_of c
  value_none n m = sym (ifb_false _ _ _ (rw (n, m)))

  -- and what the answer tells of the character
  pub spells_value : {r : ℕ} → value_of c ≡ Some r → Spells c r
  spells_value {r} e =
      on_bool (is_digit c)
      (λ t. let s : Some (digit_of c) ≡ Some r = sym (ifb_true _ _ _ t) ∙ e in let d : digit_of c ≡ r = cc in rw (← d) (character_spells c t))
      (λ n. absurd (let s : ◌≡◌ {A = Option ℕ} None (Some r) = sym (ifb_false _ _ _ n) ∙ e in cc))

  pub none_value : value_of c ≡ None → is_digit c ≡ false
  none_value e =
      on_bool (is_digit c)
      (λ t. absurd (let s : ◌≡◌ {A = Option ℕ} (Some (digit_of c)) None = sym (ifb_true _ _ _ t) ∙ e in cc))
      (λ n. n)
