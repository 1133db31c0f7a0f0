-- Laws of identifier text: each serial has one text, and a text that names a serial is that one.
-- Assumes nothing.
use mathlib.Core.Path.{◌≡◌, sym, ◌∙◌}
use Prim.Native.Nat.{ℕ, ◌+◌, ◌^◌, ◌<◌}
use native.Mathlib.Nat.{one-mul}
use native.Mathlib.Omega.{arith}
use mathlib.Core.Bool.{true, false, and-false}
use mathlib.Core.List.{List}
use lib.ListN.{length}
use lib.Dec.{eqb}
use borrow.Author.Tests.{eqb-true, eq-eqb, ne_eqb}
use Rattle.octets.specs.Octets.{all}
use Rattle.octets.proofs.If.{ifb_true, ifb_false, on_if}
use Rattle.hex_digits.specs.Hex.{is_digit}
use Rattle.hex_digits.proofs.Digits.{digit_plain}
use Rattle.utf8.specs.Text.{is_plain, text}
use Rattle.utf8.proofs.Texts.{text_plain}
use Rattle.identifier.specs.Identifier.{digits, from_digits_after, identifier, identifier_size, serial_of}
use Rattle.octets.proofs.Bools.{both}
use Rattle.identifier.proofs.Digits.{length_digits, digits_all, all_weaker, digits_back, digits_after, after_lt}

-- ---- the text of a serial

pub length_identifier : (s : ℕ) → length (identifier s) ≡ 8
unfolding identifier
length_identifier s = length_digits 8 s

pub identifier_digits : (s : ℕ) → all is_digit (identifier s) ≡ true
unfolding identifier
identifier_digits s = digits_all 8 s

pub identifier_text : (s : ℕ) → text (identifier s) ≡ true
identifier_text s = text_plain (identifier s) (all_weaker is_digit is_plain digit_plain (identifier s) (identifier_digits s))

-- ---- the serial of a text

-- a text names no serial, or it is eight digit characters and names what they spell
pub data Named (v : List ℕ) : ℕ → Type 0 where
  nothing : Named v 0
  spelled : length v ≡ 8 → all is_digit v ≡ true → Named v (from_digits_after 0 v)

pub named : (v : List ℕ) → Named v (serial_of v)
unfolding serial_of
named v =
    on_if (Named v)
    (λ e. let t = both (eqb (length v) identifier_size) (all is_digit v) e in spelled (eqb-true (length v) 8 t.0) t.1)
    (λ e. nothing)

-- eight digit characters name what they spell
pub serial_spelled : (v : List ℕ) → length v ≡ 8 → all is_digit v ≡ true → serial_of v ≡ from_digits_after 0 v
unfolding serial_of
serial_spelled v l h = ifb_true _ _ _ (rw (eq-eqb (length v) 8 l, h))

-- any other text names none: one of another length, and one with another character
pub serial_length : (v : List ℕ) → (length v ≡ 8 → ⊥) → serial_of v ≡ 0
unfolding serial_of
serial_length v l = ifb_false _ _ _ (rw (ne_eqb (length v) 8 l))

pub serial_character : (v : List ℕ) → all is_digit v ≡ false → serial_of v ≡ 0
unfolding serial_of
serial_character v h = ifb_false _ _ _ (rw h (and-false (eqb (length v) 8)))

-- each serial is read back from its text
pub serial_back : (s : ℕ) → s < 256 ^ 4 → serial_of (identifier s) ≡ s
unfolding identifier
serial_back s h = serial_spelled (identifier s) (length_identifier s) (identifier_digits s) ∙ digits_back 8 s h

-- one spelling: a text that names a serial is the text of that serial
pub serial_spells : (v : List ℕ) (s : ℕ) → serial_of v ≡ s → (s ≡ 0 → ⊥) → v ≡ identifier s
unfolding identifier digits
serial_spells v s e h = go (serial_of v) (named v) e
  where
    go : (n : ℕ) → Named v n → n ≡ s → v ≡ identifier s
    go n nothing e = absurd (h (sym e))
    go n (spelled l t) e =
        let k : length v + 0 ≡ 8 = omega arith in
        sym (rw (k, e) at (digits_after v 0 0 t))

pub serial_lt : (v : List ℕ) → serial_of v < 256 ^ 4
serial_lt v = go (serial_of v) (named v)
  where
    go : (n : ℕ) → Named v n → n < 256 ^ 4
    go n nothing = omega arith
    go n (spelled l t) = rw (one-mul, l) at (after_lt v 0 1 (omega arith) t)
