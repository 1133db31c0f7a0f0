-- Eight characters as one number: their digits, what those are written as, and the digits side by side.
-- Assumes nothing.
use mathlib.Core.Path.{◌≡◌, refl, sym, ap, ◌∙◌}
use Prim.Native.Nat.{ℕ, ◌+◌, ◌-◌, ◌*◌, ◌/◌, ◌%◌, ◌<◌}
use native.Mathlib.Nat.{zero-mul}
use native.Mathlib.Omega.{arith}
use mathlib.Core.Bool.{true, false}
use mathlib.Core.List.{List, [], ◌∷◌}
use lib.ListN.{length}
use lib.Dec.{ltb}
use lib.Bits.{and_mask, and_high, and_zero_r}
use borrow.Author.Tests.{ltb-true, ltb-false}
use Rattle.octets.specs.Octets.{all, Bytes, from_be, from_be_after}
use Rattle.octets.proofs.Bools.{both}
use Rattle.octets.proofs.If.{ifb_true, ifb_false, on_bool}
use Rattle.hex_digits.specs.Hex.{digit, is_digit, digit_of}
use Rattle.hex_digits.proofs.Digits.{Spells, character_spells, digit_spells}
use Rattle.identifier.specs.Identifier.{from_digits_after, serial_of}
use Rattle.identifier.specs.Words.{digits_in, characters_in, pairs_in, fours_in, eight_in, side_by_side}
use Rattle.identifier.proofs.Lanes.{each, each_as_is, each_add, each_times, repeated, each_const, masked, ands, and_bytes, kept}
use Rattle.identifier.proofs.Texts.{serial_spelled, serial_character}

-- ---- one character: the digit that it would be, and what that is written as

abbrev guess : ℕ → ℕ
guess c = (c % 16 + c / 64 % 2 * 9) % 16

abbrev written : ℕ → ℕ
written d = d + 0x30 + (d + 6) / 16 % 2 * 7

written_digit : (d : ℕ) → d < 16 → written d ≡ digit d
written_digit d h =
    on_bool (ltb d 10)
    (λ t. let small = ltb-true d 10 t in let q : (d + 6) / 16 % 2 ≡ 0 = omega arith in rw (q, ifb_true _ (0x30 + d) (0x37 + d) t) (omega arith))
    (λ n. let large = ltb-false d 10 n in let q : (d + 6) / 16 % 2 ≡ 1 = omega arith in rw (q, ifb_false _ (0x30 + d) (0x37 + d) n) (omega arith))

written_spells : (c : ℕ) → written (guess c) ≡ c → Spells c (guess c)
written_spells c e =
    let low : guess c < 16 = omega arith in
    rw (sym (written_digit (guess c) low) ∙ e) at (digit_spells (guess c) low)

guess_spelled : (c d : ℕ) → Spells c d → guess c ≡ d
guess_spelled c d s = on_bool (ltb d 10) decimal letter
  where
    decimal : ltb d 10 ≡ true → guess c ≡ d
    decimal t =
        let small = ltb-true d 10 t in
        let is : c ≡ 0x30 + d = sym s.there ∙ ifb_true _ _ _ t in
        let half : c % 16 ≡ d = omega arith in
        let no : c / 64 % 2 ≡ 0 = omega arith in
        rw (half, no) (omega arith)

    letter : ltb d 10 ≡ false → guess c ≡ d
    letter n =
        let large = ltb-false d 10 n in
        let low = s.low in
        let is : c ≡ 0x37 + d = sym s.there ∙ ifb_false _ _ _ n in
        let half : c % 16 ≡ d - 9 = omega arith in
        let yes : c / 64 % 2 ≡ 1 = omega arith in
        rw (half, yes) (omega arith)

digit_written : (c : ℕ) → is_digit c ≡ true → written (guess c) ≡ c
digit_written c t =
    let s = character_spells c t in
    rw (guess_spelled c (digit_of c) s) (written_digit (digit_of c) s.low ∙ s.there)

-- ---- all of them, in one number

module _ (v : List ℕ) (by : Bytes v) (l : length v ≡ 8) where
  added : (f g : ℕ → ℕ) → each f 0 v + each g 0 v ≡ each (λ x. f x + g x) 0 v
  added f g = each_add f g v 0 0

  times : (f : ℕ → ℕ) (n : ℕ) → each (λ x. f x * n) 0 v ≡ each f 0 v * n
  times f n = rw (zero-mul n) at (each_times n f v 0)

  -- each n times as much, divided by n, times m
  scaled : (f : ℕ → ℕ) (n m : ℕ) → each f 0 v * n / n ≡ each f 0 v → each (λ x. f x * n) 0 v / n * m ≡ each (λ x. f x * m) 0 v
  scaled f n m e = ap (λ (k : ℕ). k / n * m) (times f n) ∙ ap (λ (k : ℕ). k * m) e ∙ sym (times f m)

  digits_each : digits_in (each (λ x. x) 0 v) ≡ each guess 0 v
  unfolding repeated
  digits_each =
      let low = masked v by l (λ x. x) (λ x. x % 16) 15 0x0F0F0F0F0F0F0F0F (λ x h. h) (omega arith) (λ x. and_mask x 4) refl in
      let letters = masked v by l (λ x. x) (λ x. x / 64 % 2 * 64) 64 0x4040404040404040 (λ x h. h) (omega arith) (λ x. and_high x 1 6) refl in
      rw (low, letters, scaled (λ x. x / 64 % 2) 64 9 (omega arith), added (λ x. x % 16) (λ x. x / 64 % 2 * 9))
      (masked v by l (λ x. x % 16 + x / 64 % 2 * 9) guess 15 0x0F0F0F0F0F0F0F0F (λ x h. omega arith) (omega arith) (λ x. and_mask (x % 16 + x / 64 % 2 * 9) 4) refl)

  characters_each : characters_in (each guess 0 v) ≡ each (λ x. written (guess x)) 0 v
  unfolding repeated
  characters_each =
      let six = each_const v by l 6 0x0606060606060606 refl in
      let thirty = each_const v by l 0x30 0x3030303030303030 refl in
      let letters = masked v by l (λ x. guess x + 6) (λ x. (guess x + 6) / 16 % 2 * 16) 16 0x1010101010101010 (λ x h. omega arith) (omega arith) (λ x. and_high (guess x + 6) 1 4) refl in
      rw (← six, ← thirty, added guess (λ x. 6), added guess (λ x. 0x30), letters, scaled (λ x. (guess x + 6) / 16 % 2) 16 7 (omega arith), added (λ x. guess x + 0x30) (λ x. (guess x + 6) / 16 % 2 * 7))

-- digits are written as they stand
as_they_stand : (v : List ℕ) (a : ℕ) → all is_digit v ≡ true → each (λ x. written (guess x)) a v ≡ each (λ x. x) a v
unfolding each all
as_they_stand [] a h = refl
as_they_stand (x ∷ v) a h =
    let t = both (is_digit x) (all is_digit v) h in
    rw (digit_written x t.0) (as_they_stand v (a * 256 + x) t.1)

apart : (a b p q : ℕ) → p < 256 → q < 256 → a * 256 + p ≡ b * 256 + q → (a ≡ b) × (p ≡ q)
apart a b p q h k e = (omega arith, omega arith)

-- what is written as it stands is digits
only_digits : (v : List ℕ) → Bytes v → (a b : ℕ) → each (λ x. written (guess x)) a v ≡ each (λ x. x) b v → (a ≡ b) × (all is_digit v ≡ true)
unfolding each all
only_digits [] by a b e = (e, refl)
only_digits (x ∷ v) by a b e =
    let rest = only_digits v by.1 (a * 256 + written (guess x)) (b * 256 + x) e in
    let same = apart a b (written (guess x)) x (omega arith) by.0 rest.0 in
    (same.0, rw ((written_spells x same.1).is, rest.1))

-- ---- eight digits, side by side: each step moves a copy down beside what it belongs to, and the mask keeps what is whole

module _ (p q r s : ℕ) (hp : p < 256) (hq : q < 256) (hr : r < 256) (hs : s < 256) where
  fours_are : fours_in (from_be (0 ∷ p ∷ 0 ∷ q ∷ 0 ∷ r ∷ 0 ∷ s ∷ [])) ≡ from_be (0 ∷ 0 ∷ p ∷ q ∷ 0 ∷ 0 ∷ r ∷ s ∷ [])
  unfolding from_be from_be_after ands
  fours_are =
      let n = from_be (0 ∷ p ∷ 0 ∷ q ∷ 0 ∷ r ∷ 0 ∷ s ∷ []) in
      let u : List ℕ = 0 ∷ p ∷ p ∷ q ∷ q ∷ r ∷ r ∷ s ∷ [] in
      let m : List ℕ = 0 ∷ 0 ∷ 255 ∷ 255 ∷ 0 ∷ 0 ∷ 255 ∷ 255 ∷ [] in
      let e : n + n / 256 ≡ from_be u = omega arith in
      rw e (and_bytes u m refl (omega arith, (hp, (hp, (hq, (hq, (hr, (hr, (hs, tt)))))))) (omega arith, (omega arith, (omega arith, (omega arith, (omega arith, (omega arith, (omega arith, (omega arith, tt)))))))) 0 0
      ∙ rw (kept p hp, kept q hq, kept r hr, kept s hs, and_zero_r p, and_zero_r q, and_zero_r r))

  eight_are : eight_in (from_be (0 ∷ 0 ∷ p ∷ q ∷ 0 ∷ 0 ∷ r ∷ s ∷ [])) ≡ from_be (p ∷ q ∷ r ∷ s ∷ [])
  unfolding from_be from_be_after
  eight_are =
      let n = from_be (0 ∷ 0 ∷ p ∷ q ∷ 0 ∷ 0 ∷ r ∷ s ∷ []) in
      let high : n / 4294967296 ≡ p * 256 + q = omega arith in
      let low : n % 65536 ≡ r * 256 + s = omega arith in
      rw (high, low) (omega arith)

module _ (a b c d e f g h : ℕ) (la : a < 16) (lb : b < 16) (lc : c < 16) (ld : d < 16) (le : e < 16) (lf : f < 16) (lg : g < 16) (lh : h < 16) where
  pairs_are : pairs_in (from_be (a ∷ b ∷ c ∷ d ∷ e ∷ f ∷ g ∷ h ∷ [])) ≡ from_be (0 ∷ (a * 16 + b) ∷ 0 ∷ (c * 16 + d) ∷ 0 ∷ (e * 16 + f) ∷ 0 ∷ (g * 16 + h) ∷ [])
  unfolding from_be from_be_after ands
  pairs_are =
      let n = from_be (a ∷ b ∷ c ∷ d ∷ e ∷ f ∷ g ∷ h ∷ []) in
      let u : List ℕ = a ∷ (a * 16 + b) ∷ (b * 16 + c) ∷ (c * 16 + d) ∷ (d * 16 + e) ∷ (e * 16 + f) ∷ (f * 16 + g) ∷ (g * 16 + h) ∷ [] in
      let m : List ℕ = 0 ∷ 255 ∷ 0 ∷ 255 ∷ 0 ∷ 255 ∷ 0 ∷ 255 ∷ [] in
      let k : n + n / 16 ≡ from_be u = omega arith in
      rw k (and_bytes u m refl (omega arith, (omega arith, (omega arith, (omega arith, (omega arith, (omega arith, (omega arith, (omega arith, tt)))))))) (omega arith, (omega arith, (omega arith, (omega arith, (omega arith, (omega arith, (omega arith, (omega arith, tt)))))))) 0 0
      ∙ rw (kept (a * 16 + b) (omega arith), kept (c * 16 + d) (omega arith), kept (e * 16 + f) (omega arith), kept (g * 16 + h) (omega arith), and_zero_r a, and_zero_r (b * 16 + c), and_zero_r (d * 16 + e), and_zero_r (f * 16 + g)))

  side_by_side_lem : side_by_side (from_be (a ∷ b ∷ c ∷ d ∷ e ∷ f ∷ g ∷ h ∷ [])) ≡ (((((((0 * 16 + a) * 16 + b) * 16 + c) * 16 + d) * 16 + e) * 16 + f) * 16 + g) * 16 + h
  unfolding from_be from_be_after
  side_by_side_lem =
      let p = a * 16 + b in
      let q = c * 16 + d in
      let r = e * 16 + f in
      let s = g * 16 + h in
      let hp : p < 256 = omega arith in
      let hq : q < 256 = omega arith in
      let hr : r < 256 = omega arith in
      let hs : s < 256 = omega arith in
      ap (λ (n : ℕ). eight_in (fours_in n)) pairs_are ∙ ap eight_in (fours_are p q r s hp hq hr hs) ∙ eight_are p q r s hp hq hr hs ∙ omega arith

-- ---- eight characters

-- a text of eight, by its characters
by_eight : (P : List ℕ → Type 0) → ((a b c d e f g h : ℕ) → P (a ∷ b ∷ c ∷ d ∷ e ∷ f ∷ g ∷ h ∷ [])) → (v : List ℕ) → length v ≡ 8 → P v
by_eight P p [] l = absurd (omega arith)
by_eight P p (a ∷ []) l = absurd (omega arith)
by_eight P p (a ∷ (b ∷ [])) l = absurd (omega arith)
by_eight P p (a ∷ (b ∷ (c ∷ []))) l = absurd (omega arith)
by_eight P p (a ∷ (b ∷ (c ∷ (d ∷ [])))) l = absurd (omega arith)
by_eight P p (a ∷ (b ∷ (c ∷ (d ∷ (e ∷ []))))) l = absurd (omega arith)
by_eight P p (a ∷ (b ∷ (c ∷ (d ∷ (e ∷ (f ∷ [])))))) l = absurd (omega arith)
by_eight P p (a ∷ (b ∷ (c ∷ (d ∷ (e ∷ (f ∷ (g ∷ []))))))) l = absurd (omega arith)
by_eight P p (a ∷ (b ∷ (c ∷ (d ∷ (e ∷ (f ∷ (g ∷ (h ∷ [])))))))) l = p a b c d e f g h
by_eight P p (a ∷ (b ∷ (c ∷ (d ∷ (e ∷ (f ∷ (g ∷ (h ∷ (i ∷ v))))))))) l = absurd (omega arith)

-- the number of the digits that characters would be, behind a
unfoldable guessed_after : ℕ → List ℕ → ℕ
guessed_after a [] = a
guessed_after a (c ∷ v) = guessed_after (a * 16 + guess c) v

guessed : (v : List ℕ) (a : ℕ) → all is_digit v ≡ true → guessed_after a v ≡ from_digits_after a v
unfolding guessed_after from_digits_after all
guessed [] a h = refl
guessed (x ∷ v) a h =
    let digit_first = both (is_digit x) (all is_digit v) h in
    rw (guess_spelled x (digit_of x) (character_spells x digit_first.0)) (guessed v (a * 16 + digit_of x) digit_first.1)

guess_low : (c : ℕ) → guess c < 16
guess_low c = omega arith

side_by_side_each : (v : List ℕ) → length v ≡ 8 → side_by_side (each guess 0 v) ≡ guessed_after 0 v
unfolding each guessed_after from_be from_be_after
side_by_side_each =
    by_eight (λ v. side_by_side (each guess 0 v) ≡ guessed_after 0 v)
    (λ a b c d e f g h. side_by_side_lem (guess a) (guess b) (guess c) (guess d) (guess e) (guess f) (guess g) (guess h)
    (guess_low a) (guess_low b) (guess_low c) (guess_low d) (guess_low e) (guess_low f) (guess_low g) (guess_low h))

-- ---- the serial of a text, by its number

module _ (v : List ℕ) (by : Bytes v) (l : length v ≡ 8) (w : ℕ) (n : w ≡ from_be v) where
  stands : w ≡ each (λ x. x) 0 v
  unfolding from_be
  stands = n ∙ each_as_is v 0

  digits_are : digits_in w ≡ each guess 0 v
  digits_are = ap digits_in stands ∙ digits_each v by l

  characters_are : characters_in (digits_in w) ≡ each (λ x. written (guess x)) 0 v
  characters_are = ap characters_in digits_are ∙ characters_each v by l

  pub word_names : characters_in (digits_in w) ≡ w → serial_of v ≡ side_by_side (digits_in w)
  word_names e =
      let t = (only_digits v by 0 0 (sym characters_are ∙ e ∙ stands)).1 in
      serial_spelled v l t ∙ sym (ap side_by_side digits_are ∙ side_by_side_each v l ∙ guessed v 0 t)

  pub word_none : (characters_in (digits_in w) ≡ w → ⊥) → serial_of v ≡ 0
  word_none h =
      on_bool (all is_digit v)
      (λ t. absurd (h (characters_are ∙ as_they_stand v 0 t ∙ sym stands)))
      (λ n. serial_character v n)
