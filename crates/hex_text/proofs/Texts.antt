-- Laws of bytes as hex: what a loop over pairs of digits goes by.
-- Assumes nothing.
use Prim.Native.Nat.{ℕ, suc, ◌+◌, ◌*◌, ◌-◌, ◌≤◌, ◌<◌}
use mathlib.Core.Path.{◌≡◌, refl, sym, ap, ◌∙◌}
use mathlib.Core.Bool.{true, false, ◌&&◌, and-false}
use mathlib.Core.List.{List, [], ◌∷◌, ◌++◌}
use Rattle.std.specs.Prelude.{Option, Some, None}
use native.Mathlib.Omega.{arith}
use native.Mathlib.Numerals.{add-one}
use lib.ListN.{length, take, drop, get_or, set, drop_of_length-le, length-drop}
use lib.Seq.{drop-cons, drop-drop, take-suc, take_all, length-take-le}
use lib.Dec.{eqb, leb, ltb}
use borrow.Author.Tests.{eq-eqb, ne_eqb, le-leb, lt-leb, leb-true, ltb-true, ltb-false}
use Rattle.octets.specs.If.{ifb}
use Rattle.octets.specs.Octets.{over}
use Rattle.octets.proofs.Bools.{and_l, and_r}
use Rattle.octets.proofs.Over.{length_over, over_byte}
use Rattle.octets.proofs.If.{ifb_true, ifb_false, on_bool}
use Rattle.hex_digits.specs.Hex.{is_digit, digit_of}
use Rattle.hex_digits.specs.Texts.{Pairs, Mark, gap, half, other, mark_of, marks_of, pairs_by, pairs_in, ended, broken, behind}
use Rattle.hex_digits.proofs.Digits.{character_spells}
use Rattle.hex_text.specs.Bytes.{byte_of, first_byte, count_in, BytesRead}

-- ---- what a character is

mark_gap : (c : ℕ) → c ≡ 0x20 → mark_of c ≡ gap
mark_gap c e = ifb_true _ _ _ (eq-eqb c 0x20 e)

mark_half : (c : ℕ) → is_digit c ≡ true → mark_of c ≡ half (digit_of c)
mark_half c d =
    let s = character_spells c d in
    ifb_false _ _ _ (ne_eqb c 0x20 (λ e. omega arith)) ∙ ifb_true _ _ _ d

-- a character that is neither a blank nor a digit
mark_other : (c : ℕ) → (c ≡ 0x20 → ⊥) → is_digit c ≡ false → mark_of c ≡ other
mark_other c g d = ifb_false _ _ _ (ne_eqb c 0x20 g) ∙ ifb_false _ _ _ d

-- ---- what two of them spell

-- a first digit and no second: whatever the second is
half_alone : (h : ℕ) (c : ℕ) (s : List Mark) → is_digit c ≡ false → pairs_by (half h ∷ (mark_of c ∷ s)) ≡ broken
half_alone h c s d =
    on_bool (eqb c 0x20)
    (λ e. rw (ifb_true (eqb c 0x20) gap (ifb (is_digit c) (half (digit_of c)) other) e))
    (λ e. rw (ifb_false (eqb c 0x20) gap (ifb (is_digit c) (half (digit_of c)) other) e, ifb_false (is_digit c) (half (digit_of c)) other d))

module _ (c d : ℕ) where
  byte_both : is_digit c ≡ true → is_digit d ≡ true → byte_of c d ≡ Some (16 * digit_of c + digit_of d)
  byte_both h l = ifb_true _ _ _ (rw (h, l))

  module _ (s : List Mark) (g : c ≡ 0x20 → ⊥) where
    two_none : byte_of c d ≡ None → pairs_by (mark_of c ∷ (mark_of d ∷ s)) ≡ broken
    two_none e = on_bool (is_digit c) first (λ n. rw (mark_other c g n))
      where
        first : is_digit c ≡ true → pairs_by (mark_of c ∷ (mark_of d ∷ s)) ≡ broken
        first h =
            on_bool (is_digit d)
            (λ l. absurd (let z : ◌≡◌ {A = Option ℕ} (Some (16 * digit_of c + digit_of d)) None = sym (byte_both h l) ∙ e in cc))
            (λ n. rw (mark_half c h) (half_alone (digit_of c) d s n))

    two_byte : {b : ℕ} → byte_of c d ≡ Some b → pairs_by (mark_of c ∷ (mark_of d ∷ s)) ≡ behind b (pairs_by s)
    two_byte {b} e =
        on_bool (is_digit c && is_digit d)
        (λ t. both_byte (and_l (is_digit c) (is_digit d) t) (and_r (is_digit c) (is_digit d) t))
        (λ f. absurd (let z : ◌≡◌ {A = Option ℕ} None (Some b) = sym (ifb_false _ _ _ f) ∙ e in cc))
      where
        both_byte : is_digit c ≡ true → is_digit d ≡ true → pairs_by (mark_of c ∷ (mark_of d ∷ s)) ≡ behind b (pairs_by s)
        both_byte h l =
            let z : ◌≡◌ {A = Option ℕ} (Some (16 * digit_of c + digit_of d)) (Some b) = sym (byte_both h l) ∙ e in
            let is : 16 * digit_of c + digit_of d ≡ b = cc in
            rw (mark_half c h, mark_half d l, is)

-- a last character is no byte
one_cut : (c : ℕ) → (c ≡ 0x20 → ⊥) → pairs_by (mark_of c ∷ []) ≡ broken
one_cut c g =
    on_bool (is_digit c)
    (λ d. rw (mark_half c d))
    (λ n. rw (mark_other c g n))

-- ---- a text by its first characters

gap_first : (c : ℕ) (s : List ℕ) → c ≡ 0x20 → pairs_in (c ∷ s) ≡ pairs_in s
unfolding pairs_in
gap_first c s e = rw (mark_gap c e)

none_first : (c : ℕ) (s : List ℕ) → (c ≡ 0x20 → ⊥) → first_byte (c ∷ s) ≡ None → pairs_in (c ∷ s) ≡ broken
unfolding pairs_in
none_first c [] g e = one_cut c g
none_first c (d ∷ s) g e = two_none c d (marks_of s) g e

byte_first : (c : ℕ) (s : List ℕ) {b : ℕ} → (c ≡ 0x20 → ⊥) → first_byte (c ∷ s) ≡ Some b → pairs_in (c ∷ s) ≡ behind b (pairs_in (drop 1 s))
unfolding pairs_in
byte_first c [] g e = absurd cc
byte_first c (d ∷ s) g e = two_byte c d (marks_of s) g e

-- ---- the text from i on

module _ (s : List ℕ) (i : ℕ) where
  pub pairs_end : length s ≤ i → pairs_in (drop i s) ≡ ended
  unfolding pairs_in
  pairs_end h = rw (drop_of_length-le s h)

  module _ (h : i < length s) where
    pub pairs_gap : get_or s i 0 ≡ 0x20 → pairs_in (drop i s) ≡ pairs_in (drop (i + 1) s)
    pairs_gap e = rw (drop-cons s i 0 h, add-one) (gap_first (get_or s i 0) (drop (suc i) s) e)

    module _ (g : get_or s i 0 ≡ 0x20 → ⊥) where
      pub pairs_none : first_byte (drop i s) ≡ None → pairs_in (drop i s) ≡ broken
      pairs_none e = rw (drop-cons s i 0 h) (none_first (get_or s i 0) (drop (suc i) s) g (rw (drop-cons s i 0 h) at e))

      pub pairs_byte : {b : ℕ} → first_byte (drop i s) ≡ Some b → pairs_in (drop i s) ≡ behind b (pairs_in (drop (i + 2) s))
      pairs_byte e =
          let two : suc i + 1 ≡ i + 2 = omega arith in
          let next : drop 1 (drop (suc i) s) ≡ drop (i + 2) s = drop-drop 1 (suc i) s ∙ ap (λ (k : ℕ). drop k s) two in
          let first = byte_first (get_or s i 0) (drop (suc i) s) g (rw (drop-cons s i 0 h) at e) in
          rw (← next, drop-cons s i 0 h) first

    -- the two characters from i on
    pub first_two : i + 1 < length s → first_byte (drop i s) ≡ byte_of (get_or s i 0) (get_or s (i + 1) 0)
    first_two h2 =
        let inside : suc i < length s = omega arith in
        rw (drop-cons s i 0 h, drop-cons s (suc i) 0 inside, add-one)

    pub first_cut : length s - i < 2 → first_byte (drop i s) ≡ None
    first_cut n =
        let over : length s ≤ suc i = omega arith in
        rw (drop-cons s i 0 h, drop_of_length-le s over)

    pub two_left : {b : ℕ} → first_byte (drop i s) ≡ Some b → i + 2 ≤ length s
    two_left {b} e =
        on_bool (ltb (length s - i) 2)
        (λ t. absurd (let z : ◌≡◌ {A = Option ℕ} None (Some b) = sym (first_cut (ltb-true (length s - i) 2 t)) ∙ e in cc))
        (λ f. let l = ltb-false (length s - i) 2 f in omega arith)

-- ---- a text read over `out₀`: i characters are read, n bytes are written

pub record Mid (s out₀ out : List ℕ) (n i : ℕ) : Type 0 where
  pub passed : i ≤ length s
  pub room : n ≤ length out₀
  pub within : n ≤ length (pairs_in s).bytes
  pub whole : (pairs_in s).whole ≡ (pairs_in (drop i s)).whole
  pub left : drop n (pairs_in s).bytes ≡ (pairs_in (drop i s)).bytes
  pub written : out ≡ over (take n (pairs_in s).bytes) out₀

pub mid_start : (s out : List ℕ) → Mid s out out 0 0
mid_start s out = record { passed = omega arith; room = omega arith; within = omega arith; whole = refl; left = refl; written = refl }

module _ {s out₀ out : List ℕ} {n i : ℕ} (m : Mid s out₀ out n i) where
  pub mid_size : length out ≡ length out₀
  mid_size =
      let short : length (take n (pairs_in s).bytes) ≡ n = length-take-le n (pairs_in s).bytes m.within in
      let r = m.room in
      ap length m.written ∙ length_over (take n (pairs_in s).bytes) out₀ (omega arith)

  pub mid_gap : i < length s → get_or s i 0 ≡ 0x20 → Mid s out₀ out n (i + 1)
  mid_gap h e =
      let g = pairs_gap s i h e in
      record {
        passed = omega arith;
        room = m.room;
        within = m.within;
        whole = m.whole ∙ ap (λ (p : Pairs). p.whole) g;
        left = m.left ∙ ap (λ (p : Pairs). p.bytes) g;
        written = m.written;
      }

  -- no byte is left
  all_read : (pairs_in (drop i s)).bytes ≡ [] → (length (pairs_in s).bytes ≡ n) × (out ≡ over (take (length out₀) (pairs_in s).bytes) out₀)
  all_read e =
      let none : length (drop n (pairs_in s).bytes) ≡ 0 = ap length (m.left ∙ e) in
      let d = length-drop n (pairs_in s).bytes in
      let w = m.within in
      let r = m.room in
      let size : length (pairs_in s).bytes ≡ n = omega arith in
      let short : take n (pairs_in s).bytes ≡ (pairs_in s).bytes = take_all n (pairs_in s).bytes (omega arith) in
      let all : take (length out₀) (pairs_in s).bytes ≡ (pairs_in s).bytes = take_all (length out₀) (pairs_in s).bytes (omega arith) in
      (size, m.written ∙ ap (λ (b : List ℕ). over b out₀) (short ∙ sym all))

  pub mid_end : length s ≤ i → BytesRead s out₀ (Some n) out
  unfolding count_in
  mid_end h =
      let e = pairs_end s i h in
      let a = all_read (ap (λ (p : Pairs). p.bytes) e) in
      let good : (pairs_in s).whole ≡ true = m.whole ∙ ap (λ (p : Pairs). p.whole) e in
      let r = m.room in
      let fits : length (pairs_in s).bytes ≤ length out₀ = let size = a.0 in omega arith in
      record {
        count = ap Some (sym a.0) ∙ sym (ifb_true _ _ _ (rw (good, le-leb (length (pairs_in s).bytes) (length out₀) fits)));
        bytes = a.1;
      }

  module _ (h : i < length s) (g : get_or s i 0 ≡ 0x20 → ⊥) where
    pub mid_broken : first_byte (drop i s) ≡ None → BytesRead s out₀ None out
    unfolding count_in
    mid_broken e =
        let b = pairs_none s i h g e in
        let bad : (pairs_in s).whole ≡ false = m.whole ∙ ap (λ (p : Pairs). p.whole) b in
        record {
          count = sym (ifb_false _ _ _ (rw bad));
          bytes = (all_read (ap (λ (p : Pairs). p.bytes) b)).1;
        }

    module _ {b : ℕ} (e : first_byte (drop i s) ≡ Some b) where
      next_byte : drop n (pairs_in s).bytes ≡ b ∷ (pairs_in (drop (i + 2) s)).bytes
      next_byte = m.left ∙ ap (λ (p : Pairs). p.bytes) (pairs_byte s i h g e)

      more : n < length (pairs_in s).bytes
      more =
          let l : length (drop n (pairs_in s).bytes) ≡ 1 + length (pairs_in (drop (i + 2) s)).bytes = ap length next_byte ∙ omega arith in
          let d = length-drop n (pairs_in s).bytes in
          omega arith

      pub mid_full : length out ≤ n → BytesRead s out₀ None out
      unfolding count_in
      mid_full f =
          let l = mid_size in
          let r = m.room in
          let k = more in
          let size : n ≡ length out₀ = omega arith in
          record {
            count = sym (ifb_false _ _ _ (rw (lt-leb (length (pairs_in s).bytes) (length out₀) (omega arith)) (and-false (pairs_in s).whole)));
            bytes = m.written ∙ ap (λ (k : ℕ). over (take k (pairs_in s).bytes) out₀) size;
          }

      pub mid_byte : n < length out → Mid s out₀ (set out n b) (n + 1) (i + 2)
      mid_byte f =
          let l = mid_size in
          let B = (pairs_in s).bytes in
          let cons = sym (drop-cons B n 0 more) ∙ next_byte in
          let here : get_or B n 0 ≡ b = cc in
          let rest : drop (suc n) B ≡ (pairs_in (drop (i + 2) s)).bytes = cc in
          let one : n + 1 ≡ suc n = omega arith in
          let front : take (n + 1) B ≡ take n B ++ (b ∷ []) = rw one (take-suc B n 0 more ∙ ap (λ (x : ℕ). take n B ++ (x ∷ [])) here) in
          let size : length (take n B) ≡ n = length-take-le n B m.within in
          let w = m.within in
          let k = more in
          record {
            passed = two_left s i h e;
            room = omega arith;
            within = omega arith;
            whole = m.whole ∙ ap (λ (p : Pairs). p.whole) (pairs_byte s i h g e);
            left = rw one rest;
            written = ap (λ (x : List ℕ). set x n (b)) m.written ∙ over_byte (take n B) out₀ n b size (omega arith) ∙ ap (λ (x : List ℕ). over x out₀) (sym front);
          }

-- ---- what a caller goes by

-- bytes that were counted lie in what was lent
pub count_within : {s out left : List ℕ} {r : Option ℕ} {n : ℕ} → BytesRead s out r left → r ≡ Some n → n ≤ length out
unfolding count_in
count_within {s} {out} {left} {r} {n} b e =
    on_bool ((pairs_in s).whole && leb (length (pairs_in s).bytes) (length out))
    (λ t. let is : Some (length (pairs_in s).bytes) ≡ Some n = sym (b.count ∙ ifb_true _ _ _ t) ∙ e in let size : length (pairs_in s).bytes ≡ n = cc in let fits = leb-true (length (pairs_in s).bytes) (length out) (and_r (pairs_in s).whole _ t) in omega arith)
    (λ f. absurd (let no : ◌≡◌ {A = Option ℕ} None (Some n) = sym (b.count ∙ ifb_false _ _ _ f) ∙ e in cc))
