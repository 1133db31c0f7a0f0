-- Which writer a type has, and that a number written from the value that was read is that value.
-- Assumes nothing.
use mathlib.Core.Path.{◌≡◌, sym, ◌∙◌}
use mathlib.Core.Bool.{true, true≢false, ◌&&◌, and-true}
use mathlib.Core.Logic.{◌⊎◌, inl, inr, ⊎_elim}
use Prim.Native.Nat.{ℕ, ◌+◌, ◌^◌, ◌≤◌, ◌<◌}
use native.Mathlib.Omega.{arith}
use mathlib.Core.List.{List}
use lib.ListN.{length, take}
use lib.Seq.{take_all}
use lib.Dec.{eqb}
use borrow.Author.Tests.{eqb-true, eqb-false, ne_eqb, le-leb, lt-ltb, leb-true}
use Rattle.octets.specs.If.{ifb}
use Rattle.octets.specs.Octets.{be, from_be, Bytes}
use Rattle.octets.proofs.If.{ifb_true, ifb_false, on_bool}
use Rattle.octets.proofs.Numbers.{be_from_be}
use Rattle.tags.specs.Tags.{tag_ok}
use Rattle.ttlv_types.specs.Types.{structure, big_integer, boolean, text_string, byte_string, padded, is_word, is_long, length_ok, value_ok}
use Rattle.utf8.specs.Text.{text}
use Rattle.ttlv.specs.Items.{encode}
use Rattle.ttlv_put.specs.Write.{item, spellable, fits, Wrote, WroteNumber, WroteValue}
use Rattle.ttlv_numbers.specs.Bit.{bit}

-- ---- the numbers among the types

module _ (kind n : ℕ) (h : length_ok kind n ≡ true) (s : kind ≡ structure → ⊥) (t : kind ≡ text_string → ⊥) (b : kind ≡ byte_string → ⊥) (g : kind ≡ big_integer → ⊥) where
  is_number : ((is_word kind ≡ true) × (n ≡ 4)) ⊎ ((is_long kind ≡ true) × (n ≡ 8))
  unfolding length_ok ifb
  is_number =
      on_bool (is_word kind) (λ e. inl (e, eqb-true n 4 (rw e at h)))
      (λ e. on_bool (is_long kind) (λ f. inr (f, eqb-true n 8 (rw (e, f) at h)))
      (λ f. absurd (true≢false (sym (rw (e, f, ne_eqb kind structure s, ne_eqb kind big_integer g, ne_eqb kind text_string t, ne_eqb kind byte_string b) at h)))))

  pub is_word_lem : n ≡ 4 → is_word kind ≡ true
  is_word_lem e = ⊎_elim (λ p. p.0) (λ p. absurd (let l = p.1 in omega arith)) is_number

  pub is_long_lem : (n ≡ 4 → ⊥) → (is_long kind ≡ true) × (n ≡ 8)
  is_long_lem o = ⊎_elim (λ p. absurd (o p.1)) (λ p. p) is_number

-- ---- values

pub text_value : (v : List ℕ) → value_ok text_string v ≡ true → text v ≡ true
unfolding value_ok ifb
text_value v h = h

pub boolean_value : (v : List ℕ) → value_ok boolean v ≡ true → from_be v ≤ 1
unfolding value_ok ifb
boolean_value v h = leb-true (from_be v) 1 h

pub bit_back : (n : ℕ) → n ≤ 1 → bit (eqb n 1) ≡ n
unfolding bit
bit_back n h =
    on_bool (eqb n 1) (λ e. ifb_true {A = ℕ} (eqb n 1) 1 0 e ∙ sym (eqb-true n 1 e))
    (λ e. let o = eqb-false n 1 e in let z : 0 ≡ n = omega arith in ifb_false {A = ℕ} (eqb n 1) 1 0 e ∙ z)

-- a number of `width` bytes, written from its value
pub number_again : (width tag kind : ℕ) (v room : List ℕ) {after : List ℕ} {r : ℕ} → 0 < width → width ≤ 8 → length v ≡ width → Bytes v
    → WroteNumber width tag kind (from_be (take 8 v)) room after r → WroteValue true tag kind v room after r
number_again width tag kind v room {after} {r} h k l b w =
    let e : be width (from_be (take 8 v)) ≡ v = rw (take_all 8 v (omega arith), ← l) (be_from_be v b) in
    let s : spellable (length v) ≡ true = lt-ltb (length v) (256 ^ 4) (omega arith) in
    let p : 8 + padded (length v) ≡ 16 = omega arith in
    let x : Wrote (tag_ok tag && fits room 16) 16 (encode (item tag kind v)) room after r = rw (e, le-leb 1 width h, le-leb width 8 k) at w in
    rw (and-true, s, p) x
