-- Names as text: a text that may be a name and its name determine each other, and no name is the only one of no bytes.
-- Assumes nothing.
use mathlib.Core.Path.{◌≡◌, refl, sym, ap, ◌∙◌}
use Prim.Native.Nat.{ℕ, ◌≤◌, min}
use native.Mathlib.Omega.{arith}
use mathlib.Core.Bool.{true, false, ◌&&◌, not}
use mathlib.Core.List.{List, []}
use lib.ListN.{length, take, drop, length-take}
use lib.Seq.{take_all, take-append_seam}
use lib.Dec.{eqb, leb}
use borrow.Author.Tests.{le-leb, leb-true, eqb-true, eqb-false, ne_eqb, not-true, not-false}
use Rattle.octets.specs.Octets.{Bytes, be, from_be, from_be_after, all, all_zero}
use Rattle.octets.proofs.Bools.{and_l, and_r, and_i}
use Rattle.utf8.specs.Text.{text}
use Rattle.utf8.proofs.Texts.{text_plain, text_bytes}
use Rattle.words.specs.declared.Words.{Words}
use Rattle.words.specs.Words.{words_of, word_bytes, filled}
use Rattle.words.proofs.Laws.{length_words, words_back, words_spell, words_fit, filled_take, filled_short, filled_tail, length_filled, bytes_filled}
use Rattle.names.specs.declared.Name.{Name}
use Rattle.names.specs.Names.{name_most, no_name, is_named, name_text, name_of, name_ok, shape_right}
use Rattle.names.proofs.Stored.{NameRange}

pub length_text : (m : Name) → length (name_text m) ≤ 32
unfolding name_text
length_text m = rw length-take (omega (arith, length_words m.words))

-- ---- a text that may be a name

pub record Fits (v : List ℕ) : Type 0 where
  pub some : 1 ≤ length v
  pub few : length v ≤ 32
  pub is : text v ≡ true

module _ (v : List ℕ) (h : name_ok v ≡ true) where
  pub fits : Fits v
  unfolding name_ok
  fits =
      let long = leb 1 (length v) in
      let short = leb (length v) name_most in
      let sized = and_l (long && short) (text v) h in
      record { some = leb-true 1 (length v) (and_l long short sized); few = leb-true (length v) name_most (and_r long short sized); is = and_r (long && short) (text v) h }

  pub ok_bytes : Bytes v
  ok_bytes = text_bytes v fits.is

  kept : take 32 v ≡ v
  kept = take_all 32 v fits.few

  counted : length (take 32 v) ≡ length v
  counted = ap length kept

  -- its bytes, filled up, stand in the name
  room : word_bytes (words_of (filled v)) ≡ filled v
  room = words_back (filled v) (length_filled v) (bytes_filled v ok_bytes)

  -- the bytes of its name
  pub name_back : name_text (name_of v) ≡ v
  unfolding name_text name_of
  name_back =
      ap (λ (s : List ℕ). take (length s) (word_bytes (words_of (filled v)))) kept
      ∙ ap (λ (s : List ℕ). take (length v) s) (room ∙ filled_short v fits.few)
      ∙ take-append_seam v _

  pub of_text : text (name_text (name_of v)) ≡ true
  of_text = ap text name_back ∙ fits.is

  pub of_named : is_named (name_of v) ≡ true
  unfolding name_of
  of_named = ap not (ne_eqb (length (take 32 v)) 0 (λ e. omega (arith, counted, fits.some)))

  pub of_shape : shape_right (name_of v) ≡ true
  unfolding shape_right name_of
  of_shape =
      let low = le-leb (length (take 32 v)) 32 (omega (arith, counted, fits.few)) in
      and_i (leb (length (take 32 v)) 32 && true) _ (and_i (leb (length (take 32 v)) 32) true low refl) (rw (counted, room) (filled_tail v fits.few))

pub of_range : (v : List ℕ) → Bytes v → NameRange (name_of v)
unfolding name_of
of_range v b =
    let n : length (take 32 v) ≡ min 32 (length v) = length-take 32 v in
    record { len = omega arith; zeros = omega arith; words = words_fit (filled v) (length_filled v) (bytes_filled v b) }

-- ---- no name

pub none_shape : shape_right no_name ≡ true
unfolding shape_right word_bytes be all
none_shape = refl

pub none_text : text (name_text no_name) ≡ true
unfolding name_text all
none_text = text_plain (take 0 (word_bytes no_name.words)) refl

none_of : name_of [] ≡ no_name
unfolding name_of filled words_of from_be from_be_after
none_of = refl

-- ---- a name as it has to be stored

record Shaped (m : Name) : Type 0 where
  low : m.len ≤ 32
  zeros : m.zeros ≡ 0
  clear : all_zero (drop m.len (word_bytes m.words)) ≡ true

shaped : (m : Name) → shape_right m ≡ true → Shaped m
unfolding shape_right
shaped m h =
    let low = leb m.len name_most in
    let clean = eqb m.zeros 0 in
    let clear = all_zero (drop m.len (word_bytes m.words)) in
    let both = and_l (low && clean) clear h in
    record { low = leb-true m.len name_most (and_l low clean both); zeros = eqb-true m.zeros 0 (and_r low clean both); clear = and_r (low && clean) clear h }

parts_are : (m : Name) {len zeros : ℕ} {words : Words} → len ≡ m.len → zeros ≡ m.zeros → words ≡ m.words → ◌≡◌ {A = Name} (record { len = len; zeros = zeros; words = words }) m
parts_are m l z w = rw (l, z, w)

module _ (m : Name) (r : NameRange m) (h : shape_right m ≡ true) where
  long : length (name_text m) ≡ m.len
  unfolding name_text
  long = length-take m.len (word_bytes m.words) ∙ omega (arith, length_words m.words, (shaped m h).low)

  -- the name of its bytes
  pub name_again : name_of (name_text m) ≡ m
  unfolding name_of name_text
  name_again =
      let w = word_bytes m.words in
      parts_are m
      (ap length (take_all 32 (name_text m) (length_text m)) ∙ long)
      (sym (shaped m h).zeros)
      (ap words_of (filled_take m.len w (length_words m.words) (shaped m h).low (shaped m h).clear) ∙ words_spell m.words r.words)

  pub text_ok : is_named m ≡ true → text (name_text m) ≡ true → name_ok (name_text m) ≡ true
  unfolding name_ok
  text_ok n e =
      let s = name_text m in
      let some : m.len ≡ 0 → ⊥ = eqb-false m.len 0 (not-true (eqb m.len 0) n) in
      let sized = and_i (leb 1 (length s)) (leb (length s) 32) (le-leb 1 (length s) (omega (arith, long))) (le-leb (length s) 32 (length_text m)) in
      and_i (leb 1 (length s) && leb (length s) 32) (text s) sized e

  pub unnamed_none : is_named m ≡ false → m ≡ no_name
  unfolding name_text
  unnamed_none n = sym name_again ∙ ap name_of (ap (λ (k : ℕ). take k (word_bytes m.words)) (eqb-true m.len 0 (not-false (eqb m.len 0) n))) ∙ none_of
