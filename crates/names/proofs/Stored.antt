-- A name and its stored bytes determine each other.
-- Assumes nothing.
use mathlib.Core.Path.{◌≡◌, refl, sym, ap, ◌∙◌}
use Prim.Native.Nat.{ℕ, ◌+◌, ◌^◌, ◌≤◌, ◌<◌}
use native.Mathlib.Nat.{add_assoc}
use native.Mathlib.Omega.{arith}
use mathlib.Core.Bool.{true}
use mathlib.Core.List.{List, ◌++◌}
use lib.ListN.{length, take, drop, length-append}
use lib.Seq.{sets, take_all, take-add, drop-drop}
use Rattle.octets.specs.Octets.{be, from_be, part, Bytes}
use Rattle.octets.proofs.Numbers.{length_be, be_bytes, be_part, from_be_be, from_be_lt, bytes_append, bytes_take, bytes_drop}
use Rattle.octets.proofs.Stores.{length_part, sets_append}
use Rattle.words.specs.declared.Words.{Words}
use Rattle.words.specs.Words.{words_of, word_bytes, words_ok}
use Rattle.words.proofs.Laws.{length_words, words_back, words_spell, words_fit}
use Rattle.names.specs.declared.Name.{Name}
use Rattle.names.specs.Names.{name_size, name_field, stored_name, no_name}

-- each number fits its bytes
pub record NameRange (m : Name) : Type 0 where
  pub len : m.len < 256
  pub zeros : m.zeros < 256 ^ 7
  pub words : words_ok m.words ≡ true

pub length_field : (m : Name) → length (name_field m) ≡ name_size
unfolding name_field
length_field m = rw (length-append, length-append, length_be 1 m.len, length_be 7 m.zeros, length_words m.words)

pub bytes_field : (m : Name) → Bytes (name_field m)
unfolding name_field word_bytes
bytes_field m =
    let w = m.words in
    bytes_append (be 1 m.len) _ (be_bytes 1 m.len)
    (bytes_append (be 7 m.zeros) _ (be_bytes 7 m.zeros)
    (bytes_append (be 8 w.a) _ (be_bytes 8 w.a) (bytes_append (be 8 w.b) _ (be_bytes 8 w.b) (bytes_append (be 8 w.c) _ (be_bytes 8 w.c) (be_bytes 8 w.d)))))

-- what was stored is read
pub stored_field : (m : Name) → NameRange m → stored_name (name_field m) ≡ m
unfolding stored_name name_field be
stored_field m h =
    let l = from_be_be 1 m.len h.len in
    let z = from_be_be 7 m.zeros h.zeros in
    let w : words_of (take 32 (word_bytes m.words)) ≡ m.words = ap words_of (take_all 32 (word_bytes m.words) (omega (arith, length_words m.words))) ∙ words_spell m.words h.words in
    simp (l, z, w)

module _ (s : List ℕ) (l : length s ≡ name_size) (b : Bytes s) where
  words_there : Bytes (part s 8 32)
  words_there = bytes_take 32 (drop 8 s) (bytes_drop 8 s b)

  words_long : length (part s 8 32) ≡ 32
  words_long = length_part s 8 32 (omega arith)

  -- and stored bytes are written as they were read
  pub field_stored : name_field (stored_name s) ≡ s
  unfolding name_field stored_name
  field_stored =
      rw (be_part 1 0 s (omega arith) b, be_part 7 1 s (omega arith) b, words_back (part s 8 32) words_long words_there)
      (sym (sym (take_all 40 s (omega arith)) ∙ take-add 1 39 s ∙ ap (λ (x : List ℕ). take 1 s ++ x) (take-add 7 32 (drop 1 s) ∙ ap (λ (x : List ℕ). take 7 (drop 1 s) ++ x) (rw (drop-drop 7 1 s)))))

  number_fits : (at w : ℕ) → at + w ≤ name_size → from_be (part s at w) < 256 ^ w
  number_fits at w h =
      let n : length (part s at w) ≡ w = length_part s at w (omega arith) in
      rw n at (from_be_lt (part s at w) (bytes_take w (drop at s) (bytes_drop at s b)))

  pub stored_range : NameRange (stored_name s)
  unfolding stored_name
  stored_range = record { len = number_fits 0 1 (omega arith); zeros = number_fits 1 7 (omega arith); words = words_fit (part s 8 32) words_long words_there }

-- ---- no name

pub none_range : NameRange no_name
unfolding words_ok
none_range = record { len = omega arith; zeros = omega arith; words = refl }

-- ---- a name stored part by part

name_sets : (t : List ℕ) (at : ℕ) (m : Name) → sets (sets (sets t at (be 1 m.len)) (at + 1) (be 7 m.zeros)) (at + 8) (word_bytes m.words) ≡ sets t at (name_field m)
unfolding name_field
name_sets t at m = sym (simp (sets_append, length_be, add_assoc))

pub name_chain : (t : List ℕ) (at : ℕ) (m : Name) {t₁ t₂ t₃ : List ℕ} → t₁ ≡ sets t at (be 1 m.len) → t₂ ≡ sets t₁ (at + 1) (be 7 m.zeros) → t₃ ≡ sets t₂ (at + 8) (word_bytes m.words)
    → t₃ ≡ sets t at (name_field m)
name_chain t at m p q r = cc (name_sets t at m)
