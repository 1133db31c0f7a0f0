-- What the functions over names answer, over the numbers and bytes that they have at hand.
-- Assumes nothing.
use mathlib.Core.Path.{◌≡◌, sym, ap, ◌∙◌}
use Prim.Native.Nat.{ℕ, ◌-◌, ◌≤◌, ◌<◌, min}
use native.Mathlib.Decide.{dec_le}
use native.Mathlib.Omega.{arith}
use mathlib.Core.Bool.{Bool, true, false, ◌&&◌, ◌||◌}
use mathlib.Core.Logic.{⊎_elim}
use mathlib.Core.List.{List, []}
use lib.ListN.{length, take, drop, length-take, length-drop, drop_of_length-le}
use lib.Seq.{take_all}
use lib.Dec.{eqb, leb, ltb}
use borrow.Author.Tests.{le-leb, ltb-true, ltb-false}
use Rattle.octets.specs.Octets.{all_zero}
use Rattle.octets.proofs.Bools.{and_i, and_second, no_unless, or_cases, or_not_l, or_not_r}
use Rattle.octets.proofs.Stores.{take_there}
use Rattle.utf8.specs.Text.{text}
use Rattle.words.specs.declared.Words.{Words}
use Rattle.words.specs.Words.{words_of, word_bytes, filled}
use Rattle.words.proofs.Laws.{length_words}
use Rattle.names.specs.declared.Name.{Name}
use Rattle.names.specs.Names.{name_text, name_of, name_ok, shape_right}
use Rattle.names.proofs.Texts.{fits}

module _ (v : List ℕ) where
  pub named : {len : ℕ} {room : List ℕ} {words : Words} → len ≡ min 32 (length v) → room ≡ filled v → words ≡ words_of room → ◌≡◌ {A = Name} (record { len = len; zeros = 0; words = words }) (name_of v)
  unfolding name_of
  named l f w = rw (l ∙ sym (length-take 32 v), w, f)

  -- of a size that no name has
  pub ok_no : (ltb (length v) 1 || ltb 32 (length v)) ≡ true → false ≡ name_ok v
  ok_no e = sym (no_unless (name_ok v) (λ ok. ⊎_elim (λ low. empty (ltb-true (length v) 1 low) (fits v ok).some) (λ high. full (ltb-true 32 (length v) high) (fits v ok).few) (or_cases (ltb (length v) 1) (ltb 32 (length v)) e)))
    where
      empty : length v < 1 → 1 ≤ length v → ⊥
      empty a b = omega arith

      full : 32 < length v → length v ≤ 32 → ⊥
      full a b = omega arith

  pub ok_sized : {b : Bool} → (ltb (length v) 1 || ltb 32 (length v)) ≡ false → b ≡ text v → b ≡ name_ok v
  unfolding name_ok
  ok_sized n e =
      let some = ltb-false (length v) 1 (or_not_l (ltb (length v) 1) (ltb 32 (length v)) n) in
      let few = ltb-false 32 (length v) (or_not_r (ltb (length v) 1) (ltb 32 (length v)) n) in
      e ∙ sym (and_second (leb 1 (length v) && leb (length v) 32) (text v) (and_i (leb 1 (length v)) (leb (length v) 32) (le-leb 1 (length v) some) (le-leb (length v) 32 few)))

module _ (m : Name) {len : ℕ} {room : List ℕ} (l : len ≡ min m.len 32) (w : room ≡ word_bytes m.words) where
  -- all 32 bytes
  abbrev Bytes32 : List ℕ
  Bytes32 = word_bytes m.words

  long : length room ≡ 32
  long = ap length w ∙ length_words m.words

  pub text_there : take len room ≡ name_text m
  unfolding name_text
  text_there =
      let n : len ≡ length (take m.len Bytes32) = l ∙ sym (length-take m.len Bytes32 ∙ ap (λ (k : ℕ). min m.len k) (length_words m.words)) in
      rw (n, w) (take_there m.len Bytes32)

  rest_there : take (32 - len) (drop len room) ≡ drop m.len Bytes32
  rest_there =
      let whole : take (32 - len) (drop len room) ≡ drop len Bytes32 = take_all (32 - len) (drop len room) (rw length-drop (omega (arith, long))) ∙ ap (λ (x : List ℕ). drop len x) w in
      elim (dec_le m.len 32) [
        | yes h ↦ (
            let n : len ≡ m.len = omega arith in
            whole ∙ ap (λ (k : ℕ). drop k Bytes32) n)
        | no h ↦ (
            let past : (k : ℕ) → 32 ≤ k → drop k Bytes32 ≡ [] = λ k e. drop_of_length-le Bytes32 {i = k} (omega (arith, length_words m.words)) in
            whole ∙ past len (omega arith) ∙ sym (past m.len (omega arith)))
      ]

  pub shaped_there : {clear : Bool} → clear ≡ all_zero (take (32 - len) (drop len room)) → (leb m.len 32 && eqb m.zeros 0 && clear) ≡ shape_right m
  unfolding shape_right
  shaped_there e = ap (λ (b : Bool). leb m.len 32 && eqb m.zeros 0 && b) (e ∙ ap all_zero rest_there)
