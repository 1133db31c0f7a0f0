-- Thirty-two bytes and their four numbers determine each other.
-- Assumes nothing.
use Prim.Native.Nat.{ℕ, ◌+◌, ◌-◌, ◌^◌, ◌≤◌, min}
use native.Mathlib.Nat.{add_assoc, add-zero}
use native.Mathlib.Decide.{dec_le}
use native.Mathlib.Omega.{arith}
use mathlib.Core.Path.{◌≡◌, sym, ap, ◌∙◌}
use mathlib.Core.Bool.{true, ◌&&◌}
use mathlib.Core.List.{List, ◌++◌, append_assoc}
use lib.ListN.{length, take, drop, replicate, length-append, length-take, length-drop, length-replicate, take-append-drop, replicate-append-replicate}
use lib.Seq.{sets, take-add, take_all, take-append_seam, take-append-add, take-append-le, drop-append_seam, drop-drop}
use lib.Dec.{ltb, lit≤}
use borrow.Author.Tests.{lt-ltb, ltb-true}
use Rattle.octets.specs.Octets.{Bytes, be, from_be, part, all_zero}
use Rattle.octets.proofs.Bools.{and_l, and_r}
use Rattle.octets.proofs.Numbers.{length_be, from_be_be, be_part, from_be_lt, bytes_take, bytes_drop, bytes_append}
use Rattle.octets.proofs.Zeros.{pass_zeros, zeros_pass, bytes_zeros, drop_zeros, part_zeros}
use Rattle.octets.proofs.Stores.{length_part, part_part, sets_append, sets_whole, sets_over}
use Rattle.words.specs.declared.Words.{Words}
use Rattle.words.specs.Words.{words_of, word_bytes, words_ok, filled}

pub length_words : (w : Words) → length (word_bytes w) ≡ 32
unfolding word_bytes
length_words w = rw (length-append, length-append, length-append, length_be 8 w.a, length_be 8 w.b, length_be 8 w.c, length_be 8 w.d)

-- ---- both ways

-- four parts of eight bytes, one behind the other, are the whole
parts_whole : (v : List ℕ) → length v ≡ 32 → part v 0 8 ++ (part v 8 8 ++ (part v 16 8 ++ part v 24 8)) ≡ v
parts_whole v l =
    sym
    (sym (take_all 32 v (omega arith))
    ∙ take-add 8 24 v
    ∙ ap (λ (x : List ℕ). take 8 v ++ x) (take-add 8 16 (drop 8 v) ∙ ap (λ (x : List ℕ). take 8 (drop 8 v) ++ x) (rw (drop-drop 8 8 v) (take-add 8 8 (drop 16 v) ∙ rw (drop-drop 8 16 v)))))

-- 32 bytes are spelled by their numbers
pub words_back : (v : List ℕ) → length v ≡ 32 → Bytes v → word_bytes (words_of v) ≡ v
unfolding word_bytes words_of
words_back v l b =
    rw (be_part 8 0 v (omega arith) b, be_part 8 8 v (omega arith) b, be_part 8 16 v (omega arith) b, be_part 8 24 v (omega arith) b) (parts_whole v l)

-- four numbers read one after the other
pub words_read : (v : List ℕ) {a b c d : ℕ} → a ≡ from_be (part v 0 8) → b ≡ from_be (part v 8 8) → c ≡ from_be (part v 16 8) → d ≡ from_be (part v 24 8)
    → ◌≡◌ {A = Words} (record { a = a; b = b; c = c; d = d }) (words_of v)
unfolding words_of
words_read v p q r s = rw (p, q, r, s)

-- and four numbers are those of the bytes that spell them
pub words_spell : (w : Words) → words_ok w ≡ true → words_of (word_bytes w) ≡ w
unfolding be words_ok words_of word_bytes
words_spell w h =
    let abc = and_l (ltb w.a (256 ^ 8) && ltb w.b (256 ^ 8) && ltb w.c (256 ^ 8)) (ltb w.d (256 ^ 8)) h in
    let ab = and_l (ltb w.a (256 ^ 8) && ltb w.b (256 ^ 8)) (ltb w.c (256 ^ 8)) abc in
    let a = ltb-true w.a (256 ^ 8) (and_l (ltb w.a (256 ^ 8)) (ltb w.b (256 ^ 8)) ab) in
    let b = ltb-true w.b (256 ^ 8) (and_r (ltb w.a (256 ^ 8)) (ltb w.b (256 ^ 8)) ab) in
    let c = ltb-true w.c (256 ^ 8) (and_r (ltb w.a (256 ^ 8) && ltb w.b (256 ^ 8)) (ltb w.c (256 ^ 8)) abc) in
    let d = ltb-true w.d (256 ^ 8) (and_r (ltb w.a (256 ^ 8) && ltb w.b (256 ^ 8) && ltb w.c (256 ^ 8)) (ltb w.d (256 ^ 8)) h) in
    sym (words_read (word_bytes w) (sym (from_be_be 8 w.a a)) (sym (from_be_be 8 w.b b)) (sym (from_be_be 8 w.c c)) (sym (from_be_be 8 w.d d)))

-- the numbers of bytes are numbers of eight bytes
pub words_fit : (v : List ℕ) → length v ≡ 32 → Bytes v → words_ok (words_of v) ≡ true
unfolding words_ok words_of
words_fit v l b = rw (fits 0 (omega arith), fits 8 (omega arith), fits 16 (omega arith), fits 24 (omega arith))
  where
    fits : (at : ℕ) → at + 8 ≤ 32 → ltb (from_be (part v at 8)) (256 ^ 8) ≡ true
    fits at h =
        let n : length (part v at 8) ≡ 8 = length_part v at 8 (omega arith) in
        lt-ltb (from_be (part v at 8)) (256 ^ 8) (rw n at (from_be_lt (part v at 8) (bytes_take 8 (drop at v) (bytes_drop at v b))))

-- ---- bytes filled up

-- bytes that are zero from m on are what their first m are filled up to
pub filled_take : (m : ℕ) (v : List ℕ) → length v ≡ 32 → m ≤ 32 → all_zero (drop m v) ≡ true → filled (take m v) ≡ v
unfolding filled
filled_take m v l h z =
    let tail : drop m v ≡ replicate (32 - m) 0 = pass_zeros (drop m v) z ∙ rw (length-drop, l) in
    let whole : take m v ++ replicate (32 - m) 0 ≡ v = ap (λ (x : List ℕ). take m v ++ x) (sym tail) ∙ take-append-drop m v in
    let n : 32 ≡ 32 - m + m = omega arith in
    let more : replicate {A = ℕ} 32 0 ≡ replicate (32 - m) 0 ++ replicate m 0 = ap (λ (k : ℕ). replicate {A = ℕ} k 0) n ∙ sym (replicate-append-replicate {A = ℕ} (32 - m) m 0) in
    let split : take m v ++ replicate 32 0 ≡ v ++ replicate m 0 = ap (λ (x : List ℕ). take m v ++ x) more ∙ sym (append_assoc (take m v) _ _) ∙ ap (λ (x : List ℕ). x ++ replicate m 0) whole in
    ap (λ (x : List ℕ). take 32 x) split ∙ ap (λ (k : ℕ). take k (v ++ replicate m 0)) (sym l) ∙ take-append_seam v (replicate m 0)

abbrev zeros : ℕ → List ℕ
zeros n = replicate n 0

-- bytes that fit, and then zeros
pub filled_short : (v : List ℕ) → length v ≤ 32 → filled v ≡ v ++ zeros (32 - length v)
unfolding filled
filled_short v h =
    let a : 32 ≡ length v + (32 - length v) = omega arith in
    ap (λ (n : ℕ). take n (v ++ zeros 32)) a
    ∙ take-append-add v (zeros 32) (32 - length v)
    ∙ ap (λ (s : List ℕ). v ++ s) (part_zeros 32 0 (32 - length v) (omega arith))

-- of more than fit, the first 32
pub filled_long : (v : List ℕ) → 32 ≤ length v → filled v ≡ take 32 v
unfolding filled
filled_long v h = take-append-le 32 v (zeros 32) h

pub length_filled : (v : List ℕ) → length (filled v) ≡ 32
unfolding filled
length_filled v = rw (length-take, length-append, length-replicate) (omega arith)

pub bytes_filled : (v : List ℕ) → Bytes v → Bytes (filled v)
unfolding filled
bytes_filled v b = bytes_take 32 (v ++ zeros 32) (bytes_append v (zeros 32) b (bytes_zeros 32))

-- zero past what was filled up
pub filled_tail : (v : List ℕ) → length v ≤ 32 → all_zero (drop (length v) (filled v)) ≡ true
filled_tail v h =
    ap (λ (s : List ℕ). all_zero (drop (length v) s)) (filled_short v h)
    ∙ ap all_zero (drop-append_seam v (zeros (32 - length v)))
    ∙ zeros_pass (32 - length v)

-- ---- what the functions answer

-- four numbers read where they stand
pub words_there : (s : List ℕ) (at : ℕ) {a b c d : ℕ} → a ≡ from_be (part s at 8) → b ≡ from_be (part s (at + 8) 8) → c ≡ from_be (part s (at + 16) 8) → d ≡ from_be (part s (at + 24) 8)
    → ◌≡◌ {A = Words} (record { a = a; b = b; c = c; d = d }) (words_of (part s at 32))
words_there s at p q r u =
    words_read (part s at 32)
    (p ∙ ap from_be (sym (part_part s at 32 0 8 (lit≤ tt) ∙ rw add-zero)))
    (q ∙ ap from_be (sym (part_part s at 32 8 8 (lit≤ tt))))
    (r ∙ ap from_be (sym (part_part s at 32 16 8 (lit≤ tt))))
    (u ∙ ap from_be (sym (part_part s at 32 24 8 (lit≤ tt))))

-- four numbers stored one behind the other
pub words_sets : (t : List ℕ) (at : ℕ) (w : Words) → sets (sets (sets (sets t at (be 8 w.a)) (at + 8) (be 8 w.b)) (at + 16) (be 8 w.c)) (at + 24) (be 8 w.d) ≡ sets t at (word_bytes w)
unfolding word_bytes
words_sets t at w = sym (simp (sets_append, length_be, add_assoc))

pub words_chain : (t : List ℕ) (at : ℕ) (w : Words) {t₁ t₂ t₃ t₄ : List ℕ}
    → t₁ ≡ sets t at (be 8 w.a) → t₂ ≡ sets t₁ (at + 8) (be 8 w.b) → t₃ ≡ sets t₂ (at + 16) (be 8 w.c) → t₄ ≡ sets t₃ (at + 24) (be 8 w.d) → t₄ ≡ sets t at (word_bytes w)
words_chain t at w p q r s = cc (words_sets t at w)

-- over 32 bytes nothing else is left
pub words_whole : (z : List ℕ) (w : Words) → length z ≡ 32 → sets z 0 (word_bytes w) ≡ word_bytes w
words_whole z w l = sets_whole z (word_bytes w) (length_words w ∙ sym l)

-- the bytes that fit, stored over zeros
pub filled_stored : (v : List ℕ) (end : ℕ) → end ≡ min (length v) 32 → sets (zeros 32) 0 (take end v) ≡ filled v
filled_stored v end e = elim (dec_le (length v) 32) [
  | yes h ↦ (
      let m : end ≡ length v = omega arith in
      ap (λ (s : List ℕ). sets (zeros 32) 0 s) (take_all end v (omega arith))
      ∙ sets_over v (zeros 32) h
      ∙ ap (λ (s : List ℕ). v ++ s) (drop_zeros (length v) 32)
      ∙ sym (filled_short v h))
  | no h ↦ (
      let m : end ≡ 32 = omega arith in
      ap (λ (k : ℕ). sets (zeros 32) 0 (take k v)) m
      ∙ sets_whole (zeros 32) (take 32 v) (length-take 32 v ∙ omega arith)
      ∙ sym (filled_long v (omega arith)))
]
