-- A sample of how writes compose: a structure with two Integers, by three calls, with the head first and with the head last.
-- Assumes nothing. A caller hands in what the three calls ensure, and that the three tags are tags.
use mathlib.Core.Path.{◌≡◌, sym, ◌∙◌}
use mathlib.Core.Bool.{true}
use Prim.Native.Nat.{ℕ, ◌+◌, ◌-◌, ◌≤◌}
use native.Mathlib.Omega.{arith}
use mathlib.Core.List.{List, append_assoc}
use lib.ListN.{length}
use borrow.Rule.Slice.PartMut.{put_mid, mid_of}
use Rattle.octets.proofs.Over.{lent_length}
use Rattle.tags.specs.Tags.{tag_ok}
use Rattle.ttlv_types.specs.Types.{structure, integer}
use Rattle.ttlv.specs.Items.{Items, nil, group, encode}
use Rattle.ttlv_put.specs.Write.{number_item, join, WroteNumber, WroteHead, Holds}
use Rattle.ttlv.proofs.Sizes.{length_head}
use Rattle.ttlv_put.proofs.Sizes.{length_join, length_number, encode_join}
use Rattle.ttlv_put.proofs.Holds.{holds_number, holds_head, holds_then, holds_front, holds_join, holds_group, holds_left, holds_length}

-- the two fields
abbrev pub fields : ℕ → ℕ → ℕ → ℕ → Items
fields first a second b = join (number_item 4 first integer a) (number_item 4 second integer b)

module _ (tag first a second b : ℕ) (t₀ : tag_ok tag ≡ true) (t₁ : tag_ok first ≡ true) (t₂ : tag_ok second ≡ true) (room : List ℕ) where
  fields_size : 32 ≡ length (encode (fields first a second b))
  fields_size = sym (rw (length_join, length_number 4 first integer a (omega arith) (omega arith), length_number 4 second integer b (omega arith) (omega arith)))

  -- the head, then the first field behind it, then the second behind that
  pub head_first : {xs ys zs : List ℕ} {r n m : ℕ} → 40 ≤ length room
      → WroteHead tag 32 room xs r
      → WroteNumber 4 first integer a (mid_of r (length xs - r) xs) ys n
      → (let whole = put_mid r (length xs - r) xs ys in WroteNumber 4 second integer b (mid_of (r + n) (length whole - (r + n)) whole) zs m
      → Holds (encode (group tag (fields first a second b) nil)) room (put_mid (r + n) (length whole - (r + n)) whole zs) (r + n + m))
  head_first l w f s =
      let h₁ = holds_head tag 32 (fields first a second b) t₀ fields_size (omega arith) (omega arith) w in
      let k₁ = h₁.size ∙ length_head tag structure 32 in
      let h₂ = holds_number 4 first integer a t₁ (omega arith) (omega arith) (omega (arith, holds_left h₁)) f in
      let k₂ = h₂.size ∙ length_number 4 first integer a (omega arith) (omega arith) in
      let h₃ = holds_then h₁ h₂ in
      let h₄ = holds_then h₃ (holds_number 4 second integer b t₂ (omega arith) (omega arith) (omega (arith, holds_left h₃)) s) in
      holds_group tag 32 (fields first a second b) fields_size (rw (encode_join, ← append_assoc) h₄)

  -- the fields alone, as a function does it that is lent the room of the body
  pub fields_then : {xs ys : List ℕ} {n m : ℕ} → 32 ≤ length room
      → WroteNumber 4 first integer a room xs n
      → WroteNumber 4 second integer b (mid_of n (length xs - n) xs) ys m
      → Holds (encode (fields first a second b)) room (put_mid n (length xs - n) xs ys) (n + m)
  fields_then l f s =
      let h = holds_number 4 first integer a t₁ (omega arith) (omega arith) (omega arith) f in
      let k = h.size ∙ length_number 4 first integer a (omega arith) (omega arith) in
      holds_join (number_item 4 first integer a) (number_item 4 second integer b) (holds_then h (holds_number 4 second integer b t₂ (omega arith) (omega arith) (omega (arith, holds_left h)) s))

  -- and then the head in front of them: no size is known beforehand
  pub head_last : {ys after : List ℕ} {n r : ℕ} → 8 ≤ length room
      → Holds (encode (fields first a second b)) (mid_of 8 (length room - 8) room) ys n
      → WroteHead tag n (put_mid 8 (length room - 8) room ys) after r
      → Holds (encode (group tag (fields first a second b) nil)) room after (r + n)
  head_last {ys = ys} {n = n} l g w =
      let k : n ≡ 32 = g.size ∙ sym fields_size in
      let e = lent_length 8 room ys (holds_length g) in
      let h = holds_head tag n (fields first a second b) t₀ g.size (omega arith) (omega arith) w in
      holds_group tag n (fields first a second b) g.size (holds_front 8 l (length_head tag structure n) g h)
