-- How writes of items compose: fields of a fixed size, one behind another, a structure's head in front of its body.
-- Assumes nothing. The room from n on, lent, is `mid_of n (length xs - n) xs`; back in its place it gives `put_mid n (length xs - n) xs ys`.
use mathlib.Core.Path.{◌≡◌, refl, sym, ◌∙◌}
use Prim.Native.Nat.{ℕ, ◌+◌, ◌-◌, ◌%◌, ◌^◌, ◌≤◌, ◌<◌}
use native.Mathlib.Omega.{arith}
use mathlib.Core.Bool.{Bool, true, false, ◌&&◌}
use mathlib.Core.List.{List}
use lib.ListN.{length}
use borrow.Author.Tests.{le-leb, lt-ltb, eq-eqb}
use borrow.Rule.Slice.PartMut.{put_mid, mid_of}
use Rattle.octets.specs.If.{ifb}
use Rattle.octets.specs.Octets.{be}
use Rattle.octets.proofs.Numbers.{length_be}
use Rattle.octets.proofs.If.{ifb_true, ifb_false}
use Rattle.octets.proofs.Over.{lent_length}
use Rattle.tags.specs.Tags.{tag_ok}
use Rattle.ttlv_types.specs.Types.{structure, padded, length_ok}
use Rattle.ttlv.specs.Items.{Items, nil, value, group, head, encode}
use Rattle.ttlv.proofs.Back.{eights}
use Rattle.std.specs.Fn.{FnOnceReturnsAtMut}
use Rattle.ttlv_put.specs.Write.{join, spellable, fits, Wrote, WroteValue, WroteHead, Holds}
use Rattle.ttlv_around.specs.Around.{Body, behind_head, WroteAround}
use Rattle.ttlv.proofs.Sizes.{length_head}
use Rattle.ttlv_put.proofs.Sizes.{length_value, encode_nil}
use Rattle.ttlv_put.proofs.Holds.{wrote_size, holds_none, holds_wrote, holds_value, holds_then, holds_front, holds_join, holds_group, holds_length, holds_left}
use Rattle.ttlv_around.proofs.Around.{room_behind, room_back}
use Rattle.answer.specs.Respond.{word, long}
use Rattle.named_write.specs.Puts.{Puts}

-- ---- one item

-- a number of 1 to 8 bytes takes 16 in all; of a tag that is known, that it is one computes
pub number_size : (width tag kind bits : ℕ) → 0 < width → width ≤ 8 → 16 ≡ length (encode (value tag kind (be width bits) nil))
number_size width tag kind bits h k = sym (length_value tag kind (be width bits) ∙ rw (length_be width bits) (omega arith))

puts_number : (width tag kind bits : ℕ) {room after : List ℕ} {r : ℕ} → 0 < width → width ≤ 8
    → Wrote (fits room 16) 16 (encode (value tag kind (be width bits) nil)) room after r → 16 ≤ length room → Puts 16 (value tag kind (be width bits) nil) room after 16
puts_number width tag kind bits {room} h k w l =
    let fit = le-leb 16 (length room) l in
    record { few = omega arith; holds = rw (wrote_size fit w) at (holds_wrote fit (number_size width tag kind bits h k) l w) }

module _ (tag kind bits : ℕ) {room after : List ℕ} {r : ℕ} where
  pub puts_word : Wrote (fits room 16) 16 (encode (word tag kind bits nil)) room after r → 16 ≤ length room → Puts 16 (word tag kind bits nil) room after 16
  puts_word w l = puts_number 4 tag kind bits (omega arith) (omega arith) w l

  pub puts_long : Wrote (fits room 16) 16 (encode (long tag kind bits nil)) room after r → 16 ≤ length room → Puts 16 (long tag kind bits nil) room after 16
  puts_long w l = puts_number 8 tag kind bits (omega arith) (omega arith) w l

-- a value of any length, if the tag is one and the type allows the value
pub puts_value : (most : ℕ) {right : Bool} (tag kind : ℕ) (v : List ℕ) {room after : List ℕ} {r : ℕ} → tag_ok tag ≡ true → right ≡ true → WroteValue right tag kind v room after r
    → 8 + padded (length v) ≤ most → most ≤ length room → most < 256 ^ 4 → Puts most (value tag kind v nil) room after r
puts_value most {right} tag kind v t e w s l k =
    let h = holds_value right tag kind v t e (omega arith) (omega arith) w in
    record { few = omega (arith, h.size, length_value tag kind v); holds = h }

-- the same with more room
pub puts_within : {a b n : ℕ} {t : Items} {room after : List ℕ} → Puts a t room after n → a ≤ b → Puts b t room after n
puts_within p l = record { few = omega (arith, p.few); holds = p.holds }

-- ---- one behind another

pub puts_then : {t u : Items} {a b n m : ℕ} {room xs ys : List ℕ} → Puts a t room xs n → Puts b u (mid_of n (length xs - n) xs) ys m
    → Puts (a + b) (join t u) room (put_mid n (length xs - n) xs ys) (n + m)
puts_then {t = t} {u = u} p q = record { few = omega (arith, p.few, q.few); holds = holds_join t u (holds_then p.holds q.holds) }

module _ {t : Items} {a n r : ℕ} {room xs ys : List ℕ} (p : Puts a t room xs n) (tag kind bits : ℕ) where
  pub then_word : Wrote (fits (mid_of n (length xs - n) xs) 16) 16 (encode (word tag kind bits nil)) (mid_of n (length xs - n) xs) ys r → n + 16 ≤ length room
      → Puts (a + 16) (join t (word tag kind bits nil)) room (put_mid n (length xs - n) xs ys) (n + 16)
  then_word w l = puts_then p (puts_word tag kind bits w (omega (arith, holds_left p.holds)))

  pub then_long : Wrote (fits (mid_of n (length xs - n) xs) 16) 16 (encode (long tag kind bits nil)) (mid_of n (length xs - n) xs) ys r → n + 16 ≤ length room
      → Puts (a + 16) (join t (long tag kind bits nil)) room (put_mid n (length xs - n) xs ys) (n + 16)
  then_long w l = puts_then p (puts_long tag kind bits w (omega (arith, holds_left p.holds)))

-- ---- items that may be absent

pub puts_nil : (most : ℕ) (room : List ℕ) → Puts most nil room room 0
puts_nil most room = record { few = omega arith; holds = rw encode_nil (holds_none room) }

pub puts_absent : {b : Bool} (t : Items) {a : ℕ} {room : List ℕ} → b ≡ true → Puts a (ifb b nil t) room room 0
puts_absent {b} t {a = a} {room = room} e = rw (ifb_true b nil t e) (puts_nil a room)

pub puts_present : {b : Bool} {t : Items} {a n : ℕ} {room after : List ℕ} → b ≡ false → Puts a t room after n → Puts a (ifb b nil t) room after n
puts_present {b} {t} e p = rw (ifb_false b nil t e) p

-- items behind them
pub join_if : (b : Bool) (t u : Items) → join (ifb b nil t) u ≡ ifb b u (join t u)
unfolding ifb join
join_if true t u = refl
join_if false t u = refl

-- ---- structures

-- what is written is a length of items
pub puts_eights : {t : Items} {a n : ℕ} {room after : List ℕ} → Puts a t room after n → n % 8 ≡ 0
puts_eights {t} p = rw p.holds.size (eights t)

body_length : (n : ℕ) → n % 8 ≡ 0 → length_ok structure n ≡ true
unfolding length_ok ifb
body_length n e = eq-eqb (n % 8) 0 e

-- the head of a structure takes 8
pub holds_structure : (tag n : ℕ) {room after : List ℕ} {r : ℕ} → tag_ok tag ≡ true → WroteHead tag n room after r → n % 8 ≡ 0 → n < 256 ^ 4 → 8 ≤ length room
    → Holds (head tag structure n) room after 8
holds_structure tag n {room} t w e s l =
    let ok : (tag_ok tag && spellable n && length_ok structure n && fits room 8) ≡ true = rw (t, lt-ltb n (256 ^ 4) s, body_length n e, le-leb 8 (length room) l) in
    rw (wrote_size ok w) at (holds_wrote ok (sym (length_head tag structure n)) l w)

-- the body was written eight bytes on, and then its head in front of it
puts_group : (tag : ℕ) → tag_ok tag ≡ true → (room : List ℕ) {t : Items} {a n r : ℕ} {ys after : List ℕ} → Puts a t (mid_of 8 (length room - 8) room) ys n
    → WroteHead tag n (put_mid 8 (length room - 8) room ys) after r → 8 ≤ length room → a < 256 ^ 4 → Puts (8 + a) (group tag t nil) room after (8 + n)
puts_group tag h room {t = t} {n = n} {ys = ys} p w l s =
    let e = lent_length 8 room ys (holds_length p.holds) in
    let g = holds_structure tag n h w (puts_eights p) (omega (arith, p.few)) (omega (arith, e)) in
    record {
      few = omega (arith, p.few);
      holds = holds_group tag n t p.holds.size (holds_front 8 l (length_head tag structure n) p.holds g);
    }

-- the same of a structure around what a body writes, of which each outcome is told
pub puts_around : (a : ℕ) {tag : ℕ} → tag_ok tag ≡ true → {F : Type 0} {g : Body F} {body : F} {room after : List ℕ} {r : ℕ} {t : Items}
    → ((n : ℕ) (left : List ℕ) → FnOnceReturnsAtMut g body (behind_head room) n left → Puts a t (behind_head room) left n)
    → WroteAround g body tag room after r → 8 ≤ length room → a < 256 ^ 4 → Puts (8 + a) (group tag t nil) room after r
puts_around a {tag} h {room = room} p w l s =
    let body = rw (← room_behind room) at (p w.size w.left w.ran) in
    let head = rw (← room_back room w.left) at w.headed in
    rw w.answer (puts_group tag h room body head l s)
