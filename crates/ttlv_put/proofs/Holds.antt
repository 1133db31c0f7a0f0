-- How writes compose: an item that fits is in the room, one behind another, and a structure's head in front of its body.
-- Assumes nothing. The room from n on, lent, is `mid_of n (length xs - n) xs`; back in its place it gives `put_mid n (length xs - n) xs ys`.
use mathlib.Core.Path.{◌≡◌, refl, sym, ◌∙◌}
use mathlib.Core.Bool.{Bool, true, ◌&&◌}
use Prim.Native.Nat.{ℕ, ◌+◌, ◌-◌, ◌%◌, ◌^◌, ◌≤◌, ◌<◌}
use native.Mathlib.Omega.{arith}
use mathlib.Core.List.{List, [], ◌++◌}
use lib.ListN.{length, length-append, length-take, length-drop}
use borrow.Author.Tests.{le-leb, lt-ltb, eq-eqb}
use borrow.Rule.Slice.PartMut.{put_mid, mid_of}
use Rattle.octets.specs.Octets.{over}
use Rattle.octets.specs.If.{ifb}
use Rattle.octets.proofs.If.{ifb_true}
use Rattle.octets.proofs.Over.{length_over, over_front, lent, lent_then}
use Rattle.tags.specs.Tags.{tag_ok}
use Rattle.ttlv_types.specs.Types.{structure, padded, length_ok}
use Rattle.ttlv.specs.Items.{Items, nil, group, head, encode}
use Rattle.ttlv.proofs.Back.{eights}
use Rattle.ttlv_put.specs.Write.{item, number_item, join, spellable, fits, width_ok, value_fits, Wrote, WroteNumber, WroteValue, WroteHead, Holds}
use Rattle.ttlv.proofs.Sizes.{length_head}
use Rattle.ttlv_put.proofs.Sizes.{length_value, length_number, encode_join, encode_group}

-- ---- a write that fits

module _ {ok : Bool} {size : ℕ} {b room after : List ℕ} {r : ℕ} (h : ok ≡ true) (w : Wrote ok size b room after r) where
  pub wrote_size : r ≡ size
  wrote_size = w.answer ∙ ifb_true ok size 0 h

  pub wrote_bytes : after ≡ over b room
  wrote_bytes = w.bytes ∙ ifb_true ok (over b room) room h

-- ---- what the room holds

pub holds_none : (room : List ℕ) → Holds [] room room 0
holds_none room = record { size = refl; bytes = refl; within = omega arith }

-- a write whose room is shown
pub holds_wrote : {ok : Bool} {size r : ℕ} {b room after : List ℕ} → ok ≡ true → size ≡ length b → size ≤ length room → Wrote ok size b room after r → Holds b room after r
holds_wrote h e l w = record { size = wrote_size h w ∙ e; bytes = wrote_bytes h w; within = rw (wrote_size h w) l }

pub holds_number : (width tag kind bits : ℕ) {room after : List ℕ} {r : ℕ} → tag_ok tag ≡ true → 0 < width → width ≤ 8 → 16 ≤ length room
    → WroteNumber width tag kind bits room after r → Holds (encode (number_item width tag kind bits)) room after r
holds_number width tag kind bits {room} t h k l w =
    let ok : (tag_ok tag && (width_ok width && fits room 16)) ≡ true = rw (t, le-leb 1 width h, le-leb width 8 k, le-leb 16 (length room) l) in
    holds_wrote ok (sym (length_number width tag kind bits h k)) l w

pub holds_value : (right : Bool) (tag kind : ℕ) (v : List ℕ) {room after : List ℕ} {r : ℕ} → tag_ok tag ≡ true → right ≡ true → length v < 256 ^ 4 → 8 + padded (length v) ≤ length room
    → WroteValue right tag kind v room after r → Holds (encode (item tag kind v)) room after r
holds_value right tag kind v {room} t e n l w =
    let ok : (tag_ok tag && right && value_fits room (length v)) ≡ true = rw (t, e, lt-ltb (length v) (256 ^ 4) n, le-leb (8 + padded (length v)) (length room) l) in
    holds_wrote ok (sym (length_value tag kind v)) l w

body_length : (n : ℕ) → n % 8 ≡ 0 → length_ok structure n ≡ true
unfolding length_ok ifb
body_length n e = eq-eqb (n % 8) 0 e

-- the head of a body that is items
pub holds_head : (tag n : ℕ) (b : Items) {room after : List ℕ} {r : ℕ} → tag_ok tag ≡ true → n ≡ length (encode b) → n < 256 ^ 4 → 8 ≤ length room
    → WroteHead tag n room after r → Holds (head tag structure n) room after r
holds_head tag n b {room} t e s l w =
    let ok : (tag_ok tag && spellable n && length_ok structure n && fits room 8) ≡ true = rw (t, lt-ltb n (256 ^ 4) s, body_length n (rw e (eights b)), le-leb 8 (length room) l) in
    holds_wrote ok (sym (length_head tag structure n)) l w

-- ---- one behind another

module _ {b room xs : List ℕ} {n : ℕ} (h : Holds b room xs n) where
  -- the room keeps its length
  pub holds_length : length xs ≡ length room
  holds_length = rw h.bytes (length_over b room (omega (arith, h.size, h.within)))

  -- and what is left of it is what n leaves
  pub holds_left : length (mid_of n (length xs - n) xs) ≡ length room - n
  holds_left = rw (length-take, length-drop, holds_length) (omega arith)

-- b was written, and then d in the room that follows it
pub holds_then : {b d room xs ys : List ℕ} {n m : ℕ} → Holds b room xs n → Holds d (mid_of n (length xs - n) xs) ys m
    → Holds (b ++ d) room (put_mid n (length xs - n) xs ys) (n + m)
holds_then {b = b} {d = d} {room = room} {xs = xs} {ys = ys} {n = n} h g = record {
  size = rw (length-append, ← h.size, ← g.size);
  bytes = lent_then n b d xs ys room h.bytes (sym h.size) g.bytes;
  within = omega (arith, g.within, holds_left h, h.within);
}

-- b was written k bytes on, and then k bytes d in front of it
pub holds_front : (k : ℕ) {b d room ys after : List ℕ} {n r : ℕ} → k ≤ length room → length d ≡ k
    → Holds b (mid_of k (length room - k) room) ys n → Holds d (put_mid k (length room - k) room ys) after r → Holds (d ++ b) room after (r + n)
holds_front k {b = b} {d = d} {room = room} {ys = ys} l e g w =
    let left : length (mid_of k (length room - k) room) ≡ length room - k = rw (length-take, length-drop) (omega arith) in
    record {
      size = rw (length-append, ← w.size, ← g.size);
      bytes = w.bytes ∙ rw (lent k b room ys g.bytes) (over_front k b d room e l);
      within = omega (arith, g.within, w.size);
    }

-- ---- as items

pub holds_join : (t u : Items) {room after : List ℕ} {n : ℕ} → Holds (encode t ++ encode u) room after n → Holds (encode (join t u)) room after n
holds_join t u h = rw encode_join h

pub holds_group : (tag n : ℕ) (b : Items) {room after : List ℕ} {m : ℕ} → n ≡ length (encode b) → Holds (head tag structure n ++ encode b) room after m
    → Holds (encode (group tag b nil)) room after m
holds_group tag n b e h = rw (encode_group, ← e) h
