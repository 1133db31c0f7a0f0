-- How a success is put together: its status first, and then its payload.
-- Assumes nothing.
use mathlib.Core.Path.{◌≡◌, sym, ap, ◌∙◌}
use Prim.Native.Nat.{ℕ, ◌-◌, ◌≤◌}
use native.Mathlib.Omega.{arith}
use mathlib.Core.List.{List}
use lib.ListN.{length, drop, length-drop}
use lib.Seq.{drop-drop, drop_at, take_all}
use borrow.Rule.Slice.PartMut.{mid_of}
use Rattle.ttlv_types.specs.Types.{enumeration}
use Rattle.ttlv.specs.Items.{nil, encode}
use Rattle.ttlv_put.specs.Write.{fits, Wrote}
use Rattle.ttlv_around.specs.Around.{behind_head}
use Rattle.ttlv_put.proofs.Holds.{holds_left}
use Rattle.tags.specs.Tags.{result_status}
use Rattle.rules.specs.Numbers.{success}
use Rattle.answer.specs.Respond.{word}
use Rattle.named_write.specs.Puts.{Puts}
use Rattle.named_write.proofs.Compose.{puts_word}

module _ {room xs : List ℕ} {r : ℕ} (w : Wrote (fits room 16) 16 (encode (word result_status enumeration success nil)) room xs r) (l : 24 ≤ length room) where
  -- the status was written
  pub status : Puts 16 (word result_status enumeration success nil) room xs 16
  status = puts_word result_status enumeration success w (omega arith)

  -- what is left of the room
  pub status_left : length (mid_of 16 (length xs - 16) xs) ≡ length room - 16
  status_left = holds_left status.holds

  -- and the room of a payload in it is what it was before
  pub payload_room : behind_head (mid_of 16 (length xs - 16) xs) ≡ drop 24 room
  payload_room =
      let h = status.holds in
      let b = encode (word result_status enumeration success nil) in
      let rest : mid_of 16 (length xs - 16) xs ≡ drop 16 xs = take_all (length xs - 16) (drop 16 xs) (rw length-drop (omega arith)) in
      let kept : drop 16 xs ≡ drop 16 room = rw h.bytes (rw (← h.size) (drop_at b (drop 16 room) 16 (sym h.size))) in
      ap (drop 8) (rest ∙ kept) ∙ drop-drop 8 16 room
