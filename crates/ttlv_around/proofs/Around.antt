-- The room behind a head, lent to a body and given back.
-- Assumes nothing.
use mathlib.Core.Path.{◌≡◌}
use Prim.Native.Nat.{ℕ, ◌-◌}
use native.Mathlib.Omega.{arith}
use mathlib.Core.List.{List, [], append-nil}
use lib.ListN.{length, drop, length-drop, drop_of_length-le}
use lib.Seq.{take_all}
use borrow.Rule.Slice.PartMut.{put_mid, mid_of}
use Rattle.ttlv_around.specs.Around.{behind_head, with_body}

pub room_behind : (room : List ℕ) → mid_of 8 (length room - 8) room ≡ behind_head room
room_behind room = take_all (length room - 8) (drop 8 room) (rw length-drop (omega arith))

pub room_back : (room left : List ℕ) → put_mid 8 (length room - 8) room left ≡ with_body room left
room_back room left =
    let none : drop (length room - 8) (drop 8 room) ≡ [] = drop_of_length-le (drop 8 room) (rw length-drop (omega arith)) in
    rw (none, append-nil)
