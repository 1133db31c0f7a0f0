-- 01, "TTLV", written into lent room: one item over the front, or nothing where it does not fit or would not read back.
-- Assumes nothing.
use Rattle.std.specs.Prelude.{ℕ, ◌+◌, ◌^◌, ◌≤◌, ◌≡◌, Bool, ◌&&◌, List, length, leb, ltb}
use Rattle.octets.specs.If.{ifb}
use Rattle.octets.specs.Octets.{be, over}
use Rattle.tags.specs.Tags.{tag_ok}
use Rattle.ttlv_types.specs.Types.{structure, padded, length_ok}
use Rattle.ttlv.specs.Items.{Items, nil, value, group, head, encode}

-- ---- items

-- one item, alone
abbrev pub item : ℕ → ℕ → List ℕ → Items
item tag kind v = value tag kind v nil

-- an item whose value is a number: 4 bytes of an Integer, an Enumeration or an Interval, 8 of a Long Integer, a Boolean or a Date-Time
abbrev pub number_item : ℕ → ℕ → ℕ → ℕ → Items
number_item width tag kind bits = item tag kind (be width bits)

-- items behind items
unfoldable pub join : Items → Items → Items
join nil u = u
join (value tag kind v rest) u = value tag kind v (join rest u)
join (group tag body rest) u = group tag body (join rest u)

-- ---- when an item is written

-- the room has place for `size` bytes
abbrev pub fits : List ℕ → ℕ → Bool
fits room size = leb size (length room)

-- a length that four bytes spell
abbrev pub spellable : ℕ → Bool
spellable n = ltb n (256 ^ 4)

-- a number has 1 to 8 bytes
abbrev pub width_ok : ℕ → Bool
width_ok width = leb 1 width && leb width 8

-- a value of n bytes has a length that can be spelled, and fits with its head and its padding
abbrev pub value_fits : List ℕ → ℕ → Bool
value_fits room n = spellable n && fits room (8 + padded n)

-- ---- what a writer answers

-- where the test holds, the answer is `size` and b stands over the front of the room; where not, it is 0 and the room is as it was;
-- so it is never more than the room
pub record Wrote (ok : Bool) (size : ℕ) (b room after : List ℕ) (r : ℕ) : Type 0 where
  pub answer : r ≡ ifb ok size 0
  pub bytes : after ≡ ifb ok (over b room) room
  pub within : r ≤ length room

-- a number of `width` bytes, which takes 16 in all, if these are 1 to 8 and the tag is one
abbrev pub WroteNumber : ℕ → ℕ → ℕ → ℕ → List ℕ → List ℕ → ℕ → Type 0
WroteNumber width tag kind bits room after r = Wrote (tag_ok tag && (width_ok width && fits room 16)) 16 (encode (number_item width tag kind bits)) room after r

-- an item with the value v, if the tag is one and the type allows the value
abbrev pub WroteValue : Bool → ℕ → ℕ → List ℕ → List ℕ → List ℕ → ℕ → Type 0
WroteValue right tag kind v room after r =
    Wrote (tag_ok tag && right && value_fits room (length v)) (8 + padded (length v)) (encode (item tag kind v)) room after r

-- the head of a structure with a body of n bytes, if the tag is one and a body can have so many
abbrev pub WroteHead : ℕ → ℕ → List ℕ → List ℕ → ℕ → Type 0
WroteHead tag n room after r = Wrote (tag_ok tag && spellable n && length_ok structure n && fits room 8) 8 (head tag structure n) room after r

-- ---- what a room holds after writes

-- the room has b over its front, n bytes, and past them what it had before
pub record Holds (b room after : List ℕ) (n : ℕ) : Type 0 where
  pub size : n ≡ length b
  pub bytes : after ≡ over b room
  pub within : n ≤ length room
