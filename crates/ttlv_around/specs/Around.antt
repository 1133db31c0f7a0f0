-- A structure around what a body writes into lent room.
-- Assumes nothing. A body is what can be called once on room, and answers the bytes that it wrote there.
use Rattle.std.specs.Prelude.{ℕ, ◌+◌, ◌≡◌, ◌++◌, List, take, drop}
use Rattle.std.specs.Fn.{Once, FnOnceReturnsAtMut}
use denote.Ref.{MutBor}
use Rattle.ttlv_put.specs.Write.{WroteHead}

-- what is known of the calls of bodies of one type
abbrev pub Body : Type 0 → Type 1
Body F = Once F (MutBor (List ℕ) × Unit {0}) (ℕ × (MutBor (List ℕ) × Unit {0}))

-- the room behind a head
abbrev pub behind_head : List ℕ → List ℕ
behind_head room = drop 8 room

-- the room with that part of it as the body left it
abbrev pub with_body : List ℕ → List ℕ → List ℕ
with_body room left = take 8 room ++ left

-- the body ran on the room behind the head, said `size` and left that part as `left`; then the head of a structure of so many bytes was
-- written in front, and the answer counts both
pub record WroteAround {F : Type 0} (g : Body F) (body : F) (tag : ℕ) (room after : List ℕ) (r : ℕ) : Type 0 where
  pub size : ℕ
  pub left : List ℕ
  pub head : ℕ
  pub ran : FnOnceReturnsAtMut g body (behind_head room) size left
  pub headed : WroteHead tag size (with_body room left) after head
  pub answer : r ≡ 8 + size
