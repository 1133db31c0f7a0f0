-- Items over the front of lent room, with how much room they take.
-- Assumes nothing.
use Rattle.std.specs.Prelude.{ℕ, ◌≤◌, List}
use Rattle.ttlv.specs.Items.{Items, encode}
use Rattle.ttlv_put.specs.Write.{Holds}

-- the room has these items over its front, n bytes and at most `most`, and past them what it had before
pub record Puts (most : ℕ) (t : Items) (room after : List ℕ) (n : ℕ) : Type 0 where
  pub few : n ≤ most
  pub holds : Holds (encode t) room after n
