-- Items written again from what was read: the same bytes.
-- Assumes nothing.
use Rattle.std.specs.Prelude.{ℕ, ◌≤◌, ◌<◌, ◌≡◌, true, ◌&&◌, List, length, take, drop}
use Rattle.octets.specs.Maybe.{is_some}
use Rattle.octets.specs.Octets.{over}
use Rattle.ttlv.specs.Parse.{message}
use Rattle.ttlv.specs.Tree.{is_run}
use Rattle.ttlv_put.specs.Write.{fits, Wrote}

-- the item at the front of t, or the head of a structure there, stands again over the front of the room: r bytes, with a run behind them
pub record Again (t room after : List ℕ) (r : ℕ) : Type 0 where
  pub some : 0 < r
  pub within : r ≤ length t
  pub bytes : after ≡ over (take r t) room
  pub run : is_run (drop r t) ≡ true

-- the whole message stands again over the front of the room, if it is one and the room has place for it
abbrev pub Rewrote : List ℕ → List ℕ → List ℕ → ℕ → Type 0
Rewrote s room after r = Wrote (is_some (message s) && fits room (length s)) (length s) s room after r
