-- Demand 1: "it always ends with an answer".
-- Assumes nothing.
use Rattle.std.specs.Prelude.{ℕ, ◌≤◌, ◌≡◌, length, drop}
use Rattle.calls.specs.Effects.{Effect}
use Rattle.demands.specs.Box.{Call, Box, Lent}

-- 00's numbered refusals; 02, L8: "so demand 1 speaks of eleven"
abbrev pub refusals : ℕ
refusals = 11

-- "a response of at most 6,360 bytes"
abbrev pub longest : ℕ
longest = 6360

-- a call that is turned away: "length zero and every buffer untouched"
pub record Untouched (c : Call) (e : Effect) : Type 0 where
  pub length : e.length ≡ 0
  pub table : e.table ≡ c.table
  pub output : e.output ≡ c.output
  pub undo : e.undo ≡ c.undo

-- a call that is answered: short, and the output past it as it was
pub record Within (c : Call) (e : Effect) : Type 0 where
  pub short : e.length ≤ longest
  pub room : e.length ≤ length c.output
  pub same_room : length e.output ≡ length c.output
  pub past : drop e.length e.output ≡ drop e.length c.output

pub record Demand1 (B : Box) : Type 0 where
  -- "Any bytes at all may arrive": every call has an outcome
  pub ends : (c : Call) → Lent c → (e : Effect) × B c e
  -- the number is 0 or that of a refusal
  pub numbered : (c : Call) (e : Effect) → Lent c → B c e → e.number ≤ refusals
  -- a refusal touches nothing
  pub refused : (c : Call) (e : Effect) → Lent c → B c e → (e.number ≡ 0 → ⊥) → Untouched c e
  -- an answer is short, and leaves the rest of the output
  pub answered : (c : Call) (e : Effect) → Lent c → B c e → e.number ≡ 0 → Within c e
