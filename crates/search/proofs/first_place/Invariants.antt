-- `search::first_place`. The places looked at so far have failed.
-- Assumes nothing.
use Rattle.std.proofs.Common.{ℕ, ◌<◌, false}
use Rattle.search.proofs.first_place.Given as goal

abbrev pub invariant-loop-place : goal.invariant-loop-place
invariant-loop-place g l = (k : ℕ) → k < l.place → goal.F-post g l.test k false
