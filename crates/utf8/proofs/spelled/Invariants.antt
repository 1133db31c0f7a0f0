-- `utf8::spelled`. What is still to come and the bytes that are left decide.
-- Assumes nothing.
use mathlib.Core.Path.{◌≡◌}
use lib.ListN.{drop}
use Rattle.utf8.specs.Text.{text_from, text}
use Rattle.utf8.specs.Ranges.{ranges_of}
use Rattle.utf8.proofs.spelled.Given as goal

abbrev pub invariant-loop-b : goal.invariant-loop-b
invariant-loop-b l = text l.s ≡ text_from (ranges_of l.p) (drop l.b-index l.s)
