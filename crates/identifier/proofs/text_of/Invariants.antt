-- `identifier::text_of`. The digits that are left to write, and what is written behind them, are the whole text.
-- Assumes nothing.
use mathlib.Core.Path.{◌≡◌}
use mathlib.Core.List.{◌++◌}
use lib.ListN.{length, drop}
use Rattle.identifier.specs.Identifier.{digits, identifier}
use Rattle.identifier.proofs.text_of.Given as goal

abbrev pub invariant-loop-k : goal.invariant-loop-k
invariant-loop-k l = (length l.text ≡ 8) × (digits l.k l.rest ++ drop l.k l.text ≡ identifier l.serial)
