-- The reason that is due. Ordered tests: something fails with the reason of the first condition that holds, and succeeds if none does; and what cannot be read.
-- Assumes nothing.
use Rattle.std.specs.Prelude.{Bool, List, [], ◌∷◌}
use Rattle.std.specs.Prelude.{Option, None, Some}
use Rattle.octets.specs.If.{ifb}
use Rattle.rules.specs.declared.Reason.{Reason}
use Rattle.rules.specs.declared.Reason.TheVariants.{InvalidField}

-- a condition, and the reason that is due where it holds
pub record Test : Type 0 where
  pub holds : Bool
  pub reason : Reason

infix 80 ◌⇒◌
abbrev pub ◌⇒◌ : Bool → Reason → Test
b ⇒ r = record { holds = b; reason = r }

-- the reason that is due, if any
unfoldable pub due : List Test → Option Reason
due [] = None
due (test ∷ tests) = let later = due tests in ifb test.holds (Some test.reason) later

-- "One of wrong shape or with a value not allowed here fails with Invalid Field": what was read, or nothing
unfoldable pub read_reason : {A : Type 0} → Option A → Option Reason
read_reason None = Some InvalidField
read_reason (Some a) = None
