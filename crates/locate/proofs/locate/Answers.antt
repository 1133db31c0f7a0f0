-- `locate::locate`. What is found is answered and held.
-- Assumes nothing.
use mathlib.Core.Path.{ap}
use Prim.Native.Nat.{ℕ}
use Rattle.plans.specs.declared.Outcome.TheVariants.{Located}
use Rattle.locate.specs.Locate.{locating}
use Rattle.locate.proofs.locate.Goals as goal

pub returns : goal.returns
unfolding locating
returns c = ap (λ (serial : ℕ). record { outcome = Located serial; holder = serial }) c.serial_named-serial.ensures
