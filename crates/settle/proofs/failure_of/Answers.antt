-- `settle::failure_of`. A failure, and every other outcome.
-- Assumes nothing.
use mathlib.Core.Path.{◌≡◌, refl, sym, ap}
use Rattle.std.specs.Prelude.{Option, None}
use Rattle.rules.specs.declared.Reason.{Reason}
use Rattle.plans.specs.declared.Outcome.{Outcome}
use Rattle.plans.specs.declared.Outcome.TheVariants.{Failed, Created, Done, Showed, Got, Located, Undone}
use Rattle.settle.specs.Trials.{failure_of}
use Rattle.settle.proofs.failure_of.Goals as goal

pub returns-in-Failed : goal.returns-in-Failed
unfolding failure_of
returns-in-Failed c = sym (ap failure_of c.in-Failed.is)

other : (o : Outcome) → ((reason : Reason) → o ≡ Failed reason → ⊥) → None ≡ failure_of o
unfolding failure_of
other (Failed reason) h = absurd (h reason refl)
other (Created serial) h = refl
other (Done serial) h = refl
other (Showed shown) h = refl
other (Got key) h = refl
other (Located serial) h = refl
other Undone h = refl

pub returns-in_default : goal.returns-in_default
returns-in_default c = other c.args.outcome c.in_default.not-Failed
