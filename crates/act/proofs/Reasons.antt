-- A command that fails by itself is refused with the reason that the payload's definition gives for its case.
-- Assumes nothing.
use Prim.Native.Nat.{ℕ}
use mathlib.Core.Path.{◌≡◌, ap}
use Rattle.std.specs.Prelude.{Some}
use mathlib.Core.List.{List}
use Rattle.octets.proofs.Maybe.{not_some, some_is}
use Rattle.rules.specs.declared.Reason.{Reason}
use Rattle.payload.specs.Reasons.{reason_of}
use Rattle.payload.specs.declared.Command.{Command}
use Rattle.payload.specs.declared.Command.TheVariants.{Unsupported, Invalid, Create, Rekey, GetUsageAllocation, Activate, Revoke, Destroy, GetAttributes, Get, Locate}
use Rattle.plans.specs.Plans.{Env, refusal}
use Rattle.act.specs.Act.{plan}

pub plan_reason : (env : Env) (holder : ℕ) (t : List ℕ) (c : Command) {reason : Reason} → reason_of c ≡ Some reason → plan env holder t c ≡ refusal t reason
unfolding plan reason_of
plan_reason env holder t Unsupported h = ap (refusal t) (some_is h)
plan_reason env holder t Invalid h = ap (refusal t) (some_is h)
plan_reason env holder t (Create wanted) h = absurd (not_some h)
plan_reason env holder t (Rekey target offset) h = absurd (not_some h)
plan_reason env holder t (GetUsageAllocation target amount) h = absurd (not_some h)
plan_reason env holder t (Activate target) h = absurd (not_some h)
plan_reason env holder t (Revoke target code) h = absurd (not_some h)
plan_reason env holder t (Destroy target) h = absurd (not_some h)
plan_reason env holder t (GetAttributes target) h = absurd (not_some h)
plan_reason env holder t (Get target) h = absurd (not_some h)
plan_reason env holder t (Locate name) h = absurd (not_some h)
