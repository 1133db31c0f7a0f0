-- An item leaves what its command leaves.
-- Assumes nothing.
use mathlib.Core.Path.{◌≡◌, refl}
use Prim.Native.Nat.{ℕ}
use mathlib.Core.List.{List}
use Rattle.batch_item.specs.Item.{Asked}
use Rattle.payload.specs.Payload.{command}
use Rattle.plans.specs.Plans.{Env}
use Rattle.act.specs.Act.{step, performing}

pub step_performs : (env : Env) (holder : ℕ) (t : List ℕ) (asked : Asked)
    → step env holder t asked ≡ performing env.places env.fresh holder t (command asked.operation asked.payload)
unfolding step performing
step_performs env holder t asked = refl
