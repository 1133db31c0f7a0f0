-- For the private functions: what is asked of the record that an item is about, said by its plan. Nothing here has to be believed.
-- Assumes nothing.
use Rattle.std.specs.Prelude.{ℕ, List}
use Rattle.target_read.specs.declared.Target.{Target}
use Rattle.plans.specs.Plans.{Env, Plan}
use Rattle.deeds.specs.declared.Deed.{Deed}
use Rattle.deeds.specs.Deeds.{deed_plan}
use Rattle.act.specs.Act.{targeted}

module _ (env : Env) (holder : ℕ) (t : List ℕ) where
  -- what is asked of the record that an item is about
  abbrev pub about_plan : Deed → Target → Plan
  about_plan deed target = targeted env holder t (deed_plan env holder t deed) target
