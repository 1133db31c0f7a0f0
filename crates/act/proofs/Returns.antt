-- What each return of the functions of this crate leaves, from what the functions that it called answered.
-- Assumes nothing.
use Rattle.std.specs.Prelude.{Option, None, Some}
use mathlib.Core.Path.{◌≡◌, refl, sym, ap, ◌∙◌}
use Prim.Native.Nat.{ℕ}
use mathlib.Core.List.{List}
use Rattle.octets.specs.If.{ifb}
use Rattle.table.specs.declared.Record.{Record}
use Rattle.table.specs.Layout.{Table, Place}
use Rattle.table.specs.Records.{place_at}
use Rattle.search.specs.Search.{find}
use Rattle.search.proofs.Finds.{find_below}
use Rattle.rules.specs.declared.Reason.TheVariants.{OperationNotSupported, InvalidField, ObjectNotFound}
use Rattle.rules.specs.declared.Attributes.{Attributes}
use Rattle.rules.specs.Numbers.{activate, revoke, destroy}
use Rattle.rules.specs.States.{move_tests}
use Rattle.target_read.specs.declared.Target.{Target}
use Rattle.names.specs.declared.Name.{Name}
use Rattle.locate.specs.Locate.{locating}
use Rattle.locate.proofs.Meets.{locate_meets}
use Rattle.payload.specs.declared.Command.{Command}
use Rattle.payload.specs.declared.Command.TheVariants.{Unsupported, Invalid, Create, Rekey, GetUsageAllocation, Activate, Revoke, Destroy, GetAttributes, Get, Locate}
use Rattle.plans.specs.declared.Performed.{Performed}
use Rattle.deeds.specs.declared.Deed.{Deed}
use Rattle.deeds.specs.declared.Deed.TheVariants.{Replace, Allocate, Move, Show, Give}
use Rattle.plans.specs.Plans.{Did, Plan, empty_holder, carried_out, create_plan, activate_plan, revoke_plan, destroy_plan, in_places, leaves, failed}
use Rattle.act.specs.Act.{sought, on_found, plan, performing}
use Rattle.deeds.specs.Deeds.{move_plan, deed_plan}
use Rattle.act.specs.Perform.{about_plan}
use Rattle.plans.proofs.Plans.{fails, goes_further, refused}

-- ---- the record that an item is about

module _ (n holder : ℕ) (t : List ℕ) (target : Target) (serial : ℕ) (named : serial ≡ sought holder target) (found : Option ℕ) (is : found ≡ find n t serial) where
  found_is : found ≡ find n t (sought holder target)
  found_is = is ∙ ap (find n t) named

  pub about_place : (i : ℕ) → found ≡ Some i → Table n t → Place n t i
  about_place i at sized = record { sized = sized; below = find_below n t (sought holder target) i (sym found_is ∙ at) }

  module _ (fresh : List ℕ) (deed : Deed) where
    abbrev about : Option ℕ → Did
    about f = carried_out t (on_found (in_places n fresh) holder t (deed_plan (in_places n fresh) holder t deed) f)

    pub about_found : (i : ℕ) → found ≡ Some i → (done : Did) → done ≡ carried_out t (deed_plan (in_places n fresh) holder t deed i (place_at n t i))
        → done ≡ carried_out t (about_plan (in_places n fresh) holder t deed target)
    unfolding on_found
    about_found i at done e = e ∙ sym (ap about (sym found_is ∙ at))

    pub about_none : found ≡ None → (r : Performed) → r ≡ failed ObjectNotFound → leaves r t ≡ carried_out t (about_plan (in_places n fresh) holder t deed target)
    unfolding on_found
    about_none nowhere r e = fails t e ∙ sym (ap about (sym found_is ∙ nowhere) ∙ refused t ObjectNotFound)

-- ---- commands

-- plans of which each leaves what the other leaves, on whatever record they are
same_found : (n : ℕ) (fresh : List ℕ) (holder : ℕ) (t : List ℕ) (own other : ℕ → Record → Plan) → ((i : ℕ) (r : Record) → carried_out t (own i r) ≡ carried_out t (other i r)) → (f : Option ℕ)
    → carried_out t (on_found (in_places n fresh) holder t own f) ≡ carried_out t (on_found (in_places n fresh) holder t other f)
unfolding on_found
same_found n fresh holder t own other h (Some i) = h i (place_at n t i)
same_found n fresh holder t own other h None = refl

module _ (n : ℕ) (fresh : List ℕ) (holder : ℕ) (t : List ℕ) (command : Command) where
  -- what is left where the command is this one
  abbrev performed : Command → Did
  performed x = performing n fresh holder t x

  abbrev meets : Deed → Target → Did
  meets deed target = carried_out t (about_plan (in_places n fresh) holder t deed target)

  module _ (r : Performed) where
    pub performs_unsupported : command ≡ Unsupported → r ≡ failed OperationNotSupported → leaves r t ≡ performed command
    unfolding performing plan
    performs_unsupported c e = fails t e ∙ sym (ap performed c ∙ refused t OperationNotSupported)

    pub performs_invalid : command ≡ Invalid → r ≡ failed InvalidField → leaves r t ≡ performed command
    unfolding performing plan
    performs_invalid c e = fails t e ∙ sym (ap performed c ∙ refused t InvalidField)

    pub performs_locate : (name : Name) → command ≡ Locate name → r ≡ locating n t name → leaves r t ≡ performed command
    unfolding performing plan
    performs_locate name c e = locate_meets n fresh t holder name r e ∙ sym (ap performed c)

  module _ (done : Did) where
    pub performs_create : (wanted : Attributes) → command ≡ Create wanted → done ≡ carried_out t (create_plan (in_places n fresh) empty_holder t wanted) → done ≡ performed command
    unfolding performing plan create_plan
    performs_create wanted c e = e ∙ sym (ap performed c)

    module _ (target : Target) where
      pub performs_rekey : (offset : Option ℕ) → command ≡ Rekey target offset → done ≡ meets (Replace offset) target → done ≡ performed command
      unfolding performing plan deed_plan
      performs_rekey offset c e = e ∙ sym (ap performed c)

      pub performs_allocation : (amount : ℕ) → command ≡ GetUsageAllocation target amount → done ≡ meets (Allocate amount) target → done ≡ performed command
      unfolding performing plan deed_plan
      performs_allocation amount c e = e ∙ sym (ap performed c)

      pub performs_activate : command ≡ Activate target → done ≡ meets (Move activate 0) target → done ≡ performed command
      unfolding performing plan deed_plan move_plan activate_plan move_tests ifb
      performs_activate c e = e ∙ sym (ap performed c)

      pub performs_revoke : (code : ℕ) → command ≡ Revoke target code → done ≡ meets (Move revoke code) target → done ≡ performed command
      unfolding performing plan deed_plan move_plan revoke_plan move_tests ifb
      performs_revoke code c e =
          e
          ∙ same_found n fresh holder t (move_plan n holder t revoke code) (revoke_plan (in_places n fresh) holder t code) (λ i r. goes_further t _ _ _ refl) (find n t (sought holder target))
          ∙ sym (ap performed c)

      pub performs_destroy : command ≡ Destroy target → done ≡ meets (Move destroy 0) target → done ≡ performed command
      unfolding performing plan deed_plan move_plan destroy_plan move_tests ifb
      performs_destroy c e =
          e
          ∙ same_found n fresh holder t (move_plan n holder t destroy 0) (destroy_plan (in_places n fresh) holder t) (λ i r. goes_further t _ _ _ refl) (find n t (sought holder target))
          ∙ sym (ap performed c)

      pub performs_show : command ≡ GetAttributes target → done ≡ meets Show target → done ≡ performed command
      unfolding performing plan deed_plan
      performs_show c e = e ∙ sym (ap performed c)

      pub performs_get : command ≡ Get target → done ≡ meets Give target → done ≡ performed command
      unfolding performing plan deed_plan
      performs_get c e = e ∙ sym (ap performed c)
