-- That what is found stands in the table, and that Locate meets its plan.
-- Assumes nothing.
use Rattle.std.specs.Prelude.{Option, Some}
use mathlib.Core.Path.{◌≡◌, sym, ap, ◌∙◌}
use Prim.Native.Nat.{ℕ}
use native.Mathlib.Omega.{arith}
use mathlib.Core.List.{List}
use Rattle.names.specs.declared.Name.{Name}
use Rattle.table.specs.Layout.{Table, HasLine}
use Rattle.name_search.specs.Names.{find_name}
use Rattle.name_search.proofs.Finds.{found_name_below}
use Rattle.plans.specs.declared.Performed.{Performed}
use Rattle.plans.specs.Plans.{in_places, carried_out, leaves, locate_plan}
use Rattle.plans.proofs.Plans.{is_done}
use Rattle.locate.specs.Locate.{locating}

module _ (n : ℕ) (t : List ℕ) (name : Name) (found : Option ℕ) (is : found ≡ find_name n t name) where
  pub line_there : Table n t → (i : ℕ) → found ≡ Some i → HasLine t i
  line_there sized i at = let below = found_name_below n t name i (sym is ∙ at) in omega arith

-- what Locate answers is what its plan does
pub locate_meets : (n : ℕ) (fresh t : List ℕ) (holder : ℕ) (name : Name) (r : Performed) → r ≡ locating n t name → leaves r t ≡ carried_out t (locate_plan (in_places n fresh) holder t name)
unfolding locating locate_plan
locate_meets n fresh t holder name r e = ap (λ (p : Performed). leaves p t) e ∙ sym (is_done t _)
