-- What Locate answers. Nothing here has to be believed: `act` shows that it meets its plan.
-- Assumes nothing.
use Rattle.std.specs.Prelude.{ℕ, List}
use Rattle.names.specs.declared.Name.{Name}
use Rattle.name_search.specs.Names.{find_name}
use Rattle.plans.specs.declared.Outcome.TheVariants.{Located}
use Rattle.plans.specs.declared.Performed.{Performed}
use Rattle.plans.specs.Plans.{serial_found}

-- the serial of the record with the name, answered and held
unfoldable pub locating : ℕ → List ℕ → Name → Performed
locating n t name = let serial = serial_found t (find_name n t name) in record { outcome = Located serial; holder = serial }
