-- The cases on a table of 256 places, as one claim, by computation.
-- Assumes nothing.
use mathlib.Core.Path.{◌≡◌, refl}
use mathlib.Core.Bool.{true}
use Rattle.act.specs.Act.{step}
use Rattle.cases.specs.Cards.{all_hold}
use Rattle.cases.proofs.Cases.{opened}
use Rattle.large_cases.specs.Cards.{lines_from, quarter_taken, items_of, created_on, became, around, born_behind, full_before, large_cases}

-- every case of the list holds
pub large_cases_lem : all_hold large_cases ≡ true
unfolding opened step lines_from quarter_taken items_of created_on became around born_behind full_before large_cases all_hold
large_cases_lem = refl
