-- The cases of L3 and L4, as one claim, by computation.
-- Assumes nothing.
use mathlib.Core.Path.{◌≡◌, refl}
use mathlib.Core.Bool.{true}
use Rattle.cases.specs.Cards.{all_hold}
use Rattle.cases.proofs.Cases.{opened}
use Rattle.dated_cases.specs.Cards.{dated_request, dated_response, made, show_request, shown_started, shown_stopped, dates_act, clocks_tried, copy_request, copy_response, offset_request, offset_response, far_request, far_response, replacements_dated, sum_too_large, dated_cases}

-- the definitions that these cases compute with: who opens this opens them all
unfoldable pub dated_opened : Unit {0}
unfolding opened dated_request dated_response made show_request shown_started shown_stopped dates_act clocks_tried copy_request copy_response offset_request offset_response far_request far_response replacements_dated sum_too_large dated_cases
dated_opened = tt

-- each case by itself, so that a check holds the calls of one at a time
dates_act_lem : dates_act ≡ true
unfolding dated_opened
dates_act_lem = refl

clocks_tried_lem : clocks_tried ≡ true
unfolding dated_opened
clocks_tried_lem = refl

replacements_dated_lem : replacements_dated ≡ true
unfolding dated_opened
replacements_dated_lem = refl

sum_too_large_lem : sum_too_large ≡ true
unfolding dated_opened
sum_too_large_lem = refl

-- every case of the list holds
pub dated_cases_lem : all_hold dated_cases ≡ true
unfolding dated_cases all_hold
dated_cases_lem = rw (dates_act_lem, clocks_tried_lem, replacements_dated_lem, sum_too_large_lem)
