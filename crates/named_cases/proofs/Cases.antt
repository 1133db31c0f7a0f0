-- The cases of L1, L6 and L9, as one claim, by computation.
-- Assumes nothing.
use mathlib.Core.Path.{◌≡◌, refl}
use mathlib.Core.Bool.{true}
use Rattle.cases.specs.Cards.{all_hold}
use Rattle.cases.proofs.Cases.{opened}
use Rattle.named_cases.specs.Cards.{name_request, name_response, names_left, name_moved, taken_request, taken_response, name_taken, key_request, key_response, keys_handed_out, named_cases}

-- the definitions that these cases compute with: who opens this opens them all
unfoldable pub named_opened : Unit {0}
unfolding opened name_request name_response names_left name_moved taken_request taken_response name_taken key_request key_response keys_handed_out named_cases
named_opened = tt

-- each case by itself, so that a check holds the calls of one at a time
name_moved_lem : name_moved ≡ true
unfolding named_opened
name_moved_lem = refl

name_taken_lem : name_taken ≡ true
unfolding named_opened
name_taken_lem = refl

keys_handed_out_lem : keys_handed_out ≡ true
unfolding named_opened
keys_handed_out_lem = refl

-- every case of the list holds
pub named_cases_lem : all_hold named_cases ≡ true
unfolding named_cases all_hold
named_cases_lem = rw (name_moved_lem, name_taken_lem, keys_handed_out_lem)
