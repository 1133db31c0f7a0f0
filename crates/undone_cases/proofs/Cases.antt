-- The cases of L8, as one claim, by computation.
-- Assumes nothing.
use mathlib.Core.Path.{◌≡◌, refl}
use mathlib.Core.Bool.{true}
use Rattle.cases.specs.Cards.{all_hold}
use Rattle.cases.proofs.Cases.{opened}
use Rattle.undone_cases.specs.Cards.{undo_request, undone_response, begun_table, used_buffer, undone, pass_request, passed_response, last_left, first_left, issued_again, buffer_untouched, wrong_size, undone_cases}

-- the definitions that these cases compute with: who opens this opens them all
unfoldable pub undone_opened : Unit {0}
unfolding opened undo_request undone_response begun_table used_buffer undone pass_request passed_response last_left first_left issued_again buffer_untouched wrong_size undone_cases
undone_opened = tt

-- each case by itself, so that a check holds the calls of one at a time
is_undone_lem : undone ≡ true
unfolding undone_opened
is_undone_lem = refl

issued_again_lem : issued_again ≡ true
unfolding undone_opened
issued_again_lem = refl

buffer_untouched_lem : buffer_untouched ≡ true
unfolding undone_opened
buffer_untouched_lem = refl

wrong_size_lem : wrong_size ≡ true
unfolding undone_opened
wrong_size_lem = refl

-- every case of the list holds
pub undone_cases_lem : all_hold undone_cases ≡ true
unfolding undone_cases all_hold
undone_cases_lem = rw (is_undone_lem, issued_again_lem, buffer_untouched_lem, wrong_size_lem)
