-- 01's transitions written out and compared with what is computed: three operations, the codes 0 to 8, the states 0 to 7.
-- Assumes nothing.
use Rattle.std.specs.Prelude.{Result, Ok, Err}
use Rattle.rules.specs.declared.Reason.{Reason}
use mathlib.Core.Path.{◌≡◌, refl}
use Prim.Native.Nat.{ℕ}
use mathlib.Core.List.{List, [], ◌∷◌, ◌++◌, map}
use lib.ListN.{replicate}
use Rattle.octets.specs.If.{ifb}
use Rattle.rules.specs.declared.Reason.TheVariants.{ObjectDestroyed, WrongKeyLifecycleState}
use Rattle.rules.specs.Numbers.{activate, revoke, destroy}
use Rattle.rules.specs.Tests.{due}
use Rattle.rules.specs.States.{can_revoke, can_destroy, activate_tests, revoke_tests, destroy_tests, move_tests, revoked_state, destroyed_state, moved_state, next_unless, next_state}

abbrev states : List ℕ
states = 0 ∷ 1 ∷ 2 ∷ 3 ∷ 4 ∷ 5 ∷ 6 ∷ 7 ∷ []

abbrev codes : List ℕ
codes = states ++ (8 ∷ [])

abbrev wrong : Result ℕ Reason
wrong = Err WrongKeyLifecycleState

abbrev gone : Result ℕ Reason
gone = Err ObjectDestroyed

-- what becomes of the states 0 to 7

abbrev activated : List (Result ℕ Reason)
activated = wrong ∷ Ok 2 ∷ wrong ∷ wrong ∷ wrong ∷ wrong ∷ wrong ∷ wrong ∷ []

abbrev compromised : List (Result ℕ Reason)
compromised = wrong ∷ Ok 4 ∷ Ok 4 ∷ Ok 4 ∷ wrong ∷ Ok 6 ∷ wrong ∷ wrong ∷ []

abbrev revoked : List (Result ℕ Reason)
revoked = wrong ∷ wrong ∷ Ok 3 ∷ wrong ∷ wrong ∷ wrong ∷ wrong ∷ wrong ∷ []

abbrev destroyed : List (Result ℕ Reason)
destroyed = wrong ∷ Ok 5 ∷ wrong ∷ Ok 5 ∷ Ok 6 ∷ gone ∷ gone ∷ wrong ∷ []

-- a row for each code from 0 to 8

abbrev rows_of : ℕ → List (List (Result ℕ Reason))
rows_of operation = map (λ code. map (next_state operation code) states) codes

pub activate_rows : rows_of activate ≡ replicate 9 activated
unfolding next_state moved_state move_tests activate_tests due next_unless ifb
activate_rows = refl

pub revoke_rows : rows_of revoke ≡ revoked ∷ revoked ∷ compromised ∷ compromised ∷ revoked ∷ revoked ∷ revoked ∷ revoked ∷ revoked ∷ []
unfolding next_state moved_state move_tests revoke_tests can_revoke revoked_state due next_unless ifb
revoke_rows = refl

pub destroy_rows : rows_of destroy ≡ replicate 9 destroyed
unfolding next_state moved_state move_tests destroy_tests can_destroy destroyed_state due next_unless ifb
destroy_rows = refl
