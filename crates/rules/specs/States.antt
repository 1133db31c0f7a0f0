-- 01, "Operations": the transitions of Activate, Revoke and Destroy, and what a grant leaves.
-- Assumes nothing.
use Rattle.std.specs.Prelude.{Result}
use Rattle.std.specs.Prelude.{Ok, Err}
use Rattle.std.specs.Prelude.{ℕ, ◌-◌, Bool, true, not, ◌&&◌, ◌||◌, List, [], ◌∷◌, leb, ltb, eqb}
use Rattle.std.specs.Prelude.{Option, None, Some}
use Rattle.octets.specs.If.{ifb}
use Rattle.search.specs.Search.{is_destroyed}
use Rattle.rules.specs.declared.Reason.{Reason}
use Rattle.rules.specs.declared.Reason.TheVariants.{InvalidField, ObjectDestroyed, WrongKeyLifecycleState, UsageLimitExceeded}
use Rattle.rules.specs.Numbers.{activate, revoke, destroy, pre_active, active, deactivated, compromised, destroyed, destroyed_compromised}
use Rattle.rules.specs.Tests.{Test, ◌⇒◌, due}

-- "Revocation Reason { Code 1 to 7 }"
abbrev pub code_ok : ℕ → Bool
code_ok code = leb 1 code && leb code 7

-- "Codes 2 and 3 are compromise"
abbrev pub is_compromise : ℕ → Bool
is_compromise code = eqb code 2 || eqb code 3

-- ---- which states an operation moves

-- "states 1, 2 and 3 become 4, and 5 becomes 6. The others: 2 to 3"
unfoldable pub can_revoke : ℕ → ℕ → Bool
can_revoke code state =
    ifb (is_compromise code)
    (eqb state pre_active || eqb state active || eqb state deactivated || eqb state destroyed)
    (eqb state active)

-- "states 1 and 3 become 5, 4 becomes 6"
unfoldable pub can_destroy : ℕ → Bool
can_destroy state = eqb state pre_active || eqb state deactivated || eqb state compromised

-- "Pre-Active to Active, else Wrong Key Lifecycle State"
unfoldable pub activate_tests : ℕ → List Test
activate_tests state = not (eqb state pre_active) ⇒ WrongKeyLifecycleState ∷ []

-- "Else Wrong Key Lifecycle State"
unfoldable pub revoke_tests : ℕ → ℕ → List Test
revoke_tests code state = not (can_revoke code state) ⇒ WrongKeyLifecycleState ∷ []

-- "2: Wrong Key Lifecycle State. 5, 6: Object Destroyed"
unfoldable pub destroy_tests : ℕ → List Test
destroy_tests state = is_destroyed state ⇒ ObjectDestroyed ∷ not (can_destroy state) ⇒ WrongKeyLifecycleState ∷ []

-- the tests of an operation, which may be one that moves no state
unfoldable pub move_tests : ℕ → ℕ → ℕ → List Test
move_tests operation code state =
    ifb (eqb operation activate) (activate_tests state)
    (ifb (eqb operation revoke) (revoke_tests code state)
    (ifb (eqb operation destroy) (destroy_tests state)
    (true ⇒ WrongKeyLifecycleState ∷ [])))

-- ---- where they move them

unfoldable pub revoked_state : ℕ → ℕ → ℕ
revoked_state code state = ifb (is_compromise code) (ifb (eqb state destroyed) destroyed_compromised compromised) deactivated

unfoldable pub destroyed_state : ℕ → ℕ
destroyed_state state = ifb (eqb state compromised) destroyed_compromised destroyed

unfoldable pub moved_state : ℕ → ℕ → ℕ → ℕ
moved_state operation code state =
    ifb (eqb operation activate) active
    (ifb (eqb operation revoke) (revoked_state code state)
    (destroyed_state state))

-- ---- both in one answer

-- the next state, unless a reason is due
unfoldable pub next_unless : ℕ → Option Reason → Result ℕ Reason
next_unless state None = Ok state
next_unless state (Some reason) = Err reason

-- what an operation with a revocation code makes of a state
unfoldable pub next_state : ℕ → ℕ → ℕ → Result ℕ Reason
next_state operation code state = next_unless (moved_state operation code state) (due (move_tests operation code state))

-- ---- grants

-- "Not Active: Wrong Key Lifecycle State. No limit: Invalid Field. More than the count: Usage Limit Exceeded"
unfoldable pub grant_tests : ℕ → ℕ → ℕ → ℕ → List Test
grant_tests state unit count amount =
    not (eqb state active) ⇒ WrongKeyLifecycleState
    ∷ eqb unit 0 ⇒ InvalidField
    ∷ ltb count amount ⇒ UsageLimitExceeded
    ∷ []

-- what is left, unless a reason is due
unfoldable pub left_unless : ℕ → Option Reason → Result ℕ Reason
left_unless count None = Ok count
left_unless count (Some reason) = Err reason

-- "Takes it off": what a grant of an amount makes of a count
unfoldable pub granting : ℕ → ℕ → ℕ → ℕ → Result ℕ Reason
granting state unit count amount = left_unless (count - amount) (due (grant_tests state unit count amount))
