-- What `next_state` and `grant` answer, in the papers' numbers: the value where no reason is due, else the number of the first reason.
-- Assumes nothing.
use mathlib.Core.Path.{◌≡◌, refl}
use Prim.Native.Nat.{ℕ, ◌-◌}
use Rattle.std.specs.Prelude.{Option, None, Some}
use mathlib.Core.List.{List, [], ◌∷◌}
use Rattle.octets.specs.If.{ifb}
use Rattle.rules.specs.declared.Reason.{Reason}
use Rattle.rules.specs.Numbers.{activate, revoke, destroy}
use Rattle.rules.specs.Tests.{due}
use Rattle.rules.specs.States.{can_revoke, can_destroy, activate_tests, revoke_tests, destroy_tests, move_tests, revoked_state, destroyed_state, moved_state, next_unless, next_state, grant_tests, left_unless, granting}
use Rattle.rules.specs.Said.{Said, says, next_says, grant_says, says_unless}

pub next_says_lem : (operation code state : ℕ) → next_says (next_state operation code state) ≡ says_unless (moved_state operation code state) (due (move_tests operation code state))
unfolding next_state next_unless next_says says_unless
next_says_lem operation code state = go (due (move_tests operation code state))
  where
    go : (reason : Option Reason) → next_says (next_unless (moved_state operation code state) reason) ≡ says_unless (moved_state operation code state) reason
    go None = refl
    go (Some reason) = refl

pub grant_says_lem : (state unit count amount : ℕ) → grant_says (granting state unit count amount) ≡ says_unless (count - amount) (due (grant_tests state unit count amount))
unfolding granting left_unless grant_says says_unless
grant_says_lem state unit count amount = go (due (grant_tests state unit count amount))
  where
    go : (reason : Option Reason) → grant_says (left_unless (count - amount) reason) ≡ says_unless (count - amount) reason
    go None = refl
    go (Some reason) = refl

-- ---- worked, with the numbers of the papers

abbrev failed : ℕ → Said
failed number = record { status = 1; number = number }

moves : List Said
moves = next_says (next_state activate 0 1) ∷ next_says (next_state revoke 2 5) ∷ next_says (next_state revoke 5 1) ∷ next_says (next_state destroy 0 2) ∷ next_says (next_state destroy 0 6) ∷ []

moves_say : moves ≡ says 2 ∷ says 6 ∷ failed 0x43 ∷ failed 0x43 ∷ failed 0x36 ∷ []
unfolding moves ifb due can_revoke can_destroy activate_tests revoke_tests destroy_tests move_tests revoked_state destroyed_state moved_state next_unless next_state next_says
moves_say = refl

grants : List Said
grants = grant_says (granting 2 1 100 60) ∷ grant_says (granting 2 1 100 101) ∷ grant_says (granting 2 0 0 1) ∷ grant_says (granting 3 1 100 1) ∷ []

grants_say : grants ≡ says 40 ∷ failed 0x1A ∷ failed 0x07 ∷ failed 0x43 ∷ []
unfolding grants ifb due grant_tests left_unless granting grant_says
grants_say = refl
