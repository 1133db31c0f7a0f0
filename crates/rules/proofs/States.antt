-- Laws of the transitions: what each operation makes of each state.
-- Assumes nothing.
use Rattle.std.specs.Prelude.{Ok, Err}
use mathlib.Core.Path.{◌≡◌, ◌∙◌}
use Prim.Native.Nat.{ℕ, ◌+◌, ◌≤◌}
use mathlib.Core.Bool.{true, false}
use mathlib.Core.Logic.{◌⊎◌, inl, inr, ⊎_elim}
use native.Mathlib.Omega.{arith}
use native.Mathlib.Decide.{dec_le}
use borrow.Author.Tests.{ne_eqb}
use Rattle.octets.specs.If.{ifb}
use Rattle.rules.specs.declared.Reason.TheVariants.{ObjectDestroyed, WrongKeyLifecycleState}
use Rattle.rules.specs.Numbers.{activate, revoke, destroy, pre_active, active, deactivated, compromised, destroyed, destroyed_compromised}
use Rattle.rules.specs.Tests.{due}
use Rattle.rules.specs.States.{is_compromise, can_revoke, can_destroy, activate_tests, revoke_tests, destroy_tests, move_tests, revoked_state, destroyed_state, moved_state, next_unless, next_state}

-- ---- neighbours

pub two : (x k : ℕ) → k ≤ x → x ≤ k + 1 → (x ≡ k) ⊎ (x ≡ k + 1)
two x k h l = elim (dec_le x k) [ yes m ↦ inl (omega arith) | no m ↦ inr (omega arith) ]

pub three : (x k : ℕ) → k ≤ x → x ≤ k + 2 → (x ≡ k) ⊎ ((x ≡ k + 1) ⊎ (x ≡ k + 1 + 1))
three x k h l = elim (dec_le x k) [ yes m ↦ inl (omega arith) | no m ↦ inr (two x (k + 1) (omega arith) (omega arith)) ]

-- ---- the operation decides

module _ (operation code state : ℕ) where
  pub on_activate : operation ≡ activate → next_state operation code state ≡ next_unless active (due (activate_tests state))
  unfolding next_state moved_state move_tests ifb
  on_activate e = rw e

  pub on_revoke : operation ≡ revoke → next_state operation code state ≡ next_unless (revoked_state code state) (due (revoke_tests code state))
  unfolding next_state moved_state move_tests ifb
  on_revoke e = rw e

  pub on_destroy : operation ≡ destroy → next_state operation code state ≡ next_unless (destroyed_state state) (due (destroy_tests state))
  unfolding next_state moved_state move_tests ifb
  on_destroy e = rw e

  pub on_other : (operation ≡ activate → ⊥) → (operation ≡ revoke → ⊥) → (operation ≡ destroy → ⊥)
      → next_state operation code state ≡ Err WrongKeyLifecycleState
  unfolding next_state move_tests ifb due next_unless
  on_other a b c = rw (ne_eqb _ _ a, ne_eqb _ _ b, ne_eqb _ _ c)

-- ---- Activate

module _ (operation code state : ℕ) (is : operation ≡ activate) where
  pub activates : state ≡ pre_active → next_state operation code state ≡ Ok active
  unfolding activate_tests due ifb next_unless
  activates e = on_activate operation code state is ∙ rw e

  pub activates_not : (state ≡ pre_active → ⊥) → next_state operation code state ≡ Err WrongKeyLifecycleState
  unfolding activate_tests due ifb next_unless
  activates_not h = on_activate operation code state is ∙ rw (ne_eqb _ _ h)

-- ---- Revoke

pub is_compromise_lem : (code : ℕ) → 2 ≤ code → code ≤ 3 → is_compromise code ≡ true
is_compromise_lem code h k = ⊎_elim (λ e. rw e) (λ e. rw e) (two code 2 h k)

pub not_compromise : (code : ℕ) → (code ≡ 2 → ⊥) → (code ≡ 3 → ⊥) → is_compromise code ≡ false
not_compromise code h k = rw (ne_eqb _ _ h, ne_eqb _ _ k)

module _ (operation code state : ℕ) (is : operation ≡ revoke) (code_is : is_compromise code ≡ true) where
  pub compromises : 1 ≤ state → state ≤ 3 → next_state operation code state ≡ Ok compromised
  unfolding revoke_tests can_revoke revoked_state due ifb next_unless
  compromises h k = on_revoke operation code state is ∙ rw code_is (⊎_elim (λ e. rw e) (⊎_elim (λ e. rw e) (λ e. rw e)) (three state 1 h k))

  pub compromises_destroyed : state ≡ destroyed → next_state operation code state ≡ Ok destroyed_compromised
  unfolding revoke_tests can_revoke revoked_state due ifb next_unless
  compromises_destroyed e = on_revoke operation code state is ∙ rw (code_is, e)

  pub compromises_not : (state ≡ pre_active → ⊥) → (state ≡ active → ⊥) → (state ≡ deactivated → ⊥) → (state ≡ destroyed → ⊥)
      → next_state operation code state ≡ Err WrongKeyLifecycleState
  unfolding revoke_tests can_revoke revoked_state due ifb next_unless
  compromises_not a b c d = on_revoke operation code state is ∙ rw (code_is, ne_eqb _ _ a, ne_eqb _ _ b, ne_eqb _ _ c, ne_eqb _ _ d)

module _ (operation code state : ℕ) (is : operation ≡ revoke) (code_is : is_compromise code ≡ false) where
  pub deactivates : state ≡ active → next_state operation code state ≡ Ok deactivated
  unfolding revoke_tests can_revoke revoked_state due ifb next_unless
  deactivates e = on_revoke operation code state is ∙ rw (code_is, e)

  pub deactivates_not : (state ≡ active → ⊥) → next_state operation code state ≡ Err WrongKeyLifecycleState
  unfolding revoke_tests can_revoke revoked_state due ifb next_unless
  deactivates_not h = on_revoke operation code state is ∙ rw (code_is, ne_eqb _ _ h)

-- ---- Destroy

module _ (operation code state : ℕ) (is : operation ≡ destroy) where
  pub destroys : (state ≡ pre_active) ⊎ (state ≡ deactivated) → next_state operation code state ≡ Ok destroyed
  unfolding destroy_tests can_destroy destroyed_state due ifb next_unless
  destroys o = on_destroy operation code state is ∙ ⊎_elim (λ e. rw e) (λ e. rw e) o

  pub destroys_compromised : state ≡ compromised → next_state operation code state ≡ Ok destroyed_compromised
  unfolding destroy_tests can_destroy destroyed_state due ifb next_unless
  destroys_compromised e = on_destroy operation code state is ∙ rw e

  pub destroys_destroyed : 5 ≤ state → state ≤ 6 → next_state operation code state ≡ Err ObjectDestroyed
  unfolding destroy_tests can_destroy destroyed_state due ifb next_unless
  destroys_destroyed h k = on_destroy operation code state is ∙ ⊎_elim (λ e. rw e) (λ e. rw e) (two state 5 h k)

  pub destroys_not : (state ≡ destroyed → ⊥) → (state ≡ destroyed_compromised → ⊥) → (state ≡ pre_active → ⊥) → (state ≡ deactivated → ⊥) → (state ≡ compromised → ⊥)
      → next_state operation code state ≡ Err WrongKeyLifecycleState
  unfolding destroy_tests can_destroy destroyed_state due ifb next_unless
  destroys_not a b c d e = on_destroy operation code state is ∙ rw (ne_eqb _ _ a, ne_eqb _ _ b, ne_eqb _ _ c, ne_eqb _ _ d, ne_eqb _ _ e)
