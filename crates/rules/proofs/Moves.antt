-- The transitions as a list of cases: an operation moves a record exactly by one of them.
-- Assumes nothing.
use Rattle.std.specs.Prelude.{Result, Ok, Err}
use mathlib.Core.Path.{◌≡◌, sym, ap, ◌∙◌}
use Prim.Native.Nat.{ℕ, ◌≤◌}
use native.Mathlib.Omega.{arith}
use native.Mathlib.Decide.{dec_le}
use mathlib.Core.Bool.{true, false, false≢true}
use mathlib.Core.Logic.{◌⊎◌, inl, inr}
use lib.Dec.{eqb}
use borrow.Author.Tests.{eqb-true, eqb-false}
use Rattle.octets.proofs.If.{on_bool}
use Rattle.search.specs.Search.{is_destroyed}
use Rattle.rules.specs.declared.Reason.{Reason}
use Rattle.rules.specs.Numbers.{activate, revoke, destroy, pre_active, active, deactivated, compromised, destroyed, destroyed_compromised}
use Rattle.rules.specs.States.{is_compromise, next_state}
use Rattle.rules.proofs.States as states

pub data Move (operation code state next : ℕ) : Type 0 where
  activates : operation ≡ activate → state ≡ pre_active → next ≡ active → Move operation code state next
  compromises : operation ≡ revoke → is_compromise code ≡ true → 1 ≤ state → state ≤ 3 → next ≡ compromised → Move operation code state next
  compromises_destroyed : operation ≡ revoke → is_compromise code ≡ true → state ≡ destroyed → next ≡ destroyed_compromised → Move operation code state next
  deactivates : operation ≡ revoke → is_compromise code ≡ false → state ≡ active → next ≡ deactivated → Move operation code state next
  destroys : operation ≡ destroy → (state ≡ pre_active) ⊎ (state ≡ deactivated) → next ≡ destroyed → Move operation code state next
  destroys_compromised : operation ≡ destroy → state ≡ compromised → next ≡ destroyed_compromised → Move operation code state next

-- each of them is a transition
pub moves : {operation code state next : ℕ} → Move operation code state next → next_state operation code state ≡ Ok next
moves {operation} {code} {state} (activates o s n) = states.activates operation code state o s ∙ ap Ok (sym n)
moves {operation} {code} {state} (compromises o c h k n) = states.compromises operation code state o c h k ∙ ap Ok (sym n)
moves {operation} {code} {state} (compromises_destroyed o c s n) = states.compromises_destroyed operation code state o c s ∙ ap Ok (sym n)
moves {operation} {code} {state} (deactivates o c s n) = states.deactivates operation code state o c s ∙ ap Ok (sym n)
moves {operation} {code} {state} (destroys o s n) = states.destroys operation code state o s ∙ ap Ok (sym n)
moves {operation} {code} {state} (destroys_compromised o s n) = states.destroys_compromised operation code state o s ∙ ap Ok (sym n)

-- ---- and there is no other

pub not_both : {A : Type 0} {f : Result ℕ Reason} {next : ℕ} {reason : Reason} → f ≡ Ok next → f ≡ Err reason → A
not_both p q = let z : ◌≡◌ {A = ℕ} 0 1 = cc in absurd (omega arith)

pub same_next : {f : Result ℕ Reason} {a b : ℕ} → f ≡ Ok a → f ≡ Ok b → b ≡ a
same_next p q = cc

-- a number is one of these, or none of them
by_number : {A : Type 0} (x k : ℕ) → (x ≡ k → A) → ((x ≡ k → ⊥) → A) → A
by_number x k f g = on_bool (eqb x k) (λ e. f (eqb-true x k e)) (λ e. g (eqb-false x k e))

module _ (operation code state next : ℕ) (is : next_state operation code state ≡ Ok next) where
  when_activate : operation ≡ activate → Move operation code state next
  when_activate o =
      by_number state pre_active
      (λ s. activates o s (same_next (states.activates operation code state o s) is))
      (λ s. not_both is (states.activates_not operation code state o s))

  when_compromise : operation ≡ revoke → is_compromise code ≡ true → Move operation code state next
  when_compromise o c =
      by_number state destroyed
      (λ s. compromises_destroyed o c s (same_next (states.compromises_destroyed operation code state o c s) is))
      (λ s. elim (dec_le 1 state) [
        | yes h ↦ elim (dec_le state 3) [
          | yes k ↦ compromises o c h k (same_next (states.compromises operation code state o c h k) is)
          | no k ↦ not_both is (states.compromises_not operation code state o c (omega arith) (omega arith) (omega arith) s)
        ]
        | no h ↦ not_both is (states.compromises_not operation code state o c (omega arith) (omega arith) (omega arith) s)
      ])

  when_revoke : operation ≡ revoke → is_compromise code ≡ false → Move operation code state next
  when_revoke o c =
      by_number state active
      (λ s. deactivates o c s (same_next (states.deactivates operation code state o c s) is))
      (λ s. not_both is (states.deactivates_not operation code state o c s))

  when_destroy : operation ≡ destroy → Move operation code state next
  when_destroy o =
      by_number state pre_active (λ s. destroys o (inl s) (same_next (states.destroys operation code state o (inl s)) is)) (λ a.
      by_number state deactivated (λ s. destroys o (inr s) (same_next (states.destroys operation code state o (inr s)) is)) (λ b.
      by_number state compromised (λ s. destroys_compromised o s (same_next (states.destroys_compromised operation code state o s) is)) (λ c.
      elim (dec_le 5 state) [
        | yes h ↦ elim (dec_le state 6) [
          | yes k ↦ not_both is (states.destroys_destroyed operation code state o h k)
          | no k ↦ not_both is (states.destroys_not operation code state o (omega arith) (omega arith) a b c)
        ]
        | no h ↦ not_both is (states.destroys_not operation code state o (omega arith) (omega arith) a b c)
      ])))

  pub move : Move operation code state next
  move =
      by_number operation activate when_activate (λ a.
      by_number operation revoke (λ o. on_bool (is_compromise code) (when_compromise o) (when_revoke o)) (λ b.
      by_number operation destroy when_destroy (λ c. not_both is (states.on_other operation code state a b c))))

-- ---- what a move leads to

module _ {operation code state next : ℕ} where
  pub next_range : Move operation code state next → (1 ≤ next) × (next ≤ 6)
  next_range (activates o s n) = (omega arith, omega arith)
  next_range (compromises o c h k n) = (omega arith, omega arith)
  next_range (compromises_destroyed o c s n) = (omega arith, omega arith)
  next_range (deactivates o c s n) = (omega arith, omega arith)
  next_range (destroys o s n) = (omega arith, omega arith)
  next_range (destroys_compromised o s n) = (omega arith, omega arith)

  -- what a move leaves destroyed, Destroy moved, or it was destroyed before
  pub destroyed_by_lem : Move operation code state next → is_destroyed next ≡ true → (operation ≡ destroy) ⊎ (is_destroyed state ≡ true)
  destroyed_by_lem (activates o s n) e = absurd (false≢true (rw n at e))
  destroyed_by_lem (compromises o c h k n) e = absurd (false≢true (rw n at e))
  destroyed_by_lem (compromises_destroyed o c s n) e = inr (rw s)
  destroyed_by_lem (deactivates o c s n) e = absurd (false≢true (rw n at e))
  destroyed_by_lem (destroys o s n) e = inl o
  destroyed_by_lem (destroys_compromised o s n) e = inl o
