-- What dates do to a state, as a list of cases.
-- Assumes nothing.
use mathlib.Core.Path.{◌≡◌, refl, sym, ap, ◌∙◌}
use mathlib.Core.Logic.{◌⊎◌, inl, inr}
use Prim.Native.Nat.{ℕ, ◌≤◌, ◌<◌}
use native.Mathlib.Omega.{arith}
use native.Mathlib.Decide.{ℕ_discrete}
use mathlib.Core.Bool.{true, false}
use lib.Dec.{leb, eqb}
use borrow.Author.Tests.{eq-eqb, ne_eqb, leb-true, leb-false}
use Rattle.octets.proofs.If.{ifb_true, ifb_false, on_bool}
use Rattle.octets.proofs.Bools.{and_r, and_i, and_no, and_second}
use Rattle.rules.specs.Numbers.{activate, pre_active, active, deactivated}
use Rattle.date_rules.specs.Dates.{has_come, started_state, stopped_state, dated_state, is_late}

-- ---- a date that has come, and one that has not

module _ (clock date : ℕ) where
  pub come_by : has_come clock date ≡ true → date ≤ clock
  come_by e = leb-true date clock (and_r (leb 1 date) (leb date clock) e)

  pub not_come : has_come clock date ≡ false → (date ≡ 0) ⊎ (clock < date)
  not_come e =
      on_bool (leb 1 date)
      (λ h. inr (leb-false date clock (sym (and_second (leb 1 date) (leb date clock) h) ∙ e)))
      (λ h. let z : date < 1 = leb-false 1 date h in inl (omega arith))

-- an Activate that is not late
pub not_late : (operation clock date : ℕ) → operation ≡ activate → is_late operation clock date ≡ false → (date ≡ 0) ⊎ (clock < date)
not_late operation clock date o e = not_come clock date (sym (and_second (eqb operation activate) (has_come clock date) (eq-eqb operation activate o)) ∙ e)

-- ---- the cases

-- by these dates and this clock a key goes from one state to the next
pub data Dating (clock activation deactivation state next : ℕ) : Type 0 where
  still : (state ≡ pre_active → has_come clock activation ≡ false) → (state ≡ active → has_come clock deactivation ≡ false) → next ≡ state
      → Dating clock activation deactivation state next
  starts : state ≡ pre_active → has_come clock activation ≡ true → has_come clock deactivation ≡ false → next ≡ active
      → Dating clock activation deactivation state next
  stops : state ≡ active → has_come clock deactivation ≡ true → next ≡ deactivated → Dating clock activation deactivation state next
  passes : state ≡ pre_active → has_come clock activation ≡ true → has_come clock deactivation ≡ true → next ≡ deactivated
      → Dating clock activation deactivation state next

module _ (clock activation deactivation state : ℕ) where
  starting : state ≡ pre_active → has_come clock activation ≡ true → started_state clock activation state ≡ active
  unfolding started_state
  starting s a = ifb_true _ _ _ (and_i (eqb state pre_active) _ (eq-eqb state pre_active s) a)

  staying : (state ≡ pre_active → has_come clock activation ≡ false) → started_state clock activation state ≡ state
  unfolding started_state
  staying h = elim (ℕ_discrete state pre_active) [
    | yes s ↦ ifb_false _ _ _ (and_second (eqb state pre_active) (has_come clock activation) (eq-eqb state pre_active s) ∙ h s)
    | no s ↦ ifb_false _ _ _ (and_no (eqb state pre_active) (has_come clock activation) (ne_eqb state pre_active s))
  ]

  stopping : state ≡ active → has_come clock deactivation ≡ true → stopped_state clock deactivation state ≡ deactivated
  unfolding stopped_state
  stopping s d = ifb_true _ _ _ (and_i (eqb state active) _ (eq-eqb state active s) d)

  going_on : (state ≡ active → has_come clock deactivation ≡ false) → stopped_state clock deactivation state ≡ state
  unfolding stopped_state
  going_on h = elim (ℕ_discrete state active) [
    | yes s ↦ ifb_false _ _ _ (and_second (eqb state active) (has_come clock deactivation) (eq-eqb state active s) ∙ h s)
    | no s ↦ ifb_false _ _ _ (and_no (eqb state active) (has_come clock deactivation) (ne_eqb state active s))
  ]

module _ (clock activation deactivation state : ℕ) where
  -- the key was Pre-Active and its activation date has come
  started : state ≡ pre_active → has_come clock activation ≡ true → Dating clock activation deactivation state (dated_state clock activation deactivation state)
  unfolding dated_state
  started s a =
      let now : started_state clock activation state ≡ active = starting clock activation deactivation state s a in
      on_bool (has_come clock deactivation)
      (λ d. passes s a d (ap (stopped_state clock deactivation) now ∙ stopping clock activation deactivation active refl d))
      (λ d. starts s a d (ap (stopped_state clock deactivation) now ∙ going_on clock activation deactivation active (λ e. d)))

  -- it was not, or its activation date has not come
  left : (state ≡ pre_active → has_come clock activation ≡ false) → Dating clock activation deactivation state (dated_state clock activation deactivation state)
  unfolding dated_state
  left a =
      let now : started_state clock activation state ≡ state = staying clock activation deactivation state a in
      elim (ℕ_discrete state active) [
        | yes s ↦ on_bool (has_come clock deactivation)
            (λ d. stops s d (ap (stopped_state clock deactivation) now ∙ stopping clock activation deactivation state s d))
            (λ d. still a (λ e. d) (ap (stopped_state clock deactivation) now ∙ going_on clock activation deactivation state (λ e. d)))
        | no s ↦ still a (λ e. absurd (s e)) (ap (stopped_state clock deactivation) now ∙ going_on clock activation deactivation state (λ e. absurd (s e)))
      ]

  pub dating : Dating clock activation deactivation state (dated_state clock activation deactivation state)
  dating = elim (ℕ_discrete state pre_active) [
    | yes s ↦ on_bool (has_come clock activation) (started s) (λ a. left (λ e. a))
    | no s ↦ left (λ e. absurd (s e))
  ]
