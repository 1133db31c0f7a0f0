-- The dates of a replacement: what they are way by way, and that they are dates in order where the Offset is not wrong.
-- Assumes nothing.
use Rattle.std.specs.Prelude.{Option, None, Some}
use mathlib.Core.Path.{◌≡◌, refl, sym, ap, ◌∙◌}
use mathlib.Core.Logic.{◌⊎◌, inl, inr}
use Prim.Native.Nat.{ℕ, ◌+◌, ◌-◌, ◌^◌, ◌≤◌, ◌<◌}
use native.Mathlib.Omega.{arith}
use mathlib.Core.Bool.{Bool, true, false, not, ◌&&◌, ◌||◌}
use lib.Dec.{eqb}
use borrow.Author.Tests.{eq-eqb, ne_eqb, lt-ltb, le-ltb, ltb-true, not-false}
use Rattle.octets.proofs.If.{ifb_true, ifb_false, on_if, on_bool}
use Rattle.octets.proofs.Maybe.{not_some, some_is}
use Rattle.octets.proofs.Bools.{or_l, or_r, or_not_l, or_not_r}
use Rattle.values.specs.Values.{not_negative}
use Rattle.table.specs.declared.Record.{Record}
use Rattle.rules.specs.Numbers.{pre_active, active}
use Rattle.date_rules.specs.Dates.{dated_state}
use Rattle.date_rules.proofs.Dating.{still, starts, stops, passes, dating, come_by, not_come}
use Rattle.heirs.specs.declared.Dates.{Dates}
use Rattle.heirs.specs.Heirs.{heir_activation, heir_deactivation, offset_wrong, heir_dates}

-- two dates
abbrev pub dated : ℕ → ℕ → Option Dates
dated activation deactivation = Some (record { activation = activation; deactivation = deactivation })

-- ---- way by way

pub dates_copied : (clock : ℕ) (old : Record) {offset : Option ℕ} → offset ≡ None → dated old.activation old.deactivation ≡ heir_dates clock offset old
unfolding heir_dates offset_wrong heir_activation heir_deactivation
dates_copied clock old e = sym (ap (λ (o : Option ℕ). heir_dates clock o old) e ∙ ifb_false _ _ _ refl)

module _ (clock seconds : ℕ) (old : Record) where
  -- the three ways in which an Offset is wrong
  abbrev unstarted : Bool
  unstarted = eqb old.activation 0 && not (eqb old.deactivation 0)

  abbrev start_past : Bool
  start_past = not (not_negative (clock + seconds))

  abbrev end_past : Bool
  end_past = not (not_negative (heir_deactivation clock (Some seconds) old))

  abbrev moved : ℕ
  moved = clock + seconds + (old.deactivation - old.activation)

  not_set : old.deactivation ≡ 0 → heir_deactivation clock (Some seconds) old ≡ 0
  unfolding heir_deactivation
  not_set z = ifb_true _ _ _ (eq-eqb old.deactivation 0 z)

  is_set : (old.deactivation ≡ 0 → ⊥) → heir_deactivation clock (Some seconds) old ≡ moved
  unfolding heir_deactivation
  is_set s = ifb_false _ _ _ (ne_eqb old.deactivation 0 s)

  module _ {offset : Option ℕ} (e : offset ≡ Some seconds) where
    wrong : offset_wrong clock (Some seconds) old ≡ true → None ≡ heir_dates clock offset old
    unfolding heir_dates
    wrong h = sym (ap (λ (o : Option ℕ). heir_dates clock o old) e ∙ ifb_true _ _ _ h)

    pub wrong_unstarted : unstarted ≡ true → None ≡ heir_dates clock offset old
    unfolding offset_wrong
    wrong_unstarted h = wrong (or_l (unstarted || start_past) end_past (or_l unstarted start_past h))

    pub wrong_start : 2 ^ 63 ≤ clock + seconds → None ≡ heir_dates clock offset old
    unfolding offset_wrong
    wrong_start h = wrong (or_l (unstarted || start_past) end_past (or_r unstarted start_past (ap not (le-ltb (clock + seconds) (2 ^ 63) h))))

    pub wrong_end : (old.deactivation ≡ 0 → ⊥) → 2 ^ 63 ≤ moved → None ≡ heir_dates clock offset old
    unfolding offset_wrong
    wrong_end s h = wrong (or_r (unstarted || start_past) end_past (ap (λ (x : ℕ). not (not_negative x)) (is_set s) ∙ ap not (le-ltb moved (2 ^ 63) h)))

    module _ (there : unstarted ≡ false) (start : clock + seconds < 2 ^ 63) where
      right : {end : ℕ} → heir_deactivation clock (Some seconds) old ≡ end → end < 2 ^ 63 → dated (clock + seconds) end ≡ heir_dates clock offset old
      unfolding heir_dates offset_wrong heir_activation
      right {end} is h =
          let begins : start_past ≡ false = ap not (lt-ltb (clock + seconds) (2 ^ 63) start) in
          let ends : end_past ≡ false = ap (λ (x : ℕ). not (not_negative x)) is ∙ ap not (lt-ltb end (2 ^ 63) h) in
          ap (dated (clock + seconds)) (sym is)
          ∙ sym (ap (λ (o : Option ℕ). heir_dates clock o old) e ∙ ifb_false ((unstarted || start_past) || end_past) _ _ (rw (there, begins, ends)))

      pub right_unset : old.deactivation ≡ 0 → dated (clock + seconds) 0 ≡ heir_dates clock offset old
      right_unset z = right (not_set z) (omega arith)

      pub right_set : (old.deactivation ≡ 0 → ⊥) → moved < 2 ^ 63 → dated (clock + seconds) moved ≡ heir_dates clock offset old
      right_set s h = right (is_set s) h

-- ---- back: what the dates say of the Offset
pub wrong_offset : (clock : ℕ) (offset : Option ℕ) (old : Record) → heir_dates clock offset old ≡ None → offset_wrong clock offset old ≡ true
unfolding heir_dates
wrong_offset clock offset old e =
    on_bool (offset_wrong clock offset old)
    (λ y. y)
    (λ no. absurd (not_some (sym e ∙ ifb_false _ _ _ no)))

-- it is not wrong, and these are the dates
pub record RightOffset (clock : ℕ) (offset : Option ℕ) (old : Record) (activation deactivation : ℕ) : Type 0 where
  pub right : offset_wrong clock offset old ≡ false
  pub starts : activation ≡ heir_activation clock offset old
  pub ends : deactivation ≡ heir_deactivation clock offset old

pub right_offset : (clock : ℕ) (offset : Option ℕ) (old : Record) {dates : Dates} → heir_dates clock offset old ≡ Some dates → RightOffset clock offset old dates.activation dates.deactivation
unfolding heir_dates
right_offset clock offset old {dates} e =
    on_bool (offset_wrong clock offset old)
    (λ y. absurd (not_some (sym (ifb_true _ _ _ y) ∙ e)))
    (λ no. let q : dated (heir_activation clock offset old) (heir_deactivation clock offset old) ≡ Some dates = sym (ifb_false _ _ _ no) ∙ e in
    record { right = no; starts = ap (λ (d : Dates). d.activation) (sym (some_is q)); ends = ap (λ (d : Dates). d.deactivation) (sym (some_is q)) })

-- ---- the dates where the Offset is not wrong

module _ (clock : ℕ) (old : Record) where
  pub heir_activation_lem : (offset : Option ℕ) → offset_wrong clock offset old ≡ false → old.activation < 2 ^ 63 → heir_activation clock offset old < 2 ^ 63
  unfolding heir_activation offset_wrong
  heir_activation_lem None e a = a
  heir_activation_lem (Some seconds) e a =
      let begins = or_not_r (unstarted clock seconds old) (start_past clock seconds old) (or_not_l _ (end_past clock seconds old) e) in
      ltb-true (clock + seconds) (2 ^ 63) (not-false _ begins)

  pub heir_deactivation_lem : (offset : Option ℕ) → offset_wrong clock offset old ≡ false → old.deactivation < 2 ^ 63 → heir_deactivation clock offset old < 2 ^ 63
  unfolding offset_wrong
  heir_deactivation_lem None e d = unfold heir_deactivation in d
  heir_deactivation_lem (Some seconds) e d = ltb-true _ (2 ^ 63) (not-false _ (or_not_r (unstarted clock seconds old || start_past clock seconds old) (end_past clock seconds old) e))

  pub heir_order : (offset : Option ℕ) → (old.deactivation ≡ 0) ⊎ (old.activation ≤ old.deactivation)
      → (heir_deactivation clock offset old ≡ 0) ⊎ (heir_activation clock offset old ≤ heir_deactivation clock offset old)
  unfolding heir_activation heir_deactivation
  heir_order None order = order
  heir_order (Some seconds) order = on_if (λ (x : ℕ). (x ≡ 0) ⊎ (clock + seconds ≤ x)) (λ z. inl refl) (λ s. inr (omega arith))

-- ---- the state of a key by its dates, from Pre-Active on

module _ (clock activation deactivation : ℕ) where
  abbrev first : ℕ
  first = dated_state clock activation deactivation pre_active

  pub first_range : (1 ≤ first) × (first ≤ 3)
  first_range = elim (dating clock activation deactivation pre_active) [
    | still a d e ↦ (omega arith, omega arith)
    | starts s a d e ↦ (omega arith, omega arith)
    | stops s d e ↦ (omega arith, omega arith)
    | passes s a d e ↦ (omega arith, omega arith)
  ]

  -- an Active one has started
  pub first_started : first ≡ active → activation ≤ clock
  first_started e = elim (dating clock activation deactivation pre_active) [
    | still a d f ↦ absurd (omega arith)
    | starts s a d f ↦ come_by clock activation a
    | stops s d f ↦ absurd (omega arith)
    | passes s a d f ↦ absurd (omega arith)
  ]

  -- and has no deactivation date, or one that is still to come
  pub first_open : first ≡ active → (deactivation ≡ 0) ⊎ (clock < deactivation)
  first_open e = elim (dating clock activation deactivation pre_active) [
    | still a d f ↦ absurd (omega arith)
    | starts s a d f ↦ not_come clock deactivation d
    | stops s d f ↦ absurd (omega arith)
    | passes s a d f ↦ absurd (omega arith)
  ]
