-- What each return of the functions of this crate leaves, from what the functions that it called answered.
-- Assumes nothing.
use Prim.Native.Nat.{ℕ, ◌+◌, ◌-◌, ◌≤◌, ◌<◌, max}
use native.Mathlib.Omega.{arith}
use mathlib.Core.Path.{◌≡◌, sym, ap, ◌∙◌}
use mathlib.Core.Bool.{Bool, true, false, not, ◌&&◌}
use mathlib.Core.List.{List}
use lib.Dec.{eqb, ltb}
use borrow.Author.Tests.{eq-eqb, ne_eqb, ltb-true, ltb-false, not-true, not-false}
use Rattle.octets.specs.If.{ifb}
use Rattle.octets.specs.Octets.{from_be, part}
use Rattle.octets.proofs.If.{ifb_true, ifb_false, on_if}
use Rattle.table.specs.declared.Record.{Record}
use Rattle.table.specs.Layout.{line_start, body_start, state_in, activation_in, deactivation_in}
use Rattle.table.specs.Records.{place_at, with_place, serial_at, latest_clock, with_clock}
use Rattle.table.proofs.Places.{place_fields}
use Rattle.date_rules.specs.Dates.{dated_state}
use Rattle.changes.specs.Records.{in_state}
use Rattle.changes.specs.Dates.{state_by, ripened, is_ripe, ripe_at, ripe_from, counted_clock, began}
use Rattle.changes.proofs.Sweep.{left}

-- ---- whether something is due at a place

module _ (n clock : ℕ) (t : List ℕ) (i serial : ℕ) (is : serial ≡ serial_at t i) where
  -- what is left to ask of a key that stands or not
  if_stands_lem : {b : Bool} → eqb (serial_at t i) 0 ≡ b → (not b && not (eqb (state_by clock (place_at n t i)) (place_at n t i).state)) ≡ is_ripe n clock t i
  unfolding is_ripe
  if_stands_lem e = sym (ap (λ (b : Bool). not b && not (eqb (state_by clock (place_at n t i)) (place_at n t i).state)) e)

  pub free_waits : serial ≡ 0 → false ≡ is_ripe n clock t i
  free_waits free = if_stands_lem (eq-eqb (serial_at t i) 0 (sym is ∙ free))

  pub key_waits : (serial ≡ 0 → ⊥) → {line body state activation deactivation after : ℕ} → line ≡ line_start i → body ≡ body_start n i
      → state ≡ from_be (part t (line + state_in) 1)
      → activation ≡ from_be (part t (body + activation_in) 8)
      → deactivation ≡ from_be (part t (body + deactivation_in) 8)
      → after ≡ dated_state clock activation deactivation state → not (eqb after state) ≡ is_ripe n clock t i
  key_waits stands {line} {body} {state} {activation} {deactivation} l b s a d e =
      let at_state : state ≡ (place_at n t i).state = s ∙ ap (λ (x : ℕ). from_be (part t (x + state_in) 1)) l ∙ ap (λ (r : Record). r.state) (place_fields n t i) in
      let at_start : activation ≡ (place_at n t i).activation = a ∙ ap (λ (x : ℕ). from_be (part t (x + activation_in) 8)) b ∙ ap (λ (r : Record). r.activation) (place_fields n t i) in
      let at_end : deactivation ≡ (place_at n t i).deactivation = d ∙ ap (λ (x : ℕ). from_be (part t (x + deactivation_in) 8)) b ∙ ap (λ (r : Record). r.deactivation) (place_fields n t i) in
      rw (e, at_state, at_start, at_end) (if_stands_lem (ne_eqb (serial_at t i) 0 (λ z. stands (is ∙ z))))

-- ---- one place

module _ (n clock : ℕ) (t : List ℕ) (i : ℕ) (ripe : Bool) (is : ripe ≡ is_ripe n clock t i) where
  pub leaves : not ripe ≡ true → t ≡ ripe_at n clock t i
  unfolding ripe_at
  leaves h = sym (ifb_false _ _ _ (sym is ∙ not-true _ h))

  pub ripens : not ripe ≡ false → (old : Record) → old ≡ place_at n t i → (state : ℕ) → state ≡ state_by clock old → (t' : List ℕ) → t' ≡ with_place n t i (in_state state old.material old) → t' ≡ ripe_at n clock t i
  unfolding ripe_at ripened
  ripens h old loaded state s t' e =
      e ∙ ap (λ (x : ℕ). with_place n t i (in_state x old.material old)) s ∙ ap (λ (r : Record). with_place n t i (ripened clock r)) loaded
      ∙ sym (ifb_true _ _ _ (sym is ∙ not-false _ h))

-- ---- all of them, at the clock that counts

-- what is left of a sweep that has not begun is the whole
pub left_start : (n clock : ℕ) (t : List ℕ) → left n clock 0 t ≡ ripe_from n clock 0 n t
left_start n clock t = let z : n - 0 ≡ n = omega arith in ap (λ (k : ℕ). ripe_from n clock 0 k t) z

later_is : (given latest : ℕ) → max given latest ≡ ifb (ltb given latest) latest given
later_is given latest =
    on_if (λ (x : ℕ). max given latest ≡ x)
    (λ e. let h : given < latest = ltb-true given latest e in omega arith)
    (λ e. let h : latest ≤ given = ltb-false given latest e in omega arith)

pub begins : (n given : ℕ) (t : List ℕ) (latest clock : ℕ) → latest ≡ latest_clock t → clock ≡ max given latest → (u : List ℕ) → u ≡ with_clock t clock
    → (t' : List ℕ) → t' ≡ ripe_from n clock 0 n u → (clock ≡ counted_clock given t) × (t' ≡ began n (counted_clock given t) t)
unfolding counted_clock began
begins n given t latest clock l c u s t' e =
    let counted : clock ≡ counted_clock given t = c ∙ later_is given latest ∙ ap (λ (x : ℕ). ifb (ltb given x) x given) l in
    (counted, e ∙ ap (ripe_from n clock 0 n) s ∙ ap (λ (x : ℕ). ripe_from n x 0 n (with_clock t x)) counted)
