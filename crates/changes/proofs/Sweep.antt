-- What the sweep leaves, place by place.
-- Assumes nothing.
use Prim.Native.Nat.{ℕ, zero, suc, ◌+◌, ◌-◌, ◌^◌, ◌≤◌, ◌<◌}
use native.Mathlib.Omega.{arith}
use mathlib.Core.Path.{◌≡◌, refl, sym, ap, subst, ◌∙◌}
use mathlib.Core.Logic.{◌⊎◌, inl, inr, ⊎_elim}
use mathlib.Core.Bool.{Bool, true, false, not, ◌&&◌}
use mathlib.Core.List.{List}
use lib.ListN.{length}
use lib.Dec.{eqb}
use borrow.Author.Tests.{eqb-true, not-false}
use Rattle.octets.specs.If.{ifb}
use Rattle.octets.proofs.If.{on_if, on_bool}
use Rattle.table.specs.declared.Record.{Record}
use Rattle.table.specs.Layout.{size_of}
use Rattle.table.specs.Records.{place_at, is_free, last_serial, latest_clock, with_clock}
use Rattle.table.proofs.Lines.{InRange}
use Rattle.table.proofs.Places.{length_with, place_same, place_other}
use Rattle.table.proofs.Lead.{last_with, latest_with, length_clock}
use Rattle.rules.specs.Numbers.{active, deactivated}
use Rattle.date_rules.specs.Dates.{started_state, stopped_state, dated_state}
use Rattle.date_rules.proofs.Dating.{still, starts, stops, passes, dating}
use Rattle.changes.specs.Records.{in_state}
use Rattle.changes.specs.Dates.{state_by, ripened, is_ripe, ripe_at, ripe_from, began}

-- dates leave a state, or make it Active or Deactivated
pub dated_cases_lem : (c a d s : ℕ) → (dated_state c a d s ≡ s) ⊎ ((dated_state c a d s ≡ active) ⊎ (dated_state c a d s ≡ deactivated))
dated_cases_lem c a d s = elim (dating c a d s) [
  | still x y e ↦ inl e
  | starts x y z e ↦ inr (inl e)
  | stops x y e ↦ inr (inr e)
  | passes x y z e ↦ inr (inr e)
]

pub ripe_range : (clock : ℕ) (r : Record) → InRange r → InRange (ripened clock r)
unfolding ripened in_state
ripe_range clock r g = record {
  serial = g.serial;
  state = ⊎_elim (λ e. subst (λ (x : ℕ). x < 256 ^ 1) (sym e) g.state) (⊎_elim (λ e. omega arith) (λ e. omega arith)) (dated_cases_lem clock r.activation r.deactivation r.state);
  unit = g.unit;
  bits = g.bits;
  replaced = g.replaced;
  replacement = g.replacement;
  total = g.total;
  count = g.count;
  mask = g.mask;
  long = g.long;
  bytes = g.bytes;
  activation = g.activation;
  deactivation = g.deactivation;
  name = g.name;
}

-- a record whose state stays is the same record
pub ripe_same : (clock : ℕ) (r : Record) → state_by clock r ≡ r.state → ripened clock r ≡ r
unfolding ripened in_state
ripe_same clock r e = ap (λ (s : ℕ). in_state s r.material r) e

-- ---- what is left of a sweep that has come to i

abbrev pub left : ℕ → ℕ → ℕ → List ℕ → List ℕ
left n clock i t = ripe_from n clock i (n - i) t

module _ (n clock : ℕ) (t : List ℕ) where
  pub left_end : (i : ℕ) → n ≤ i → left n clock i t ≡ t
  unfolding ripe_from
  left_end i h = let e : n - i ≡ 0 = omega arith in rw e

  pub left_more : (i : ℕ) → i < n → left n clock (i + 1) (ripe_at n clock t i) ≡ left n clock i t
  unfolding ripe_from
  left_more i h =
      let m : n - i ≡ suc (n - (i + 1)) = omega arith in
      let f : i + 1 ≡ suc i = omega arith in
      sym (ap (λ (k : ℕ). ripe_from n clock i k t) m ∙ ap (λ (k : ℕ). ripe_from n clock k (n - (i + 1)) (ripe_at n clock t i)) (sym f))

-- ---- one place

-- what keeps the lead and all other places
pub record Touched (n clock : ℕ) (t u : List ℕ) (i : ℕ) : Type 0 where
  pub size : length u ≡ length t
  pub issued : last_serial u ≡ last_serial t
  pub latest : latest_clock u ≡ latest_clock t
  pub here : place_at n u i ≡ ripened clock (place_at n t i)
  pub others : (j : ℕ) → j < n → (j ≡ i → ⊥) → place_at n u j ≡ place_at n t j

module _ (n clock : ℕ) (t : List ℕ) (i : ℕ) (big : length t ≡ size_of n) (lo : i < n) (g : InRange (place_at n t i)) (free : is_free t i ≡ true → (place_at n t i).state ≡ 0) where
  unmoved : is_ripe n clock t i ≡ false → state_by clock (place_at n t i) ≡ (place_at n t i).state
  unfolding is_ripe dated_state stopped_state started_state
  unmoved e = on_bool (is_free t i)
      (λ f. let z : (place_at n t i).state ≡ 0 = free f in rw z (unfold ifb in refl))
      (λ f. eqb-true _ _ (not-false _ (sym (ap (λ (b : Bool). not b && not (eqb (state_by clock (place_at n t i)) (place_at n t i).state)) f) ∙ e)))

  pub touched : Touched n clock t (ripe_at n clock t i) i
  unfolding ripe_at
  touched =
      on_if (λ (u : List ℕ). Touched n clock t u i)
      (λ e. record {
        size = length_with n t i (ripened clock (place_at n t i));
        issued = last_with n t i _ big lo (ripe_range clock _ g).long;
        latest = latest_with n t i _ big lo (ripe_range clock _ g).long;
        here = place_same n t i _ big lo (ripe_range clock _ g);
        others = λ j l ne. place_other n t i _ big lo (ripe_range clock _ g).long j l ne;
      })
      (λ e. record { size = refl; issued = refl; latest = refl; here = sym (ripe_same clock _ (unmoved e)); others = λ j l ne. refl })

-- ---- the size

pub length_from : (n clock i k : ℕ) (t : List ℕ) → length (ripe_from n clock i k t) ≡ length t
unfolding ripe_from ripe_at
length_from n clock i zero t = refl
length_from n clock i (suc k) t = length_from n clock (suc i) k (ripe_at n clock t i) ∙ on_if (λ (u : List ℕ). length u ≡ length t) (λ e. length_with n t i _) (λ e. refl)

pub length_began : (n clock : ℕ) (t : List ℕ) → length (began n clock t) ≡ length t
unfolding began
length_began n clock t = length_from n clock 0 n (with_clock t clock) ∙ length_clock t clock
