-- What the invariant of the log and the table says in the words of demand 3.
-- Assumes nothing.
use Prim.Native.Nat.{ℕ, ◌+◌, ◌<◌}
use mathlib.Core.Path.{◌≡◌, refl, sym, ap, subst, ◌∙◌}
use mathlib.Core.Bool.{Bool, true, false, true≢false}
use mathlib.Core.List.{List}
use lib.ListN.{length, replicate}
use lib.Dec.{eqb}
use borrow.Author.Tests.{eqb-true}
use Rattle.table.specs.Layout.{material_size}
use Rattle.table.specs.Records.{place_at, serial_at}
use Rattle.search.specs.Search.{is_destroyed}
use Rattle.table.proofs.Places.{serial_is, place_range}
use Rattle.table.proofs.Blank.{zero_place}
use Rattle.octets.proofs.Zeros.{pass_zeros}
use Rattle.soundness.proofs.SoundIs.{Empty}
use Rattle.keeps.proofs.Keeps.{Held, facts}
use Rattle.demands.specs.Log.{Event, issued, granted, limit}
use Rattle.demands.specs.Demand3.{Stands, InOrder}
use Rattle.demands_met.proofs.Logged.{Inv}
use Rattle.demands_met.proofs.Dead.{Dead}

-- a record that stands, as the invariant sees it
standing : {n : ℕ} (x : ℕ) (t : List ℕ) (i : ℕ) → Stands n x t i → (place_at n t i).serial ≡ x
standing {n} x t i s = sym (serial_is n t i) ∙ s.serial

balanced : {n : ℕ} (log : List Event) (t : List ℕ) → Inv n log t → (x i : ℕ) → (x ≡ 0 → ⊥) → (s : Stands n x t i)
    → (granted x log + (place_at n t i).count ≡ limit x log) × ((place_at n t i).total ≡ limit x log) × (issued x log ≡ 1)
balanced {n} log t inv x i z s =
    let e = standing x t i s in
    let b = inv.balanced i s.below (λ k. z (sym e ∙ k)) in (
      subst (λ (y : ℕ). granted y log + (place_at n t i).count ≡ limit y log) e b.count,
      subst (λ (y : ℕ). (place_at n t i).total ≡ limit y log) e b.total,
      subst (λ (y : ℕ). issued y log ≡ 1) e b.once,
    )

-- the material of a destroyed record
wiped_zero : {n : ℕ} (t : List ℕ) → Held n t → (i : ℕ) → i < n → is_destroyed (place_at n t i).state ≡ true → (place_at n t i).material ≡ replicate material_size 0
wiped_zero {n} t held i low d = go (eqb (serial_at t i) 0) refl
  where
    long : length (place_at n t i).material ≡ material_size
    long = (place_range n t i (facts n t held).size low held.bytes).long

    go : (b : Bool) → eqb (serial_at t i) 0 ≡ b → (place_at n t i).material ≡ replicate material_size 0
    go true e = ap (λ r. r.material) (zero_place n t i (facts n t held).size low free.line free.body)
      where
        free : Empty n t i
        free = (facts n t held).free i low (eqb-true (serial_at t i) 0 e)
    go false e =
        pass_zeros (place_at n t i).material (((facts n t held).fit i low (λ z. true≢false (sym (ap (λ (k : ℕ). eqb k 0) z) ∙ e))).wiped d)
        ∙ ap (λ (k : ℕ). replicate k 0) long

-- what the invariant says
pub inv_order : {n : ℕ} (log : List Event) (t : List ℕ) → Inv n log t → Dead n log t → InOrder n log t
inv_order log t inv d = record {
  balance = λ x i z s. (balanced log t inv x i z s).0;
  total = λ x i z s. (balanced log t inv x i z s).1;
  within = λ x z. inv.within x z;
  once = λ x z. inv.once x z;
  known = λ x i z s. (balanced log t inv x i z s).2;
  wiped = λ i low d. wiped_zero t inv.held i low d;
  destroyed = d.states;
  dead = d.silent;
  stays_sound = inv.held.right;
}
