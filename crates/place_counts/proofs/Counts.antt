-- A table of either count as plain facts, from the check and back.
-- Assumes nothing.
use Prim.Native.Nat.{ℕ, ◌^◌, ◌<◌}
use native.Mathlib.Omega.{arith}
use mathlib.Core.Path.{◌≡◌, refl, sym, ap, subst, ◌∙◌}
use mathlib.Core.Bool.{Bool, true, false, ◌&&◌, ◌||◌}
use mathlib.Core.List.{List}
use lib.ListN.{length}
use lib.Dec.{eqb}
use borrow.Author.Tests.{eqb-true}
use Rattle.octets.proofs.Bools.{and_l, and_r, and_i, no_unless}
use Rattle.table.specs.Layout.{lead_size, small_count, large_count, places_ok}
use Rattle.table.specs.Records.{places_said, blank}
use Rattle.soundness.specs.Sound.{sound}
use Rattle.soundness.proofs.SoundIs.{sound_is}
use Rattle.soundness.proofs.Blank.{blank_sound}
use Rattle.place_counts.specs.Counts.{table_right}

-- ---- the counts

-- what holds of both counts holds of any count that there is
pub either_count : (P : ℕ → Type 0) → P small_count → P large_count → (n : ℕ) → places_ok n ≡ true → P n
either_count P small large n ok = go (eqb n small_count) refl ok
  where
    go : (b : Bool) → eqb n small_count ≡ b → (b || eqb n large_count) ≡ true → P n
    go true e h = subst P (sym (eqb-true n small_count e)) small
    go false e h = subst P (sym (eqb-true n large_count h)) large

-- a count fits its field
pub count_fits : (n : ℕ) → places_ok n ≡ true → n < 256 ^ 4
count_fits = either_count (λ (n : ℕ). n < 256 ^ 4) (omega arith) (omega arith)

-- ---- the table

module _ (t : List ℕ) where
  -- what is not refused says a count that there is, and is sound for it
  pub right_count : table_right t ≡ true → places_ok (places_said t) ≡ true
  unfolding table_right
  right_count e = and_l (places_ok (places_said t)) (sound (places_said t) t) e

  pub right_sound : table_right t ≡ true → sound (places_said t) t ≡ true
  unfolding table_right
  right_sound e = and_r (places_ok (places_said t)) (sound (places_said t) t) e

  -- a sound table of a count that there is is not refused
  pub right_of : (n : ℕ) → places_ok n ≡ true → sound n t ≡ true → table_right t ≡ true
  unfolding table_right
  right_of n ok s =
      let said : places_said t ≡ n = (sound_is n t s).count in
      and_i (places_ok (places_said t)) (sound (places_said t) t) (ap places_ok said ∙ ok) (ap (λ (k : ℕ). sound k t) said ∙ s)

  -- where the count is one that there is, soundness for it decides
  pub sound_decides : places_ok (places_said t) ≡ true → table_right t ≡ sound (places_said t) t
  unfolding table_right
  sound_decides ok = ap (λ (b : Bool). b && sound (places_said t) t) ok

  -- too short for a lead
  pub short_wrong : length t < lead_size → table_right t ≡ false
  short_wrong few = no_unless _ (λ e. let size = (sound_is (places_said t) t (right_sound e)).size in omega arith)

  -- a count that there is not
  pub other_wrong : places_ok (places_said t) ≡ false → table_right t ≡ false
  unfolding table_right
  other_wrong e = ap (λ (b : Bool). b && sound (places_said t) t) e

-- a blank table of either count is right
pub blank_right : (n : ℕ) → places_ok n ≡ true → table_right (blank n) ≡ true
blank_right n ok = right_of (blank n) n ok (blank_sound n (count_fits n ok))
