-- What the converter takes: every sound old table of either kind, and nothing else. `age_is`, `converts_as`.
-- Assumes nothing but what each says.
use mathlib.Core.Path.{◌≡◌, refl, ap, ◌∙◌}
use Prim.Native.Nat.{ℕ}
use native.Mathlib.Omega.{arith}
use mathlib.Core.Bool.{Bool, true, false, ◌||◌}
use mathlib.Core.List.{List}
use lib.ListN.{length}
use borrow.Author.Tests.{eq-eqb, ne_eqb}
use Rattle.octets.proofs.Bools.{and_true, and_no, and_r, no_unless, not_both}
use Rattle.octets.proofs.If.{ifb_true, ifb_false}
use Rattle.table.specs.Layout.{size_of, small_count, Table}
use Rattle.convert.specs.Old.{Age, plain, dated, width, old_size_of, OldTable}
use Rattle.convert.specs.OldSound.{old_size_right, sound_old}
use Rattle.convert.specs.Convert.{converts, age_of}
use Rattle.convert.proofs.Sound.{unsized}

or_none_lem : (a b : Bool) → b ≡ false → (a || b) ≡ a
or_none_lem true b e = refl
or_none_lem false b e = e

module _ (old : List ℕ) where
  -- a table of another size is not sound
  pub other_size : (age : Age) → (OldTable (width age) small_count old → ⊥) → sound_old age small_count old ≡ false
  unfolding old_size_right
  other_size age h = unsized small_count old age (ne_eqb (length old) (old_size_of (width age) small_count) h)

  -- its size says which kind a table is
  pub age_is : (age : Age) → OldTable (width age) small_count old → age_of old ≡ age
  unfolding age_of
  age_is plain big = ifb_true _ _ _ (eq-eqb (length old) (old_size_of (width plain) small_count) big)
  age_is dated big = ifb_false _ _ _ (ne_eqb (length old) (old_size_of (width plain) small_count) (λ e. omega arith))

  module _ (new : List ℕ) where
    -- where a table of today has room, the table is taken exactly if it is sound as what its size says
    pub converts_as : (age : Age) → OldTable (width age) small_count old → Table small_count new → converts old new ≡ sound_old age small_count old
    unfolding converts
    converts_as plain big room =
        and_true _ _ (eq-eqb (length new) (size_of small_count) room)
        ∙ or_none_lem _ _ (other_size dated (λ e. omega arith))
    converts_as dated big room =
        and_true _ _ (eq-eqb (length new) (size_of small_count) room)
        ∙ ap (λ (b : Bool). b || sound_old dated small_count old) (other_size plain (λ e. omega arith))

    -- and what is sound as neither kind is declined, and so is whatever comes where there is no room of the right size
    pub neither_converts : sound_old plain small_count old ≡ false → sound_old dated small_count old ≡ false → converts old new ≡ false
    unfolding converts
    neither_converts p d = and_no _ _ (or_none_lem _ _ d ∙ p)

    pub no_room : (Table small_count new → ⊥) → converts old new ≡ false
    unfolding converts
    no_room h = no_unless _ (λ e. not_both _ (and_r (sound_old plain small_count old || sound_old dated small_count old) _ e) (ne_eqb (length new) (size_of small_count) h))
