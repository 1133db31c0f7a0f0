-- `convert::convert`. Each test that fails is a rule of the old table, or the room; behind them the check of the new table decides.
-- Assumes nothing.
use mathlib.Core.Path.{◌≡◌, sym, ap, ◌∙◌}
use Prim.Native.Nat.{ℕ}
use mathlib.Core.Bool.{Bool, true, false}
use mathlib.Core.List.{List}
use Rattle.octets.specs.If.{ifb}
use Rattle.octets.specs.Octets.{all_zero}
use Rattle.octets.proofs.If.{ifb_false}
use Rattle.table.specs.Layout.{small_count, Table}
use Rattle.soundness.specs.Sound.{sound}
use Rattle.convert.specs.Old.{Age, plain, dated, width, OldTable, widened}
use Rattle.convert.specs.OldSound.{lead_zeros, sound_old}
use Rattle.convert.specs.Convert.{converts, converted, if_sound}
use Rattle.convert.proofs.Sound.{dated_not_plain, old_sound, unzeroed}
use Rattle.convert.proofs.Converts.{other_size, age_is, converts_as, neither_converts, no_room}
use Rattle.convert.proofs.convert.Goals.{Else-old-eq-DATED_SIZE}
use Rattle.convert.proofs.convert.Goals as goal

-- ---- the outcomes, over plain values
module _ (old new : List ℕ) where
  -- the answer, and what is left
  abbrev Is : Bool → List ℕ → Type 0
  Is r left = (r ≡ converts old new) × (left ≡ converted old new)

  declined : converts old new ≡ false → Is false new
  unfolding converted
  declined e = (sym e, sym (ifb_false _ _ _ e))

  unsound : sound_old plain small_count old ≡ false → sound_old dated small_count old ≡ false → Is false new
  unsound p d = declined (neither_converts old new p d)

  -- the check of the new table has decided
  decided : (age : Age) → Table small_count new → OldTable (width age) small_count old → (age ≡ plain → all_zero (lead_zeros old) ≡ true) → {r : Bool} {left : List ℕ}
      → r ≡ sound small_count (widened (width age) small_count old) → left ≡ if_sound (width age) old new → Is r left
  unfolding converted if_sound
  decided age room big zeros e h =
      let same : sound small_count (widened (width age) small_count old) ≡ converts old new = old_sound small_count old age big zeros ∙ sym (converts_as old new age big room) in (
        e ∙ same,
        h
            ∙ ap (λ (b : Bool). ifb b (widened (width age) small_count old) new) same
            ∙ ap (λ (a : Age). ifb (converts old new) (widened (width a) small_count old) new) (sym (age_is old age big)),
      )

-- ---- the code
pub returns-then-new-ne-SMALL_SIZE : goal.returns-then-new-ne-SMALL_SIZE
returns-then-new-ne-SMALL_SIZE c =
    let a = c.args in
    let both = declined a.old.now a.new.now (no_room a.old.now a.new.now c.if-new-ne-SMALL_SIZE.true) in
    record { value = both.0; after = both.1 }

pub returns-then-old-eq-DATED_SIZE : goal.returns-then-old-eq-DATED_SIZE
returns-then-old-eq-DATED_SIZE c =
    let both = decided (c.args.old.now) (c.args.new.now) dated c.if-new-ne-SMALL_SIZE.false c.if-old-eq-DATED_SIZE.true dated_not_plain
    c.store_sound.ensures.value
    c.store_sound.ensures.after in
    record { value = both.0; after = both.1 }

-- ---- and the old one is none of L3
undated : (c : Else-old-eq-DATED_SIZE) → sound_old dated small_count (c.args.old.now) ≡ false
undated c = other_size (c.args.old.now) dated c.if-old-eq-DATED_SIZE.false

pub returns-then-old-ne-PLAIN_SIZE : goal.returns-then-old-ne-PLAIN_SIZE
returns-then-old-ne-PLAIN_SIZE c =
    let both = unsound (c.args.old.now) (c.args.new.now) (other_size (c.args.old.now) plain c.if-old-ne-PLAIN_SIZE.true) (undated (goal.at.returns-then-old-ne-PLAIN_SIZE c).Else-old-eq-DATED_SIZE) in
    record { value = both.0; after = both.1 }

pub returns-then-not-all_zero : goal.returns-then-not-all_zero
returns-then-not-all_zero c =
    let both = unsound (c.args.old.now) (c.args.new.now) (unzeroed small_count (c.args.old.now) (sym c.all_zero.ensures ∙ c.if-not-all_zero.true)) (undated (goal.at.returns-then-not-all_zero c).Else-old-eq-DATED_SIZE) in
    record { value = both.0; after = both.1 }

pub returns : goal.returns
returns c =
    let both = decided (c.args.old.now) (c.args.new.now) plain c.if-new-ne-SMALL_SIZE.false c.if-old-ne-PLAIN_SIZE.false (λ e. sym c.all_zero.ensures ∙ c.if-not-all_zero.false)
    c.store_sound-2.ensures.value
    c.store_sound-2.ensures.after in
    record { value = both.0; after = both.1 }
