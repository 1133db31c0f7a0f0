-- `convert::store_sound`. The check of the new table decides whether it is stored.
-- Assumes nothing.
use mathlib.Core.Path.{◌≡◌, sym, ap, ◌∙◌}
use Prim.Native.Nat.{ℕ}
use mathlib.Core.Bool.{Bool, true, false}
use mathlib.Core.List.{List}
use lib.Seq.{sets}
use Rattle.octets.proofs.If.{ifb_true, ifb_false}
use Rattle.octets.proofs.Stores.{sets_whole}
use Rattle.table.specs.Layout.{small_count}
use Rattle.soundness.specs.Sound.{sound}
use Rattle.convert.specs.Old.{BothTables, widened}
use Rattle.convert.specs.Convert.{if_sound}
use Rattle.convert.proofs.Records.{length_widened}
use Rattle.convert.proofs.store_sound.Goals as goal

-- ---- the outcomes, over plain values
module _ (w : ℕ) (old new : List ℕ) where
  -- the answer, and what is left
  abbrev Is : Bool → List ℕ → Type 0
  Is r left = (r ≡ sound small_count (widened w small_count old)) × (left ≡ if_sound w old new)

  unsound : {wide : List ℕ} → wide ≡ widened w small_count old → sound small_count wide ≡ false → Is false new
  unfolding if_sound
  unsound e h = let s = ap (sound small_count) (sym e) ∙ h in (sym s, sym (ifb_false _ _ _ s))

  stored : {wide left : List ℕ} → BothTables w small_count old new → wide ≡ widened w small_count old → sound small_count wide ≡ true → left ≡ sets new 0 wide → Is true left
  unfolding if_sound
  stored both e h put =
      let s = ap (sound small_count) (sym e) ∙ h in
      let long = length_widened w small_count old both.fits both.old_sized in
      (sym s, put ∙ ap (sets new 0) e ∙ sets_whole new (widened w small_count old) (long ∙ sym both.new_sized) ∙ sym (ifb_true _ _ _ s))

pub returns-then-not-is_sound : goal.returns-then-not-is_sound
returns-then-not-is_sound c =
    let a = c.args in
    let both = unsound a.w a.old.now a.new.now c.fill.ensures (sym c.is_sound.ensures ∙ c.if-not-is_sound.true) in
    record { value = both.0; after = both.1 }

pub returns : goal.returns
returns c =
    let a = c.args in
    let both = stored a.w a.old.now a.new.now c.requires c.fill.ensures
    (sym c.is_sound.ensures ∙ c.if-not-is_sound.false)
    c.put_all.ensures in
    record { value = both.0; after = both.1 }
