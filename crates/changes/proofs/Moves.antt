-- What a move leaves of a record: its dates, and its material.
-- Assumes nothing.
use mathlib.Core.Path.{◌≡◌, sym, ap, ◌∙◌, ap₂}
use Prim.Native.Nat.{ℕ}
use mathlib.Core.Bool.{Bool}
use mathlib.Core.List.{List}
use lib.ListN.{replicate}
use borrow.Author.Tests.{eq-eqb, ne_eqb}
use Rattle.octets.proofs.If.{ifb_true, ifb_false}
use Rattle.table.specs.Layout.{material_size}
use Rattle.table.specs.declared.Record.{Record}
use Rattle.rules.specs.Numbers.{destroy, activate}
use Rattle.changes.specs.Records.{in_state, moved_to, with_dates, stops}
use Rattle.octets.specs.If.{ifb}
use lib.Dec.{eqb}

abbrev pub zeros : ℕ → List ℕ
zeros n = replicate n 0

module _ (operation code clock state : ℕ) (r : Record) where
  -- the record with these dates, in its state, with this material
  abbrev left : ℕ → ℕ → List ℕ → Record
  left activation deactivation material = with_dates activation deactivation (in_state state material r)

  module _ {sets : Bool} {activation deactivation : ℕ} (a : activation ≡ ifb (eqb operation activate) clock r.activation) (s : sets ≡ stops operation code)
      (d : deactivation ≡ ifb sets clock r.deactivation) where
    dated : (material : List ℕ) → left activation deactivation material ≡ left (ifb (eqb operation activate) clock r.activation) (ifb (stops operation code) clock r.deactivation) material
    dated material = ap₂ (λ (x y : ℕ). left x y material) a (d ∙ ap (λ (b : Bool). ifb b clock r.deactivation) s)

    -- "all 32 material bytes zeroed"
    pub moved_destroy : operation ≡ destroy → left activation deactivation (zeros material_size) ≡ moved_to operation code clock state r
    unfolding moved_to
    moved_destroy e = dated (zeros material_size) ∙ ap (left _ _) (sym (ifb_true _ _ _ (eq-eqb operation destroy e)))

    pub moved_other : (operation ≡ destroy → ⊥) → left activation deactivation r.material ≡ moved_to operation code clock state r
    unfolding moved_to
    moved_other h = dated r.material ∙ ap (left _ _) (sym (ifb_false _ _ _ (ne_eqb operation destroy h)))
