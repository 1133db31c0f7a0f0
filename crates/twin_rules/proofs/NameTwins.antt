-- Names differ exactly if each named record is found by its own.
-- Assumes nothing; over the number n of places.
use mathlib.Core.Path.{◌≡◌, sym, ◌∙◌}
use Prim.Native.Nat.{ℕ, ◌<◌}
use mathlib.Core.Bool.{true, false}
use mathlib.Core.List.{List}
use Rattle.octets.proofs.If.{ifb_true, ifb_false, on_bool}
use Rattle.names.specs.declared.Name.{Name}
use Rattle.names.specs.Names.{is_named, same_name}
use Rattle.names.proofs.Same.{same_is, same_of}
use Rattle.table.specs.Records.{name_at}
use Rattle.name_search.proofs.Finds.{find_named}
use Rattle.twin_rules.specs.Twins.{names_differ}
use Rattle.twin_rules.specs.Checked.{own_name}
use Rattle.twin_rules.proofs.Alone.{alone_is, alone_of_lem, alone_own, own_alone}
use Rattle.twin_rules.proofs.Serials.{at_is, at_of}

-- a record without a name differs from all
pub unnamed_differs : (n : ℕ) (t : List ℕ) (i : ℕ) → is_named (name_at n t i) ≡ false → names_differ n t i ≡ true
unfolding names_differ
unnamed_differs n t i e = ifb_false _ _ _ e

module _ (n : ℕ) (t : List ℕ) where
  -- the names of places that have one differ
  abbrev pub NamesApart : Type 0
  NamesApart = (i j : ℕ) → i < n → j < n → is_named (name_at n t i) ≡ true → name_at n t i ≡ name_at n t j → i ≡ j

  abbrev counts : Name → Type 0
  counts name = is_named name ≡ true

  pub named_is : ((i : ℕ) → i < n → is_named (name_at n t i) ≡ true → names_differ n t i ≡ true) → NamesApart
  unfolding names_differ
  named_is right = alone_is n (name_at n t) same_name counts same_is same_of (λ i h c. sym (ifb_true _ _ _ c) ∙ right i h c)

  pub named_of : NamesApart → (i : ℕ) → i < n → names_differ n t i ≡ true
  unfolding names_differ
  named_of apart i h =
      on_bool (is_named (name_at n t i))
      (λ c. ifb_true _ _ _ c ∙ alone_of_lem n (name_at n t) same_name counts same_is same_of apart i h c)
      (unnamed_differs n t i)

  pub name_own : NamesApart → (i : ℕ) → i < n → own_name n t i (name_at n t i) ≡ true
  unfolding own_name
  name_own apart i h =
      on_bool (is_named (name_at n t i))
      (λ c. ifb_true _ _ _ c ∙ at_of i _ (find_named n t (name_at n t i) c ∙ alone_own n (name_at n t) same_name counts same_is same_of apart i h c))
      (λ c. ifb_false _ _ _ c)

  pub own_named : ((i : ℕ) → i < n → is_named (name_at n t i) ≡ true → own_name n t i (name_at n t i) ≡ true) → NamesApart
  unfolding own_name
  own_named own =
      own_alone n (name_at n t) same_name counts same_is same_of
      (λ i h c. sym (find_named n t (name_at n t i) c) ∙ at_is i _ (sym (ifb_true _ _ _ c) ∙ own i h c))
