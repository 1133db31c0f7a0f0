-- Laws of the search for a name: what is found has the name, and where nothing is found no place has it.
-- Assumes nothing.
use Rattle.std.specs.Prelude.{Option, None, Some, is_some}
use mathlib.Core.Path.{◌≡◌, sym, ap, ◌∙◌}
use Prim.Native.Nat.{ℕ, ◌<◌}
use mathlib.Core.Bool.{Bool, true, false, not, true≢false}
use mathlib.Core.List.{List}
use Rattle.octets.proofs.If.{ifb_true, ifb_false}
use Rattle.octets.proofs.Bools.{yes_unless, not_both}
use Rattle.names.specs.declared.Name.{Name}
use Rattle.names.specs.Names.{is_named, same_name}
use Rattle.names.proofs.Same.{same_is, same_of}
use Rattle.table.specs.Records.{name_at}
use Rattle.search.specs.Search.{first}
use Rattle.search.proofs.First.{At-not, on_found_lem, is_nothing_at, is_nothing_none, found_below, found_test, none_fails}
use Rattle.name_search.specs.Names.{has_name, find_name, is_taken}

pub find_named : (n : ℕ) (t : List ℕ) (name : Name) → is_named name ≡ true → find_name n t name ≡ first n (has_name n t name)
unfolding find_name
find_named n t name e = ifb_true _ _ _ e

pub find_unnamed : (n : ℕ) (t : List ℕ) (name : Name) → is_named name ≡ false → find_name n t name ≡ None
unfolding find_name
find_unnamed n t name e = ifb_false _ _ _ e

-- what is found is a place that has the name
module _ (n : ℕ) (t : List ℕ) (name : Name) (i : ℕ) (e : find_name n t name ≡ Some i) where
  pub found_named : is_named name ≡ true
  found_named = yes_unless (is_named name) (λ no. At-not (sym e ∙ find_unnamed n t name no))

  looked : first n (has_name n t name) ≡ Some i
  looked = sym (find_named n t name found_named) ∙ e

  pub found_name_below : i < n
  found_name_below = found_below n (has_name n t name) i looked

  pub found_name : name_at n t i ≡ name
  found_name = same_is (name_at n t i) name (found_test n (has_name n t name) i looked)

-- where nothing is found, no place has it
pub none_named : (n : ℕ) (t : List ℕ) (name : Name) → is_named name ≡ true → find_name n t name ≡ None → (j : ℕ) → j < n → name_at n t j ≡ name → ⊥
none_named n t name h e j l q = not_both (same_name (name_at n t j) name) (same_of (name_at n t j) name q) (none_fails n (has_name n t name) (sym (find_named n t name h) ∙ e) j l)

-- where one place has it and no other, that one is found
pub only_named : (n : ℕ) (t : List ℕ) (name : Name) (i : ℕ) → is_named name ≡ true → i < n → name_at n t i ≡ name → ((j : ℕ) → j < n → name_at n t j ≡ name → j ≡ i) → find_name n t name ≡ Some i
only_named n t name i h l e only =
    on_found_lem (find_name n t name)
    (λ j f. f ∙ ap Some (only j (found_name_below n t name j f) (found_name n t name j f)))
    (λ f. absurd (none_named n t name h f i l e))

-- ---- whether a name is taken

module _ (n : ℕ) (t : List ℕ) (name : Name) where
  pub taken_is : (f : Option ℕ) → f ≡ find_name n t name → (b : Bool) → b ≡ is_some f → b ≡ is_taken n t name
  unfolding is_taken
  taken_is f e b s =
      s
      ∙ on_found_lem f
      (λ i at. ap is_some at ∙ sym (ap not (is_nothing_at (find_name n t name) i (sym e ∙ at))))
      (λ none. ap is_some none ∙ sym (ap not (is_nothing_none (find_name n t name) (sym e ∙ none))))

  -- a name that is not taken is no record's
  pub untaken : is_taken n t name ≡ false → find_name n t name ≡ None
  unfolding is_taken
  untaken e = on_found_lem (find_name n t name) (λ i at. absurd (true≢false (ap not (sym (is_nothing_at (find_name n t name) i at)) ∙ e))) (λ none. none)
