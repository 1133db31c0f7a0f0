-- Names read back, present or absent.
-- Assumes nothing.
use mathlib.Core.Path.{◌≡◌, refl, sym, ap, ◌∙◌}
use Prim.Native.Nat.{ℕ}
use native.Mathlib.Omega.{arith}
use mathlib.Core.Bool.{true, false, not}
use Rattle.std.specs.Prelude.{Option, None, Some}
use mathlib.Core.List.{List}
use lib.Dec.{eqb}
use borrow.Author.Tests.{not-true}
use Rattle.octets.specs.Maybe.{◌>>=◌, ◌>>◌}
use Rattle.octets.proofs.If.{ifb_true, ifb_false, on_if, on_bool}
use Rattle.octets.proofs.Bools.{both}
use Rattle.octets.proofs.Maybe.{some_is, on_bind, on_test}
use Rattle.ttlv_types.specs.Types.{enumeration, text_string}
use Rattle.ttlv.specs.Items.{Items, nil, value, group, ended}
use Rattle.fields.specs.Fields.{starts_with, optional}
use Rattle.tags.specs.Tags.{name_tag, name_type, name_value}
use Rattle.names.specs.declared.Name.{Name}
use Rattle.names.specs.Names.{no_name, is_named, name_text, name_of, name_ok, same_name}
use Rattle.names.proofs.Same.{same_is}
use Rattle.names.proofs.Texts.{name_back, of_named}
use Rattle.name_read.specs.Name.{uninterpreted_text, or_no_name}
use Rattle.answer.specs.Respond.{word, name_items}
use Rattle.answer.specs.Read.{name_shown, name_shown_ok}
use Rattle.answer.proofs.Fields.{ended_is, bytes_back, body_back, bytes_spells, body_spells, fixed_back, fixed_spells, absent_back, given_back, on_optional}

-- a name as it is written
abbrev pub name_group : List ℕ → Items → Items
name_group v rest = group name_tag (value name_value text_string v (word name_type enumeration uninterpreted_text nil)) rest

-- what `name_shown_ok` says: no name, or one that its own text makes
pub record NameFacts (m : Name) : Type 0 where
  pub absent : is_named m ≡ false → no_name ≡ m
  pub text_ok : is_named m ≡ true → name_ok (name_text m) ≡ true
  pub again : is_named m ≡ true → name_of (name_text m) ≡ m

pub name_facts : (m : Name) → name_shown_ok m ≡ true → NameFacts m
unfolding name_shown_ok
name_facts m h = record {
  absent = λ e. same_is no_name m (sym (ifb_false _ _ _ e) ∙ h);
  text_ok = λ e. (named e).0;
  again = λ e. same_is (name_of (name_text m)) m (named e).1;
}
  where
    named : is_named m ≡ true → (name_ok (name_text m) ≡ true) × (same_name (name_of (name_text m)) m ≡ true)
    named e = both (name_ok (name_text m)) (same_name (name_of (name_text m)) m) (sym (ifb_true _ _ _ e) ∙ h)

shown_name_back : (v : List ℕ) (rest : Items) → name_ok v ≡ true → name_shown (name_group v rest) ≡ Some (name_of v, rest)
unfolding name_shown ended ◌>>=◌ ◌>>◌
shown_name_back v rest h = rw (body_back, bytes_back, h, fixed_back name_type enumeration uninterpreted_text nil (omega arith))

shown_name_spells : (t : Items) {a : Name × Items} → name_shown t ≡ Some a → (v : List ℕ) × (name_ok v ≡ true) × (a.0 ≡ name_of v) × (t ≡ name_group v a.1)
unfolding name_shown
shown_name_spells t {a} h =
    on_bind h (λ body e1 h1. on_bind h1 (λ v e2 h2. on_test h2 (λ ok h3. on_bind h3 (λ r e4 h4. on_test h4 (λ o w.
    let t1 = body_spells name_tag t e1 in
    let t2 = bytes_spells name_value text_string body.0 e2 in
    let t3 = fixed_spells name_type enumeration uninterpreted_text v.1 e4 in
    let t4 = ended_is r o in
    let m : name_of v.0 ≡ a.0 = ap (λ (x : Name × Items). x.0) (some_is w) in
    let n : body.1 ≡ a.1 = ap (λ (x : Name × Items). x.1) (some_is w) in
    (v.0, ok, sym m, cc))))))

-- the name, as it is read in front of the rest
pub record NameRead (m : Name) (rest : Items) : Type 0 where
  pub given : Option Name
  pub read : optional name_tag name_shown (name_items m rest) ≡ Some (given, rest)
  pub means : or_no_name given ≡ m

pub shown_name : (m : Name) (rest : Items) → NameFacts m → starts_with name_tag rest ≡ false → NameRead m rest
unfolding name_items or_no_name
shown_name m rest f n = on_bool (eqb m.len 0) none_there present
  where
    none_there : eqb m.len 0 ≡ true → NameRead m rest
    none_there e = record {
      given = None;
      read = rw (ifb_true (eqb m.len 0) rest (name_group (name_text m) rest) e) (absent_back name_tag name_shown rest n);
      means = f.absent (ap not e);
    }

    present : eqb m.len 0 ≡ false → NameRead m rest
    present e =
        let t = name_group (name_text m) rest in
        record {
          given = Some (name_of (name_text m));
          read = rw (ifb_false (eqb m.len 0) rest t e) (given_back name_tag name_shown t (unfold starts_with in refl) (shown_name_back (name_text m) rest (f.text_ok (ap not e))));
          means = f.again (ap not e);
        }

pub name_spells : (t : Items) {a : Option Name × Items} → optional name_tag name_shown t ≡ Some a → t ≡ name_items (or_no_name a.0) a.1
unfolding name_items or_no_name
name_spells t h =
    on_optional name_tag name_shown t (λ a. t ≡ name_items (or_no_name a.0) a.1) h
    (sym (ifb_true _ _ _ refl))
    (λ m rest r.
    let p = shown_name_spells t r in
    let v = p.0 in
    let same : name_text m ≡ v = ap name_text p.2 ∙ name_back v p.1 in
    let there : eqb m.len 0 ≡ false = not-true _ (ap is_named p.2 ∙ of_named v p.1) in
    p.3 ∙ ap (λ (x : List ℕ). name_group x rest) (sym same) ∙ sym (ifb_false _ _ _ there))

-- a field of another tag does not stand in front of a name
pub no_name_first : (tag : ℕ) (m : Name) (rest : Items) → eqb name_tag tag ≡ false → starts_with tag rest ≡ false → starts_with tag (name_items m rest) ≡ false
unfolding name_items starts_with
no_name_first tag m rest d h = on_if (λ (t : Items). starts_with tag t ≡ false) {b = eqb m.len 0} (λ e. h) (λ e. d)
