-- Links read back, present or absent.
-- Assumes nothing.
use mathlib.Core.Path.{◌≡◌, refl, sym, ◌∙◌}
use Prim.Native.Nat.{ℕ, ◌^◌, ◌≤◌, ◌<◌}
use native.Mathlib.Omega.{arith}
use mathlib.Core.Bool.{true, false}
use Rattle.std.specs.Prelude.{Option, None, Some}
use lib.Dec.{leb, eqb}
use borrow.Author.Tests.{eqb-true, eqb-false, le-leb}
use Rattle.octets.specs.If.{ifb}
use Rattle.octets.specs.Maybe.{◌>>=◌, ◌>>◌}
use Rattle.octets.proofs.If.{ifb_true, ifb_false, on_if, on_bool}
use Rattle.ttlv_types.specs.Types.{enumeration}
use Rattle.ttlv.specs.Items.{Items, nil, group, ended}
use Rattle.fields.specs.Fields.{starts_with, body_of}
use Rattle.octets.proofs.Bools.{and_i}
use Rattle.tags.specs.Tags.{link, link_type, linked_object_identifier}
use Rattle.changes.specs.Changes.{serial_most}
use Rattle.answer.specs.Respond.{word, named, link_items, replaced_object_link, replacement_object_link}
use Rattle.answer.specs.Read.{link_first, or_no_link, link_in, link_ok, serial_ok}
use Rattle.octets.proofs.Maybe.{some_is, on_bind, on_test}
use Rattle.answer.proofs.Fields.{ended_is, body_spells, fixed_back, fixed_spells, fixed_other, serial_in_back, serial_in_spells}

-- ---- a link of a type

-- a link as it is written
abbrev pub linked : ℕ → ℕ → Items → Items
linked kind serial rest = group link (word link_type enumeration kind (named linked_object_identifier serial nil)) rest

link_first_back : (kind serial : ℕ) (rest : Items) → kind < 256 ^ 4 → serial_ok serial ≡ true → link_first kind (linked kind serial rest) ≡ Some (serial, rest)
unfolding link_first body_of ifb ended ◌>>=◌ ◌>>◌
link_first_back kind serial rest k h = rw (fixed_back, serial_in_back)

link_first_other : (kind other serial : ℕ) (rest : Items) → other < 256 ^ 4 → eqb other kind ≡ false → link_first kind (linked other serial rest) ≡ None
unfolding link_first body_of ifb ended ◌>>=◌ ◌>>◌
link_first_other kind other serial rest k h = rw fixed_other

link_first_spells : (kind : ℕ) (t : Items) {a : ℕ × Items} → link_first kind t ≡ Some a → (t ≡ linked kind a.0 a.1) × (eqb a.0 0 ≡ false)
unfolding link_first
link_first_spells kind t h =
    on_bind h (λ b e g. on_bind g (λ r f u. on_bind u (λ s i v. on_test v (λ o w.
    let p = serial_in_spells linked_object_identifier r i in
    rw (body_spells link t e, fixed_spells link_type enumeration kind b.0 f, p.0, ended_is s.1 o, ← (some_is w)) (refl, p.1)))))

-- a serial of a link that is there is one that a record may have
pub serial_linked : (serial : ℕ) → eqb serial 0 ≡ false → link_ok serial ≡ true → serial_ok serial ≡ true
serial_linked serial e h =
    let p = eqb-false serial 0 e in
    let q : 1 ≤ serial = omega arith in
    and_i (leb 1 serial) (leb serial serial_most) (le-leb 1 serial q) h

pub link_in_back : (kind serial : ℕ) (rest : Items) → kind < 256 ^ 4 → link_ok serial ≡ true → link_first kind rest ≡ None
    → link_in kind (link_items kind serial rest) ≡ Some (serial, rest)
unfolding link_in or_no_link link_items
link_in_back kind serial rest k h n = on_bool (eqb serial 0) zeroed there
  where
    zeroed : eqb serial 0 ≡ true → link_in kind (link_items kind serial rest) ≡ Some (serial, rest)
    zeroed e = rw (ifb_true (eqb serial 0) rest (linked kind serial rest) e, n, eqb-true serial 0 e)

    there : eqb serial 0 ≡ false → link_in kind (link_items kind serial rest) ≡ Some (serial, rest)
    there e = rw (ifb_false (eqb serial 0) rest (linked kind serial rest) e, link_first_back kind serial rest k (serial_linked serial e h))

pub link_in_spells : (kind : ℕ) (t : Items) {a : ℕ × Items} → link_in kind t ≡ Some a → t ≡ link_items kind a.0 a.1
unfolding link_in link_items
link_in_spells kind t {a} h = go (link_first kind t) refl h
  where
    go : (o : Option (ℕ × Items)) → link_first kind t ≡ o → or_no_link t o ≡ Some a → t ≡ link_items kind a.0 a.1
    go None e g = unfold or_no_link ifb in rw (← (some_is g))
    go (Some b) e g =
        unfold or_no_link in
        let p = link_first_spells kind t e in
        rw (← (some_is g)) (p.0 ∙ sym (ifb_false _ _ _ p.1))

-- a link of the one type is none of the other
pub not_replaced : (serial : ℕ) (rest : Items) → link_first replaced_object_link rest ≡ None → link_first replaced_object_link (link_items replacement_object_link serial rest) ≡ None
unfolding link_items
not_replaced serial rest n =
    on_if (λ (t : Items). link_first replaced_object_link t ≡ None) {b = eqb serial 0}
    (λ e. n)
    (λ e. link_first_other replaced_object_link replacement_object_link serial rest (omega arith) refl)

-- a field of another tag does not stand in front of a link
pub no_link_first : (tag kind serial : ℕ) (rest : Items) → eqb link tag ≡ false → starts_with tag rest ≡ false → starts_with tag (link_items kind serial rest) ≡ false
unfolding link_items starts_with
no_link_first tag kind serial rest d h = on_if (λ (t : Items). starts_with tag t ≡ false) {b = eqb serial 0} (λ e. h) (λ e. d)
