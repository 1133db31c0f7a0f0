-- Response payloads read back: what Get Attributes shows, and the payload of each operation.
-- Assumes nothing.
use mathlib.Core.Path.{◌≡◌, refl, sym, ap, ◌∙◌}
use Prim.Native.Nat.{ℕ, ◌^◌, ◌≤◌, ◌<◌}
use native.Mathlib.Omega.{arith}
use mathlib.Core.Bool.{true, false, ◌&&◌, ◌||◌}
use Rattle.std.specs.Prelude.{None, Some}
use lib.Dec.{leb, eqb}
use borrow.Author.Tests.{eqb-true, leb-true, ltb-true}
use Rattle.octets.specs.If.{ifb}
use Rattle.octets.specs.Maybe.{◌>>=◌, ◌>>◌}
use Rattle.ttlv_types.specs.Types.{integer, enumeration}
use Rattle.ttlv.specs.Items.{Items, nil, group, ended}
use Rattle.fields.specs.Fields.{starts_with, body_of}
use Rattle.octets.proofs.Bools.{both}
use Rattle.octets.proofs.If.{ifb_true, ifb_false, on_if, on_bool}
use Rattle.tags.specs.Tags.{activation_date, attributes, cryptographic_algorithm, cryptographic_length, cryptographic_usage_mask, deactivation_date, name_tag, object_type, unique_identifier, usage_limits, link, state_tag}
use Rattle.names.specs.declared.Name.{Name}
use Rattle.attributes_read.specs.Attributes.{aes, or_unset}
use Rattle.payload.specs.Payload.{symmetric_key}
use Rattle.values.specs.Values.{bits_ok, mask_ok, not_negative, in_order}
use Rattle.plans.specs.declared.Shown.{Shown}
use Rattle.plans.specs.declared.Outcome.{Outcome}
use Rattle.plans.specs.declared.Outcome.TheVariants.{Created, Done, Showed, Located}
use Rattle.answer.specs.Respond.{word, named, date_items, limit_items, link_items, name_items, attribute_items, located_items, replaced_object_link, replacement_object_link}
use Rattle.answer.specs.Read.{serial_in, link_first, shown_in, created_in, done_in, showed_in, link_ok, serial_ok, name_shown_ok, shown_ok, located_in}
use Rattle.octets.proofs.Maybe.{some_is, on_bind, on_test}
use Rattle.answer.proofs.Fields.{ended_is, body_spells, spelled_back, spelled_spells, fixed_back, fixed_spells, serial_in_back, serial_in_spells, absent_back, given_back, on_optional}
use Rattle.answer.proofs.Tests.{on_or}
use Rattle.answer.proofs.Links.{link_in_back, link_in_spells, not_replaced, no_link_first, serial_linked}
use Rattle.answer.proofs.Dates.{date_back, date_spells, no_date_first}
use Rattle.answer.proofs.Names.{NameFacts, name_facts, shown_name, name_spells, no_name_first}
use Rattle.answer.proofs.Limits.{limits_of, LimitsFacts, limits_ok, limits_facts, limits_back, limits_spells, no_limit_first}

-- ---- what is shown

-- what `shown_ok` says, fact by fact
pub record ShownFacts (s : Shown) : Type 0 where
  pub serial_ok : serial_ok s.serial ≡ true
  pub bits_short : s.bits < 256 ^ 4
  pub mask_short : s.mask < 256 ^ 4
  pub state_short : s.state < 256 ^ 4
  pub activation_short : s.activation < 256 ^ 8
  pub deactivation_short : s.deactivation < 256 ^ 8
  pub limits_ok : LimitsFacts (limits_of s)
  pub replaced_ok : link_ok s.replaced ≡ true
  pub replacement_ok : link_ok s.replacement ≡ true
  pub name_ok : NameFacts s.name

-- a length has at most 256 bits
pub bits_most : (bits : ℕ) → bits_ok bits ≡ true → bits ≤ 256
bits_most bits h =
    on_or (eqb bits 128 || eqb bits 192) (eqb bits 256) h
    (λ g. on_or (eqb bits 128) (eqb bits 192) g (λ e. omega (arith, eqb-true)) (λ e. omega (arith, eqb-true)))
    (λ e. omega (arith, eqb-true))

pub shown_facts : (s : Shown) → shown_ok s ≡ true → ShownFacts s
unfolding shown_ok
shown_facts s h =
    let p10 = both _ (name_shown_ok s.name) h in
    let p9 = both _ (link_ok s.replacement) p10.0 in
    let p8 = both _ (link_ok s.replaced) p9.0 in
    let p7 = both _ (limits_ok (limits_of s)) p8.0 in
    let p6 = both _ (in_order s.activation s.deactivation) p7.0 in
    let p5 = both _ (not_negative s.deactivation) p6.0 in
    let p4 = both _ (not_negative s.activation) p5.0 in
    let p3 = both _ (leb 1 s.state && leb s.state 6) p4.0 in
    let p2 = both _ (mask_ok s.mask) p3.0 in
    let p1 = both (serial_ok s.serial) (bits_ok s.bits) p2.0 in
    let state = both (leb 1 s.state) (leb s.state 6) p3.1 in
    record {
      serial_ok = p1.0;
      bits_short = omega (arith, bits_most s.bits p1.1);
      mask_short = omega (arith, leb-true);
      state_short = omega (arith, leb-true);
      activation_short = let m = ltb-true s.activation (2 ^ 63) p4.1 in omega arith;
      deactivation_short = let m = ltb-true s.deactivation (2 ^ 63) p5.1 in omega arith;
      limits_ok = limits_facts (limits_of s) p7.1;
      replaced_ok = p8.1;
      replacement_ok = p9.1;
      name_ok = name_facts s.name p10.1;
    }

-- a field of another tag does not stand in front of the links
before_links : (tag : ℕ) (s : Shown) → eqb link tag ≡ false → eqb name_tag tag ≡ false
    → starts_with tag (link_items replaced_object_link s.replaced (link_items replacement_object_link s.replacement (name_items s.name nil))) ≡ false
unfolding starts_with
before_links tag s d e = no_link_first tag replaced_object_link s.replaced _ d (no_link_first tag replacement_object_link s.replacement _ d (no_name_first tag s.name nil e refl))

-- a name is no link
no_link_left : (kind : ℕ) (m : Name) → link_first kind (name_items m nil) ≡ None
unfolding name_items link_first body_of ifb ◌>>=◌
no_link_left kind m = on_if (λ (t : Items). link_first kind t ≡ None) {b = eqb m.len 0} (λ e. refl) (λ e. refl)

pub shown_back : (s : Shown) → ShownFacts s → shown_in s.serial (attribute_items s) ≡ Some s
unfolding shown_in attribute_items ended ◌>>=◌ ◌>>◌
shown_back s f =
    let last = name_items s.name nil in
    let second = link_items replacement_object_link s.replacement last in
    let first = link_items replaced_object_link s.replaced second in
    let limit = limit_items s first in
    let stop = date_items deactivation_date s.deactivation limit in
    let a = date_back activation_date s.activation stop f.activation_short (no_date_first activation_date deactivation_date s.deactivation limit refl (no_limit_first activation_date s first refl (before_links activation_date s refl refl))) in
    let d = date_back deactivation_date s.deactivation limit f.deactivation_short (no_limit_first deactivation_date s first refl (before_links deactivation_date s refl refl)) in
    let l = limits_back s first f.limits_ok (before_links usage_limits s refl refl) in
    let m = shown_name s.name nil f.name_ok (unfold starts_with in refl) in
    rw (
      fixed_back cryptographic_algorithm enumeration aes _ (omega arith),
      spelled_back 4 cryptographic_length integer s.bits _ f.bits_short,
      spelled_back 4 cryptographic_usage_mask integer s.mask _ f.mask_short,
      spelled_back 4 state_tag enumeration s.state _ f.state_short,
      a.read,
      d.read,
      l.read,
      link_in_back replaced_object_link s.replaced second (omega arith) f.replaced_ok (not_replaced s.replacement last (no_link_left replaced_object_link s.name)),
      link_in_back replacement_object_link s.replacement last (omega arith) f.replacement_ok (no_link_left replacement_object_link s.name),
      m.read,
      a.means,
      d.means,
      l.means,
      m.means,
    )

pub shown_spells : (serial : ℕ) (t : Items) {s : Shown} → shown_in serial t ≡ Some s → (s.serial ≡ serial) × (t ≡ attribute_items s)
unfolding shown_in attribute_items
shown_spells serial t {s} h =
    on_bind h (λ r e1 h1. on_bind h1 (λ bits e2 h2. on_bind h2 (λ mask e3 h3. on_bind h3 (λ state e4 h4. on_bind h4 (λ starts e5 h5.
    on_bind h5 (λ stops e6 h6. on_bind h6 (λ limits e7 h7. on_bind h7 (λ replaced e8 h8. on_bind h8 (λ replacement e9 h9. on_bind h9 (λ name e10 h10. on_test h10 (λ o w.
    let t1 = fixed_spells cryptographic_algorithm enumeration aes t e1 in
    let t2 = spelled_spells 4 cryptographic_length integer r e2 in
    let t3 = spelled_spells 4 cryptographic_usage_mask integer bits.1 e3 in
    let t4 = spelled_spells 4 state_tag enumeration mask.1 e4 in
    let t5 = date_spells activation_date state.1 e5 in
    let t6 = date_spells deactivation_date starts.1 e6 in
    let t8 = link_in_spells replaced_object_link limits.1 e8 in
    let t9 = link_in_spells replacement_object_link replaced.1 e9 in
    let t10 = name_spells replacement.1 e10 in
    let t11 = ended_is name.1 o in
    let i = some_is w in
    let t7 : stops.1 ≡ limit_items s limits.1 = limits_spells stops.1 s e7 (ap limits_of i) in
    (ap (λ (x : Shown). x.serial) (sym i), cc))))))))))))

-- ---- the payload of each kind of success

pub created_back : (serial : ℕ) → serial_ok serial ≡ true
    → created_in (word object_type enumeration symmetric_key (named unique_identifier serial nil)) ≡ Some (Created serial)
unfolding created_in ended ◌>>=◌ ◌>>◌
created_back serial h = rw (fixed_back object_type enumeration symmetric_key _ (omega arith), serial_in_back)

pub created_spells : (t : Items) {o : Outcome} → created_in t ≡ Some o
    → (serial : ℕ) × (o ≡ Created serial) × (t ≡ word object_type enumeration symmetric_key (named unique_identifier serial nil))
unfolding created_in
created_spells t h =
    on_bind h (λ r e1 h1. on_bind h1 (λ serial e2 h2. on_test h2 (λ o w.
    let t1 = fixed_spells object_type enumeration symmetric_key t e1 in
    let t2 = serial_in_spells unique_identifier r e2 in
    let t3 = ended_is serial.1 o in
    (serial.0, sym (some_is w), cc))))

pub done_back : (serial : ℕ) → serial_ok serial ≡ true → done_in (named unique_identifier serial nil) ≡ Some (Done serial)
unfolding done_in ended ◌>>=◌ ◌>>◌
done_back serial h = rw serial_in_back

pub done_spells : (t : Items) {o : Outcome} → done_in t ≡ Some o → (serial : ℕ) × (o ≡ Done serial) × (t ≡ named unique_identifier serial nil)
unfolding done_in
done_spells t h =
    on_bind h (λ serial e h1. on_test h1 (λ o w.
    let t1 = serial_in_spells unique_identifier t e in
    let t2 = ended_is serial.1 o in
    (serial.0, sym (some_is w), cc)))

pub showed_back : (s : Shown) → shown_ok s ≡ true → showed_in (named unique_identifier s.serial (group attributes (attribute_items s) nil)) ≡ Some (Showed s)
unfolding showed_in body_of ifb ended ◌>>=◌ ◌>>◌
showed_back s h =
    let f = shown_facts s h in
    rw (serial_in_back unique_identifier s.serial _ f.serial_ok, shown_back s f)

pub showed_spells : (t : Items) {o : Outcome} → showed_in t ≡ Some o
    → (s : Shown) × (o ≡ Showed s) × (t ≡ named unique_identifier s.serial (group attributes (attribute_items s) nil))
unfolding showed_in
showed_spells t h =
    on_bind h (λ serial e1 h1. on_bind h1 (λ body e2 h2. on_test h2 (λ o h3. on_bind h3 (λ s e4 w.
    let t1 = serial_in_spells unique_identifier t e1 in
    let t2 = body_spells attributes serial.1 e2 in
    let t3 = ended_is body.1 o in
    let t4 = shown_spells serial.0 body.0 e4 in
    (s, sym (some_is w), cc)))))

-- ---- Locate, found or not

pub located_back : (serial : ℕ) → link_ok serial ≡ true → located_in (located_items serial) ≡ Some (Located serial)
unfolding located_items located_in or_unset ended ◌>>=◌ ◌>>◌
located_back serial h = on_bool (eqb serial 0) nothing there
  where
    nothing : eqb serial 0 ≡ true → located_in (located_items serial) ≡ Some (Located serial)
    nothing e = rw (ifb_true (eqb serial 0) nil (named unique_identifier serial nil) e, absent_back unique_identifier (serial_in unique_identifier) nil (unfold starts_with in refl), eqb-true serial 0 e)

    there : eqb serial 0 ≡ false → located_in (located_items serial) ≡ Some (Located serial)
    there e =
        let t = named unique_identifier serial nil in
        let ok = serial_linked serial e h in
        rw (ifb_false (eqb serial 0) nil t e, given_back unique_identifier (serial_in unique_identifier) t (unfold starts_with in refl) (serial_in_back unique_identifier serial nil ok))

pub located_spells : (t : Items) {o : Outcome} → located_in t ≡ Some o → (serial : ℕ) × (o ≡ Located serial) × (t ≡ located_items serial)
unfolding located_in located_items or_unset
located_spells t h =
    on_bind h (λ a e g. on_test g (λ u w.
    let spelled : t ≡ located_items (or_unset a.0) =
    on_optional unique_identifier (serial_in unique_identifier) t (λ b. ended b.1 ≡ true → t ≡ located_items (or_unset b.0)) e
    (λ z. ended_is t z ∙ sym (ifb_true _ _ _ refl))
    (λ serial rest r z. let p = serial_in_spells unique_identifier t r in p.0 ∙ ap (λ (x : Items). named unique_identifier serial x) (ended_is rest z) ∙ sym (ifb_false _ _ _ p.1))
    u in
    (or_unset a.0, sym (some_is w), spelled)))
