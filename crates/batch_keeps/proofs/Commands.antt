-- What a command says of the operation that asked for it, and of the values that its payload may have.
-- Assumes nothing.
use Prim.Native.Nat.{ℕ, ◌^◌, ◌≤◌, ◌<◌}
use mathlib.Core.Path.{◌≡◌, refl, sym, ap, ◌∙◌, subst}
use mathlib.Core.Logic.{◌⊎◌, inl, inr, ⊎_elim}
use mathlib.Core.Bool.{true}
use Rattle.std.specs.Prelude.{Option, None, Some}
use native.Mathlib.Omega.{arith}
use lib.Dec.{leb, ltb}
use borrow.Author.Tests.{eqb-true, leb-true, ltb-true}
use Rattle.octets.proofs.Bools.{and_r, or_cases}
use Rattle.ttlv.specs.Items.{Items}
use Rattle.values.specs.Values.{bits_ok, mask_ok, unit_ok, total_ok}
use Rattle.rules.specs.declared.Attributes.{Attributes}
use Rattle.rules.specs.Numbers.{create, locate, rekey, get, get_attributes, get_usage_allocation, activate, revoke, destroy}
use Rattle.keeps.proofs.Begun.{Allowed}
use Rattle.target_read.specs.declared.Target.{Target}
use Rattle.payload.specs.declared.Command.{Command}
use Rattle.payload.specs.declared.Command.TheVariants.{Unsupported, Invalid, Create, Rekey, GetUsageAllocation, Activate, Revoke, Destroy, GetAttributes, Get, Locate}
use Rattle.fields.specs.Fields.{optional}
use Rattle.utf8.specs.Text.{text}
use Rattle.names.specs.declared.Name.{Name}
use Rattle.names.specs.Names.{name_text, shape_right}
use Rattle.names.proofs.Stored.{NameRange, none_range}
use Rattle.names.proofs.Texts.{of_range, of_shape, of_text, ok_bytes, none_shape, none_text}
use Rattle.name_read.specs.Name.{name_body, name_first, or_no_name, last_name_in}
use Rattle.tags.specs.Tags.{activation_date, deactivation_date, name_tag, usage_limits}
use Rattle.attributes_read.specs.declared.Limit.{Limit}
use Rattle.attributes_read.specs.Attributes.{limit_in, limit_first, date_first, or_unset, dated_in, wanted_of, limited_in, masked_in, attributes_in}
use Rattle.payload.specs.Payload.{create_in, or_invalid, command}
use Rattle.payload.specs.Reasons.{operation_of, reason_of}
use Rattle.payload.proofs.Commands.{of_create}
use Rattle.payload.proofs.Reasons.{command_operation}
use Rattle.octets.proofs.Maybe.{not_some, some_is, on_bind, on_test}
use Rattle.answer.proofs.Fields.{on_optional}

-- the operation of each command, and what a Create may ask for
pub data Commanded (operation : ℕ) : Command → Type 0 where
  not_supported : Commanded operation Unsupported
  not_valid : Commanded operation Invalid
  to_create : {wanted : Attributes} → operation ≡ create → Allowed wanted → Commanded operation (Create wanted)
  to_rekey : {target : Target} {offset : Option ℕ} → operation ≡ rekey → Commanded operation (Rekey target offset)
  to_allocate : {target : Target} {amount : ℕ} → operation ≡ get_usage_allocation → Commanded operation (GetUsageAllocation target amount)
  to_activate : {target : Target} → operation ≡ activate → Commanded operation (Activate target)
  to_revoke : {target : Target} {code : ℕ} → operation ≡ revoke → Commanded operation (Revoke target code)
  to_destroy : {target : Target} → operation ≡ destroy → Commanded operation (Destroy target)
  to_show : {target : Target} → operation ≡ get_attributes → Commanded operation (GetAttributes target)
  to_get : {target : Target} → operation ≡ get → Commanded operation (Get target)
  to_locate : {name : Name} → operation ≡ locate → Commanded operation (Locate name)

-- ---- Create

pub limit_ok : (t : Items) (limit : Limit) → limit_in t ≡ Some limit → (unit_ok limit.unit ≡ true) × (total_ok limit.total ≡ true)
unfolding limit_in
limit_ok t limit h =
    on_bind h λ a e1 h1. on_test h1 λ total h2. on_bind h2 λ b e2 h3. on_test h3 λ unit h4. on_test h4 λ end h5.
    subst (λ (l : Limit). (unit_ok l.unit ≡ true) × (total_ok l.total ≡ true)) (some_is h5) (unit, total)

-- dates that Create allows
record Dates (a d : ℕ) : Type 0 where
  activation : a < 2 ^ 63
  deactivation : d < 2 ^ 63
  order : (d ≡ 0) ⊎ (a ≤ d)

-- a name that Create allows: none, or one as a sound table has it
record Called (m : Name) : Type 0 where
  range : NameRange m
  shape : shape_right m ≡ true
  is : text (name_text m) ≡ true

wanted_ok : (bits mask activation deactivation : ℕ) (name : Name) → bits_ok bits ≡ true → mask_ok mask ≡ true → Dates activation deactivation → Called name → (o : Option Limit)
    → ((limit : Limit) → o ≡ Some limit → (unit_ok limit.unit ≡ true) × (total_ok limit.total ≡ true)) → Allowed (wanted_of bits mask o activation deactivation name)
unfolding wanted_of
wanted_ok bits mask activation deactivation name b m d c None h =
    record { bits = b; mask = m; limit = inl (refl, refl); activation = d.activation; deactivation = d.deactivation; order = d.order; name = c.range; shape = c.shape; text = c.is }
wanted_ok bits mask activation deactivation name b m d c (Some limit) h =
    record { bits = b; mask = m; limit = inr (h limit refl); activation = d.activation; deactivation = d.deactivation; order = d.order; name = c.range; shape = c.shape; text = c.is }

-- a name that is given is text of 1 to 32 bytes, and one that is not is none
body_ok : (t : Items) (m : Name) → name_body t ≡ Some m → Called m
unfolding name_body
body_ok t m h =
    on_bind h λ v e1 h1. on_test h1 λ ok h2. on_bind h2 λ kind e2 h3. on_test h3 λ one h4. on_test h4 λ end h5.
    subst Called (some_is h5) (record { range = of_range v.0 (ok_bytes v.0 ok); shape = of_shape v.0 ok; is = of_text v.0 ok })

name_first_ok : (t : Items) {a : Name × Items} → name_first t ≡ Some a → Called a.0
unfolding name_first
name_first_ok t h = on_bind h λ b e1 h1. on_bind h1 λ m e2 h2. subst (λ (p : Name × Items). Called p.0) (some_is h2) (body_ok b.0 m e2)

name_ok_lem : (t : Items) {m : Name} → last_name_in t ≡ Some m → Called m
unfolding last_name_in or_no_name
name_ok_lem t h =
    on_bind h λ a e1 h1. on_test h1 λ end h2.
    subst Called (some_is h2)
    (on_optional name_tag name_first t (λ (p : Option Name × Items). Called (or_no_name p.0)) e1
    (record { range = none_range; shape = none_shape; is = none_text })
    (λ m rest e. name_first_ok t e))

-- a date that is given is above 0, and one that is not is 0
date_ok : (tag : ℕ) (t : Items) {a : Option ℕ × Items} → optional tag (date_first tag) t ≡ Some a → or_unset a.0 < 2 ^ 63
unfolding or_unset date_first
date_ok tag t h =
    on_optional tag (date_first tag) t (λ (p : Option ℕ × Items). or_unset p.0 < 2 ^ 63) h (omega arith)
    (λ date rest e. on_bind e λ a e1 h1. on_test h1 λ above h2.
    subst (λ (p : ℕ × Items). p.0 < 2 ^ 63) (some_is h2) (ltb-true a.0 (2 ^ 63) (and_r (leb 1 a.0) (ltb a.0 (2 ^ 63)) above)))

dated_ok : (t : Items) {a : ℕ × ℕ × Name} → dated_in t ≡ Some a → Dates a.0 a.1 × Called a.2
unfolding dated_in
dated_ok t h =
    on_bind h λ a e1 h1. on_bind h1 λ d e2 h2. on_test h2 λ order h3. on_bind h3 λ m e4 h4.
    subst (λ (p : ℕ × ℕ × Name). Dates p.0 p.1 × Called p.2) (some_is h4) (
      record {
        activation = date_ok activation_date t e1;
        deactivation = date_ok deactivation_date a.1 e2;
        order = ⊎_elim (λ z. inl (eqb-true (or_unset d.0) 0 z)) (λ z. inr (leb-true (or_unset a.0) (or_unset d.0) z)) (or_cases _ _ order);
      },
      name_ok_lem d.1 e4,
    )

first_ok : (mask : ℕ) (t : Items) (a : Limit × Items) → limit_first mask t ≡ Some a → (unit_ok a.0.unit ≡ true) × (total_ok a.0.total ≡ true)
unfolding limit_first
first_ok mask t a h =
    on_test h λ protected h0. on_bind h0 λ b e1 h1. on_bind h1 λ limit e2 h2.
    subst (λ (p : Limit × Items). (unit_ok p.0.unit ≡ true) × (total_ok p.0.total ≡ true)) (some_is h2) (limit_ok b.0 limit e2)

masked_ok : (bits : ℕ) (t : Items) (wanted : Attributes) → bits_ok bits ≡ true → masked_in bits t ≡ Some wanted → Allowed wanted
unfolding masked_in limited_in
masked_ok bits t wanted good h =
    on_bind h λ m e1 h1. on_test h1 λ mask h2. on_bind h2 λ l e2 h3. on_bind h3 λ dates e3 h4.
    let right = dated_ok l.1 e3 in
    subst Allowed (some_is h4)
    (on_optional usage_limits (limit_first m.0) m.1 (λ (p : Option Limit × Items). Allowed (wanted_of bits m.0 p.0 dates.0 dates.1 dates.2)) e2
    (wanted_ok bits m.0 dates.0 dates.1 dates.2 good mask right.0 right.1 None (λ limit z. absurd (not_some z)))
    (λ x rest e. wanted_ok bits m.0 dates.0 dates.1 dates.2 good mask right.0 right.1 (Some x)
    (λ limit z. subst (λ (y : Limit). (unit_ok y.unit ≡ true) × (total_ok y.total ≡ true)) (some_is z) (first_ok m.0 m.1 (x, rest) e))))

attributes_ok : (t : Items) (wanted : Attributes) → attributes_in t ≡ Some wanted → Allowed wanted
unfolding attributes_in
attributes_ok t wanted h =
    on_bind h λ a e1 h1. on_test h1 λ algorithm h2. on_bind h2 λ b e2 h3. on_test h3 λ bits h4. masked_ok b.0 b.1 wanted bits h4

create_ok : (t : Items) (wanted : Attributes) → or_invalid (create_in t) ≡ Create wanted → Allowed wanted
unfolding create_in or_invalid
create_ok t wanted h =
    on_bind (read (create_in t) h) λ a e1 h1. on_test h1 λ kind h2. on_bind h2 λ b e2 h3. on_test h3 λ end h4. on_bind h4 λ v e4 h5.
    attributes_ok b.0 wanted (e4 ∙ ap (λ (x : Attributes). Some x) (made (some_is h5)))
  where
    read : (o : Option Command) → or_invalid o ≡ Create wanted → o ≡ Some (Create wanted)
    read None z = let y : ◌≡◌ {A = ℕ} 0 1 = cc in absurd (omega arith)
    read (Some c) z = ap (λ (x : Command). Some x) z

    made : {v : Attributes} → Create v ≡ Create wanted → v ≡ wanted
    made z = cc

-- ---- every operation

module _ (operation : ℕ) (t : Items) where
  -- a command that does not fail by itself is of the operation that asked for it
  is : {c : Command} {n : ℕ} → command operation t ≡ c → reason_of c ≡ None → operation_of c ≡ Some n → operation ≡ n
  is e r o = some_is (sym (command_operation operation t (ap reason_of e ∙ r)) ∙ ap operation_of e ∙ o)

  by_command : (c : Command) → command operation t ≡ c → Commanded operation c
  unfolding reason_of operation_of
  by_command Unsupported e = not_supported
  by_command Invalid e = not_valid
  by_command (Create wanted) e =
      let o = is e refl refl in
      to_create o (create_ok t wanted (sym (of_create operation t o) ∙ e))
  by_command (Rekey target offset) e = to_rekey (is e refl refl)
  by_command (GetUsageAllocation target amount) e = to_allocate (is e refl refl)
  by_command (Activate target) e = to_activate (is e refl refl)
  by_command (Revoke target code) e = to_revoke (is e refl refl)
  by_command (Destroy target) e = to_destroy (is e refl refl)
  by_command (GetAttributes target) e = to_show (is e refl refl)
  by_command (Get target) e = to_get (is e refl refl)
  by_command (Locate name) e = to_locate (is e refl refl)

  pub commanded : Commanded operation (command operation t)
  commanded = by_command (command operation t) refl
