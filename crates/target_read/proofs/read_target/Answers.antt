-- `target_read::read_target`. By the tag of the item at the front, and then by its type.
-- Assumes nothing.
use Rattle.std.specs.Prelude.{Option, Some}
use mathlib.Core.Path.{◌≡◌, sym, ap, ◌∙◌}
use Prim.Native.Nat.{ℕ, ◌+◌, ◌-◌}
use native.Mathlib.Omega.{arith}
use mathlib.Core.Bool.{Bool}
use borrow.Author.Tests.{eqb-true}
use Rattle.octets.specs.Octets.{part}
use Rattle.octets.proofs.If.{ifb_true, ifb_false}
use Rattle.ttlv_types.specs.Types.{text_string}
use Rattle.ttlv.proofs.Step.{Holds, value_ends}
use Rattle.fields.specs.Found.{starts_in, starts_at, bytes_in, bytes_at}
use Rattle.fields.proofs.Found.{no_value_first, other_kind, wanted}
use Rattle.tags.specs.Tags.{unique_identifier}
use Rattle.identifier.specs.Identifier.{serial_of}
use Rattle.target_read.specs.Readers.{target_span, target_at}
use Rattle.target_read.specs.declared.Target.TheVariants.{Serial}
use Rattle.target_read.proofs.read_target.Goals.{After-is_tagged, Else-kind-ne-TEXT_STRING, Else-not-is_tagged, In-Value}
use Rattle.target_read.proofs.read_target.Goals as goal

-- ---- the item at the front, and whether it is an identifier

starts : (c : After-is_tagged) {b : Bool} → c.is_tagged.result ≡ b → starts_at c.args.s.now unique_identifier ≡ b
unfolding starts_at
starts c e = ap (starts_in unique_identifier) (sym c.read_first-item.ensures) ∙ sym c.is_tagged.ensures ∙ e

pub returns-then-not-is_tagged : goal.returns-then-not-is_tagged
unfolding target_at
returns-then-not-is_tagged c = sym (ifb_false _ _ _ (starts (goal.at.returns-then-not-is_tagged c).After-is_tagged c.if-not-is_tagged.true))

-- ---- an identifier is there: what its bytes give is the answer

given : (c : Else-not-is_tagged) {b : Option (ℕ × ℕ)} → bytes_in unique_identifier text_string c.read_first-item.result ≡ b → target_at c.args.s.now ≡ target_span c.args.s.now b
unfolding target_at bytes_at
given c e =
    ifb_true _ _ _ (starts (goal.at.Else-not-is_tagged c).After-is_tagged c.if-not-is_tagged.false)
    ∙ ap (target_span c.args.s.now) (ap (bytes_in unique_identifier text_string) (sym c.read_first-item.ensures) ∙ e)

pub returns-in_default : goal.returns-in_default
unfolding target_span
returns-in_default c = sym (given (goal.at.returns-in_default c).Else-not-is_tagged (no_value_first unique_identifier text_string _ c.in_default.not-Value))

-- ---- it has a value: its tag is the identifier's

tag_is : (c : In-Value) → c.in-Value.tag ≡ unique_identifier
unfolding starts_in
tag_is c =
    eqb-true c.in-Value.tag unique_identifier (ap (starts_in unique_identifier) (sym c.in-Value.is) ∙ sym c.is_tagged.ensures ∙ c.if-not-is_tagged.false)

ends : (c : In-Value) → Holds c.args.s.now c.in-Value.kind c.in-Value.len c.in-Value.next
ends c = value_ends c.args.s.now (sym c.read_first-item.ensures ∙ c.in-Value.is)

pub returns-then-kind-ne-TEXT_STRING : goal.returns-then-kind-ne-TEXT_STRING
unfolding target_span
returns-then-kind-ne-TEXT_STRING c =
    sym (given (goal.at.returns-then-kind-ne-TEXT_STRING c).Else-not-is_tagged (ap (bytes_in unique_identifier text_string) c.in-Value.is ∙ other_kind unique_identifier text_string _ _ _ _ (tag_is (goal.at.returns-then-kind-ne-TEXT_STRING c).In-Value) c.if-kind-ne-TEXT_STRING.true))

-- ---- it is a Text String

span : (c : Else-kind-ne-TEXT_STRING) → bytes_in unique_identifier text_string c.read_first-item.result ≡ Some (c.in-Value.len, c.in-Value.next)
span c =
    ap (bytes_in unique_identifier text_string) c.in-Value.is
    ∙ wanted unique_identifier text_string _ _ _ _ (tag_is (goal.at.Else-kind-ne-TEXT_STRING c).In-Value) c.if-kind-ne-TEXT_STRING.false

pub overflow_add-stop : goal.overflow_add-stop
overflow_add-stop c = omega (arith, ends (goal.at.overflow_add-stop c).In-Value)

pub slice_bounds-serial_of-end : goal.slice_bounds-serial_of-end
slice_bounds-serial_of-end c = omega (arith, ends (goal.at.slice_bounds-serial_of-end c).In-Value)

pub returns : goal.returns
unfolding target_span
returns c =
    let v = c.in-Value in
    let cut : 8 + v.len - 8 ≡ v.len = omega arith in
    ap (λ (x : ℕ). Some (Serial x, v.next)) (c.serial_of-serial.ensures ∙ ap (λ (m : ℕ). serial_of (part c.args.s.now 8 m)) cut)
    ∙ sym (given (goal.at.returns c).Else-not-is_tagged (span (goal.at.returns c).Else-kind-ne-TEXT_STRING))
