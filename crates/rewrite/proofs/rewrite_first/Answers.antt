-- `rewrite::rewrite_first`. What the view of a run says of its front, arm by arm.
-- Assumes nothing.
use Prim.Native.Nat.{◌+◌, ◌-◌, ◌≤◌}
use mathlib.Core.Path.{◌≡◌, sym, ◌∙◌}
use native.Mathlib.Omega.{arith}
use lib.ListN.{length}
use Rattle.octets.specs.Octets.{Bytes}
use Rattle.octets.proofs.Numbers.{bytes_of}
use Rattle.ttlv.specs.Parse.{first_of}
use Rattle.ttlv.specs.declared.First.TheVariants.{Value, Group}
use Rattle.ttlv.proofs.Tree.{tree_bad, group_rest}
use Rattle.rewrite.proofs.Front.{value_fine, value_within, value_again, group_again, not_end}
use Rattle.rewrite.proofs.rewrite_first.Goals.{In-Group, In-Value}
use Rattle.rewrite.proofs.rewrite_first.Goals as goal

-- ---- the arm of a value

front_value : (c : In-Value) → first_of c.args.t.now ≡ Value c.in-Value.tag c.in-Value.kind c.in-Value.len c.in-Value.next
front_value c = sym c.read_first.ensures ∙ c.in-Value.is

value_bytes : (c : In-Value) → Bytes c.args.t.now
value_bytes c = bytes_of c.args.t.now (λ i. (c.shared_slice_known-1.given i).fits)

value_ends : (c : In-Value) → 8 + c.in-Value.len ≤ length c.args.t.now
value_ends c = value_within c.args.t.now c.requires.1.0 (front_value c)

-- ---- the arm of a structure

front_group : (c : In-Group) → first_of c.args.t.now ≡ Group c.in-Group.tag c.in-Group.next
front_group c = sym c.read_first.ensures ∙ c.in-Group.is

group_bytes : (c : In-Group) → Bytes c.args.t.now
group_bytes c = bytes_of c.args.t.now (λ i. (c.shared_slice_known-1.given i).fits)

-- ---- the needs

pub overflow_add-stop : goal.overflow_add-stop
overflow_add-stop c = let l = value_ends c in omega arith

pub slice_bounds-rewrite_value-end : goal.slice_bounds-rewrite_value-end
slice_bounds-rewrite_value-end c = omega (arith, value_ends (goal.at.slice_bounds-rewrite_value-end c).In-Value)

pub rewrite_value-requires : goal.rewrite_value-requires
rewrite_value-requires c =
    let f = value_fine c.args.t.now (value_bytes (goal.at.rewrite_value-requires c).In-Value) c.requires.1.0 (front_value (goal.at.rewrite_value-requires c).In-Value) in
    let n = c.in-Value.len in
    let m : 8 + n - 8 ≡ n = omega arith in
    (f.plain, rw m f.allowed, rw m f.valued)

pub overflow_sub-next : goal.overflow_sub-next
overflow_sub-next c =
    let g = group_rest c.args.t.now c.requires.1.0 (front_group (goal.at.overflow_sub-next c).In-Group) in
    omega (arith, g.past)

pub returns-in-End : goal.returns-in-End
returns-in-End c =
    absurd (not_end c.args.t.now c.requires.1.0 c.requires.0 (sym c.read_first.ensures ∙ c.in-End.is))

pub returns-in-Bad : goal.returns-in-Bad
returns-in-Bad c =
    absurd (tree_bad c.args.t.now c.requires.1.0 (sym c.read_first.ensures ∙ c.in-Bad.is))

pub returns-in-Value : goal.returns-in-Value
returns-in-Value c =
    let k : 8 + c.in-Value.len - 8 ≡ c.in-Value.len = omega arith in
    value_again c.args.t.now (value_bytes (goal.at.returns-in-Value c).In-Value) c.requires.1.0 (front_value (goal.at.returns-in-Value c).In-Value) c.requires.1.1 (rw k at c.rewrite_value.ensures)

pub returns-in-Group : goal.returns-in-Group
returns-in-Group c =
    group_again c.args.t.now (group_bytes (goal.at.returns-in-Group c).In-Group) c.requires.1.0 (front_group (goal.at.returns-in-Group c).In-Group) c.requires.1.1 c.write_structure.ensures
