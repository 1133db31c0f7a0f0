-- `treelib::print_items`. An item ends within what is left.
-- Assumes nothing.
use Rattle.std.proofs.Common.{sym, ◌∙◌, arith, length-take, length-drop}
use Rattle.ttlv.proofs.Step.{value_ends, group_ends}
use Rattle.treelib.proofs.+print_items.Goals as goal

pub overflow_add-stop : goal.overflow_add-stop
overflow_add-stop g t c = let w = value_ends c.loop-tag.t.now (sym c.read_first.ensures ∙ c.in-Value.is) in omega arith

pub slice_bounds-print_value-end : goal.slice_bounds-print_value-end
slice_bounds-print_value-end g t c = let w = value_ends c.loop-tag.t.now (sym c.read_first.ensures ∙ c.in-Value.is) in omega arith

pub slice_bounds-t-count : goal.slice_bounds-t-count
slice_bounds-t-count g t c = let w = value_ends c.loop-tag.t.now (sym c.read_first.ensures ∙ c.in-Value.is) in omega arith

pub slice_bounds-t-start : goal.slice_bounds-t-start
slice_bounds-t-start g t c = let w = value_ends c.loop-tag.t.now (sym c.read_first.ensures ∙ c.in-Value.is) in omega arith

pub loop-tag-smaller-in-Value : goal.loop-tag-smaller-in-Value
loop-tag-smaller-in-Value g t c =
    let w = value_ends c.loop-tag.t.now (sym c.read_first.ensures ∙ c.in-Value.is) in
    rw (length-take, length-drop) (omega arith)

pub overflow_sub-next : goal.overflow_sub-next
overflow_sub-next g t c = let w = group_ends c.loop-tag.t.now (sym c.read_first.ensures ∙ c.in-Group.is) in omega arith

pub slice_bounds-print_items-count : goal.slice_bounds-print_items-count
slice_bounds-print_items-count g t c = let w = group_ends c.loop-tag.t.now (sym c.read_first.ensures ∙ c.in-Group.is) in omega arith

pub slice_bounds-print_items-start : goal.slice_bounds-print_items-start
slice_bounds-print_items-start g t c = let w = group_ends c.loop-tag.t.now (sym c.read_first.ensures ∙ c.in-Group.is) in omega arith

pub slice_bounds-print_items-end : goal.slice_bounds-print_items-end
slice_bounds-print_items-end g t c = let w = group_ends c.loop-tag.t.now (sym c.read_first.ensures ∙ c.in-Group.is) in omega arith

pub slice_bounds-t-count-in-Group : goal.slice_bounds-t-count-in-Group
slice_bounds-t-count-in-Group g t c = let w = group_ends c.loop-tag.t.now (sym c.read_first.ensures ∙ c.in-Group.is) in omega arith

pub slice_bounds-t-start-in-Group : goal.slice_bounds-t-start-in-Group
slice_bounds-t-start-in-Group g t c = let w = group_ends c.loop-tag.t.now (sym c.read_first.ensures ∙ c.in-Group.is) in omega arith

pub loop-tag-smaller : goal.loop-tag-smaller
loop-tag-smaller g t c =
    let w = group_ends c.loop-tag.t.now (sym c.read_first.ensures ∙ c.in-Group.is) in
    rw (length-take, length-drop) (omega arith)
