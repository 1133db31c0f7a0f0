-- `records_write::put_body`. The seven fields, written one after another, are the body.
-- Assumes nothing.
use mathlib.Core.Path.{◌≡◌}
use lib.ListN.{length}
use Rattle.table.specs.Layout.{material_size}
use Rattle.table.proofs.Lines.{body_chain}
use borrow.Author.Rules.{rules}
use Rattle.records_write.proofs.put_body.Statement.{statement}
use Rattle.records_write.proofs.put_body.Tie as tie

-- the material has as many bytes as its type says
whole : (s : tie.Start) → length s.args.material ≡ material_size
whole s = search rules

overflow_add-at : tie.Need-overflow_add-at
overflow_add-at c = search rules

put-requires : tie.Need-put-requires
put-requires c κs = search rules

overflow_add-at-2 : tie.Need-overflow_add-at-2
overflow_add-at-2 c = search rules

put-requires-2 : tie.Need-put-requires-2
put-requires-2 c κs = search rules

overflow_add-at-3 : tie.Need-overflow_add-at-3
overflow_add-at-3 c = search rules

put-requires-3 : tie.Need-put-requires-3
put-requires-3 c κs = search rules

overflow_add-at-4 : tie.Need-overflow_add-at-4
overflow_add-at-4 c = search rules

put-requires-4 : tie.Need-put-requires-4
put-requires-4 c κs = search rules

overflow_add-at-5 : tie.Need-overflow_add-at-5
overflow_add-at-5 c = search rules

slice_bounds-put_all-end : tie.Need-slice_bounds-put_all-end
slice_bounds-put_all-end c = search rules

put_all-requires : tie.Need-put_all-requires
put_all-requires c κs = search rules

overflow_add-at-6 : tie.Need-overflow_add-at-6
overflow_add-at-6 c = search rules

put-requires-5 : tie.Need-put-requires-5
put-requires-5 c κs = search rules

overflow_add-at-7 : tie.Need-overflow_add-at-7
overflow_add-at-7 c = search rules

put-requires-6 : tie.Need-put-requires-6
put-requires-6 c κs = search rules

shape_of-t : tie.Need-shape_of-t
shape_of-t c = search rules

returns : tie.Need-returns
returns c =
    let a = c.args in
    body_chain a.t.now a.at a.total a.count a.mask _ _ _ (whole c.before.before.before.before.before.before.before.before.before.before.before.before.before.before.before.before.before.before.before.before.before.before.before.before.before.before.before.before.before.before)
    c.put.ensures
    c.put-2.ensures
    c.put-3.ensures
    c.put-4.ensures
    c.put_all.ensures
    c.put-5.ensures
    c.put-6.ensures

pub put_body_spec : {M : Type 1} → statement M
put_body_spec =
    tie.close
    (tie.spec
    overflow_add-at
    put-requires
    overflow_add-at-2
    put-requires-2
    overflow_add-at-3
    put-requires-3
    overflow_add-at-4
    put-requires-4
    overflow_add-at-5
    slice_bounds-put_all-end
    put_all-requires
    overflow_add-at-6
    put-requires-5
    overflow_add-at-7
    put-requires-6
    shape_of-t
    returns)
