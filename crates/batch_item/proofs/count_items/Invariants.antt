-- `batch_item::count_items`. What is counted and what is left decide; what is left is shorter.
-- Assumes nothing.
use mathlib.Core.Path.{◌≡◌}
use Prim.Native.Nat.{◌+◌, ◌≤◌}
use Rattle.ttlv.specs.Tree.{tree_of}
use Rattle.ttlv.proofs.Sizes.{size}
use Rattle.batch_item.specs.Item.{items_in}
use Rattle.batch_item.specs.Readers.{items_read}
use Rattle.batch_item.proofs.Items.{counted}
use Rattle.batch_item.proofs.count_items.Given as goal

abbrev pub invariant-loop-rest : goal.invariant-loop-rest
invariant-loop-rest l =
    (items_read (items_in (tree_of l.run.bytes.now)) ≡ counted l.count (items_in (tree_of l.rest.bytes.now))) × (l.count + size (tree_of l.rest.bytes.now) ≤ size (tree_of l.run.bytes.now))

abbrev pub decreases-loop-rest : goal.decreases-loop-rest
decreases-loop-rest l = size (tree_of l.rest.bytes.now)
