-- `batch::carry_item`. What the functions answer, put together by one law.
-- Assumes nothing.
use native.Mathlib.Omega.{arith}
use Rattle.batch.proofs.Item.{start_within, start_run, carried_is}
use Rattle.batch.proofs.carry_item.Goals as goal

pub slice_bounds-items-count : goal.slice_bounds-items-count
slice_bounds-items-count c = start_within c.requires.reads c.read_item-parts.ensures

pub slice_bounds-items-start : goal.slice_bounds-items-start
slice_bounds-items-start c = let within = slice_bounds-items-count c in omega arith

pub invariant_of-items : goal.invariant_of-items
invariant_of-items c = record { run = start_run c.requires.reads c.read_item-parts.ensures }

pub returns : goal.returns
returns c =
    carried_is c.requires.reads c.read_item-parts.ensures c.perform-performed.result c.read_command-command.ensures c.perform-performed.ensures
