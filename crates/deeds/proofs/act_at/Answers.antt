-- `act_at` meets its contract, deed by deed.
-- Assumes nothing.
use Rattle.deeds.proofs.Returns.{does_replace, does_allocate, does_move, does_show, does_give}
use Rattle.deeds.proofs.act_at.Goals as goal

pub returns-in-Replace : goal.returns-in-Replace
returns-in-Replace c = search does_replace

pub returns-in-Allocate : goal.returns-in-Allocate
returns-in-Allocate c = search does_allocate

pub returns-in-Move : goal.returns-in-Move
returns-in-Move c = search does_move

pub returns-in-Show : goal.returns-in-Show
returns-in-Show c = search does_show

pub returns-in-Give : goal.returns-in-Give
returns-in-Give c = search does_give
