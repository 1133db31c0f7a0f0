-- `give_at` meets its contract: a destroyed key is refused, and any other is handed out.
-- Assumes nothing.
use Rattle.deeds.proofs.Returns.{gives_none, gives}
use Rattle.deeds.proofs.give_at.Goals as goal

pub returns-then-is_destroyed : goal.returns-then-is_destroyed
returns-then-is_destroyed c =
    gives_none _ _ _ c.load-given.ensures _ c.is_destroyed.ensures c.if-is_destroyed.true _ c.fail.ensures

pub returns : goal.returns
returns c =
    gives _ _ _ c.load-given.ensures _ c.is_destroyed.ensures c.if-is_destroyed.false _ c.words_of.ensures
