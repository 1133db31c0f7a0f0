-- `rekey_at` meets its contract: destroyed first, then replaced, then the Offset, then where the new one goes.
-- Assumes nothing.
use Rattle.births.proofs.Returns.{rekey_destroyed, rekey_twice, rekey_wrong, rekeys}
use Rattle.births.proofs.rekey_at.Goals as goal

pub returns-then-is_destroyed : goal.returns-then-is_destroyed
returns-then-is_destroyed c = search rekey_destroyed

pub returns-then-old-ne0 : goal.returns-then-old-ne0
returns-then-old-ne0 c = search rekey_twice

pub returns-in-Some : goal.returns-in-Some
returns-in-Some c =
    rekeys _ _ _ _ _ _ c.load-old.ensures _ c.is_destroyed.ensures c.if-is_destroyed.false c.if-old-ne0.false
    _ c.latest_clock.ensures _ c.heir_dates.ensures _ c.in-Some.is _ c.replace_at.ensures

pub returns-in-None : goal.returns-in-None
returns-in-None c =
    rekey_wrong _ _ _ _ _ _ c.load-old.ensures _ c.is_destroyed.ensures c.if-is_destroyed.false c.if-old-ne0.false
    _ c.latest_clock.ensures _ c.heir_dates.ensures c.in-None.is _ c.fail-in-None.ensures
