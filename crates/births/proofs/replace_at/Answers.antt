-- `replace_at` meets its contract: the heir in the place that is due, or nowhere to put one.
-- Assumes nothing.
use mathlib.Core.Path.{◌≡◌}
use native.Mathlib.Omega.{arith}
use Rattle.changes.specs.Changes.{serial_most}
use Rattle.births.proofs.Returns.{new_serial, heir_place, replace_full, replaces}
use Rattle.births.proofs.replace_at.Goals as goal

pub overflow_add-serial : goal.overflow_add-serial
overflow_add-serial c = let unissued : c.last_serial-serial.result ≡ serial_most → ⊥ = search new_serial in omega arith

pub put_heir-requires : goal.put_heir-requires
put_heir-requires c = search heir_place

pub returns-in-Some : goal.returns-in-Some
returns-in-Some c =
    replaces _ _ _ _ _ _ _ c.place_for_new.ensures _ c.in-Some.is _ c.last_serial-serial.ensures
    _ c.latest_clock-clock.ensures _ c.heir_of-heir.ensures _ c.put_heir.ensures

pub returns-in-None : goal.returns-in-None
returns-in-None c = search replace_full
