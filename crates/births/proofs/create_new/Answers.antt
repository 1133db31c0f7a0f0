-- `create_new` meets its contract: a new record in the place that is due, or nowhere to put one.
-- Assumes nothing.
use mathlib.Core.Path.{◌≡◌}
use native.Mathlib.Omega.{arith}
use Rattle.changes.specs.Changes.{serial_most}
use Rattle.births.proofs.Returns.{new_serial, new_place_lem, create_full, creates}
use Rattle.births.proofs.create_new.Goals as goal

pub overflow_add-serial : goal.overflow_add-serial
overflow_add-serial c = let unissued : c.last_serial-serial.result ≡ serial_most → ⊥ = search new_serial in omega arith

pub put_born-requires : goal.put_born-requires
put_born-requires c = search new_place_lem

pub returns-in-Some : goal.returns-in-Some
returns-in-Some c = search creates

pub returns-in-None : goal.returns-in-None
returns-in-None c = search create_full
