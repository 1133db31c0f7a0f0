-- `place_for_new` meets its contract: no place is given where every serial is issued.
-- Assumes nothing.
use Rattle.births.proofs.Returns.{place_none, place_found}
use Rattle.births.proofs.place_for_new.Goals as goal

pub returns-then-last_serial-eq-SERIAL_MOST : goal.returns-then-last_serial-eq-SERIAL_MOST
returns-then-last_serial-eq-SERIAL_MOST c = search place_none

pub returns : goal.returns
returns c = search place_found
