-- `soundness::standing_right`. The tests are the definition's, in its order.
-- Assumes nothing.
use mathlib.Core.Path.{sym, ap, ◌∙◌}
use lib.Dec.{lit≤}
use Rattle.table.specs.declared.Record.{Record}
use Rattle.table.proofs.Places.{serial_is}
use Rattle.soundness.proofs.Checked.{standing_parts}
use Rattle.soundness.proofs.standing_right.Goals as goal

pub end_right-back-requires : goal.end_right-back-requires
end_right-back-requires c = record { sized = c.requires.reached.place.sized; in_line = lit≤ tt }

pub end_right-forth-requires : goal.end_right-forth-requires
end_right-forth-requires c = record { sized = c.requires.reached.place.sized; in_line = lit≤ tt }

pub own_place-serial-requires : goal.own_place-serial-requires
own_place-serial-requires c =
    let a = c.args in
    let p = c.requires in
    record {
      place = p.reached.place;
      own = ap (λ (r : Record). r.serial) p.held ∙ sym (serial_is a.n a.t.now a.i);
      highest = p.reached.highest;
    }

pub own_name-requires : goal.own_name-requires
own_name-requires c = c.requires.reached.place.sized

pub returns : goal.returns
returns c =
    let a = c.args in
    standing_parts a.n a.t.now a.i a.last a.latest a.p
    c.requires.reached.issued
    c.requires.reached.seen
    c.zeros_right.ensures
    c.values_right.ensures
    c.material_right.ensures
    c.serials_right.ensures
    c.times_right.ensures
    c.own_place-serial.ensures
    c.end_right-back.ensures
    c.end_right-forth.ensures
    c.own_name.ensures
