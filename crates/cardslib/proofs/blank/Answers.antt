-- `cardslib::blank`. The count that the line says is one of those that there are, so that the size is small.
-- Assumes nothing.
use Rattle.std.proofs.Common.{sym, arith}
use Rattle.commands.proofs.Places.{places_most}
use Rattle.cardslib.proofs.blank.Goals as goal

pub size-size-requires : goal.size-size-requires
size-size-requires c =
    let most = places_most c.args.rest.now (sym c.in_ok-n.ensures) in
    omega arith
