-- `lines::find`. The place of the first byte that passes, or the length.
-- Assumes nothing.
use Rattle.lines.proofs.Lines.{place_found}
use Rattle.lines.proofs.find.Goals as goal

pub returns : goal.returns
returns c = place_found c.args.b c.args.s.now c.place.ensures c.unwrap_or.ensures
