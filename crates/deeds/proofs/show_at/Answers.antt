-- `show_at` meets its contract: what it shows is the record at the place.
-- Assumes nothing.
use mathlib.Core.Path.{ap}
use Rattle.plans.specs.Plans.{shown_of}
use Rattle.deeds.specs.Deeds.{showing}
use Rattle.deeds.proofs.show_at.Goals as goal

pub returns : goal.returns
unfolding shown_of
returns c =
    ap (showing c.args.holder) c.load-shown.ensures
