-- `twin_rules::own_place`. Above all lower serials there is no twin below; else it is what the search found.
-- Assumes nothing.
use mathlib.Core.Path.{sym, ap, ◌∙◌}
use Rattle.twin_rules.specs.Checked.{is_at}
use Rattle.twin_rules.proofs.Serials.{at_eq, top_own}
use Rattle.twin_rules.proofs.own_place.Goals as goal

pub returns-then-top-serial : goal.returns-then-top-serial
returns-then-top-serial c =
    let a = c.args in
    let p = c.requires in
    sym (top_own a.n a.t.now a.i a.top a.serial p.place.below p.own p.highest c.if-top-serial.true)

pub returns : goal.returns
returns c = c.eq.ensures ∙ at_eq c.args.i _ ∙ ap (is_at c.args.i) c.find.ensures
