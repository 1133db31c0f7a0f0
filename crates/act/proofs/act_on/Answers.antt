-- `act_on` meets its contract: the record is looked for once.
-- Assumes nothing.
use Rattle.act.proofs.Returns.{about_place, about_found, about_none}
use Rattle.act.proofs.act_on.Goals as goal

pub act_at-requires : goal.act_at-requires
act_at-requires c = search about_place

pub returns-in-Some : goal.returns-in-Some
returns-in-Some c = search about_found

pub returns-in-None : goal.returns-in-None
returns-in-None c = search about_none
