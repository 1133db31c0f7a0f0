-- `target_read::is_tagged`. Case by case.
-- Assumes nothing.
use mathlib.Core.Path.{sym, ap}
use Rattle.fields.specs.Found.{starts_in}
use Rattle.target_read.proofs.is_tagged.Goals as goal

pub returns-in-End : goal.returns-in-End
unfolding starts_in
returns-in-End c = sym (ap (starts_in c.args.tag) c.in-End.is)

pub returns-in-Bad : goal.returns-in-Bad
unfolding starts_in
returns-in-Bad c = sym (ap (starts_in c.args.tag) c.in-Bad.is)

pub returns-in-Value : goal.returns-in-Value
unfolding starts_in
returns-in-Value c = sym (ap (starts_in c.args.tag) c.in-Value.is)

pub returns-in-Group : goal.returns-in-Group
unfolding starts_in
returns-in-Group c = sym (ap (starts_in c.args.tag) c.in-Group.is)
