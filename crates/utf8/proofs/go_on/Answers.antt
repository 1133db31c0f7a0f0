-- `utf8::go_on`. A law for each way on.
-- Assumes nothing.
use Rattle.utf8.proofs.Begins.{between_characters, too_low, too_high, one_fewer}
use Rattle.utf8.proofs.go_on.Goals as goal

pub returns-then-p-eq0 : goal.returns-then-p-eq0
returns-then-p-eq0 c = search between_characters

pub returns-then-b-p : goal.returns-then-b-p
returns-then-b-p c = search too_low

pub returns-then-p-b : goal.returns-then-p-b
returns-then-p-b c = search too_high

pub returns : goal.returns
returns c = search one_fewer
