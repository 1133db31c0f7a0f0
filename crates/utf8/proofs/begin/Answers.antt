-- `utf8::begin`. A law for each way to tell a first byte.
-- Assumes nothing.
use Rattle.utf8.proofs.Begins.{one_byte, tail_first, two_bytes, three_e0, three_ed, three_bytes, four_f0, four_f4, four_bytes, none_left}
use Rattle.utf8.proofs.begin.Goals as goal

pub returns-then-b-le127 : goal.returns-then-b-le127
returns-then-b-le127 c = search one_byte

pub returns-then-b-lt194 : goal.returns-then-b-lt194
returns-then-b-lt194 c = search tail_first

pub returns-then-b-le223 : goal.returns-then-b-le223
returns-then-b-le223 c = search two_bytes

pub returns-then-b-eq224 : goal.returns-then-b-eq224
returns-then-b-eq224 c = search three_e0

pub returns-then-b-eq237 : goal.returns-then-b-eq237
returns-then-b-eq237 c = search three_ed

pub returns-then-b-le239 : goal.returns-then-b-le239
returns-then-b-le239 c = search three_bytes

pub returns-then-b-eq240 : goal.returns-then-b-eq240
returns-then-b-eq240 c = search four_f0

pub returns-then-b-eq244 : goal.returns-then-b-eq244
returns-then-b-eq244 c = search four_f4

pub returns-then-b-le243 : goal.returns-then-b-le243
returns-then-b-le243 c = search four_bytes

pub returns : goal.returns
returns c = search none_left
