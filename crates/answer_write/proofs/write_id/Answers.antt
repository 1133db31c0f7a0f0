-- `answer_write::write_id`. Nothing where none was given; else its bytes.
-- Assumes nothing.
use native.Mathlib.Omega.{arith}
use mathlib.Core.Path.{◌≡◌}
use lib.ListN.{length, take, length-take}
use Rattle.answer_write.proofs.Parts.{puts_no_id, puts_id}
use Rattle.answer_write.proofs.write_id.Goals.{Start}
use Rattle.answer_write.proofs.write_id.Goals as goal

-- the ID's bytes are sixteen, as many as its type says
sixteen : (s : Start) → length s.args.id.bytes ≡ 16
sixteen s = omega arith

pub returns-then-n-eq0 : goal.returns-then-n-eq0
returns-then-n-eq0 c =
    let a = c.args in
    puts_no_id a.id.bytes a.id.len c.if-n-eq0.true

pub returns : goal.returns
returns c =
    let id = c.args.id in
    let l = sixteen (goal.at.returns c).Start in
    let n : length (take id.len id.bytes) ≡ id.len = rw length-take (omega arith) in
    puts_id (take id.len id.bytes) c.write_bytes.ensures (omega (arith, c.if-n-eq0.false)) (omega arith) (omega arith)
