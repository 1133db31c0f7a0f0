-- `batch_item::read_id`. By whether an ID stands at the front, and by how long it is.
-- Assumes nothing.
use mathlib.Core.Path.{refl, sym, ◌∙◌}
use native.Mathlib.Omega.{arith}
use lib.ListN.{length}
use lib.Dec.{leb}
use borrow.Author.Tests.{lt-leb, le-leb}
use Rattle.octets.proofs.Bools.{and_i, and_no, and_second}
use Rattle.batch_item.specs.Item.{id_most, id_ok, id_bytes}
use Rattle.batch_item.specs.Readers.{id_in}
use Rattle.runs.proofs.Starts.{bytes_starts}
use Rattle.runs.proofs.Steps.{stops, goes, fails, holds, there, absent}
use Rattle.batch_item.proofs.read_id.Goals as goal

-- the field is not the ID, though it stands there
pub returns-then-starts_with : goal.returns-then-starts_with
unfolding id_in
returns-then-starts_with c =
    sym (stops _ (there _ _ _ (sym c.if-starts_with.ensures) ∙ stops _ (sym c.in_default.ensures)))

pub returns-in_default : goal.returns-in_default
unfolding id_in id_ok id_bytes
returns-in_default c = sym (goes _ (absent _ _ _ (sym c.if-starts_with.ensures)) ∙ holds _ refl)

pub returns-then-id-lt1 : goal.returns-then-id-lt1
unfolding id_in id_ok
returns-then-id-lt1 c =
    let e = sym c.in-Some.ensures in
    let n = length c.in-Some.id.now in
    sym (goes _ (there _ _ _ (bytes_starts _ _ _ e) ∙ goes _ e) ∙ fails _ (and_no (leb 1 n) (leb n id_most) (lt-leb 1 n c.if-id-lt1.true)))

pub returns-then-id-gt-ID_MOST : goal.returns-then-id-gt-ID_MOST
unfolding id_in id_ok
returns-then-id-gt-ID_MOST c =
    let e = sym c.in-Some.ensures in
    let n = length c.in-Some.id.now in
    sym (goes _ (there _ _ _ (bytes_starts _ _ _ e) ∙ goes _ e)
    ∙ fails _ (and_second (leb 1 n) (leb n id_most) (le-leb 1 n (omega arith)) ∙ lt-leb n id_most (omega arith)))

pub returns : goal.returns
unfolding id_in id_ok id_bytes
returns c =
    let e = sym c.in-Some.ensures in
    let n = length c.in-Some.id.now in
    sym (goes _ (there _ _ _ (bytes_starts _ _ _ e) ∙ goes _ e)
    ∙ holds _ (and_i (leb 1 n) (leb n id_most) (le-leb 1 n (omega arith)) (le-leb n id_most (omega arith))))
