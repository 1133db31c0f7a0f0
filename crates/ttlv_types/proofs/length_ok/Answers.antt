-- `ttlv_types::length_ok`. Each arm is the definition at the types that it names.
-- Assumes nothing.
use mathlib.Core.Path.{refl}
use native.Mathlib.Omega.{arith}
use borrow.Author.Tests.{le-leb, lt-leb}
use Rattle.std.proofs.Common.{inl, inr}
use Rattle.octets.specs.If.{ifb}
use Rattle.ttlv_types.specs.Types.{length_ok}
use Rattle.ttlv_types.proofs.Lengths.{other_length}
use Rattle.ttlv_types.proofs.length_ok.Goals as goal

pub returns-in-2 : goal.returns-in-2
unfolding length_ok ifb
returns-in-2 c = elim c.in-2.is [ inl e ↦ rw e refl | inr more ↦ elim more [ inl e ↦ rw e refl | inr e ↦ rw e refl ] ]

pub returns-in-3 : goal.returns-in-3
unfolding length_ok ifb
returns-in-3 c =
    elim c.in-3.is [ inl e ↦ rw e refl | inr more ↦ elim more [ inl e ↦ rw e refl | inr most ↦ elim most [ inl e ↦ rw e refl | inr e ↦ rw e refl ] ] ]

pub returns-in-1 : goal.returns-in-1
unfolding length_ok ifb
returns-in-1 c = rw c.in-1.is refl

pub returns-then-n-ge8 : goal.returns-then-n-ge8
unfolding length_ok ifb
returns-then-n-ge8 c = rw (c.in-4.is, le-leb 8 c.args.n c.if-n-ge8.true) refl

pub returns-else-n-ge8 : goal.returns-else-n-ge8
unfolding length_ok ifb
returns-else-n-ge8 c = rw (c.in-4.is, lt-leb 8 c.args.n c.if-n-ge8.false) refl

pub returns-then-kind-eq-TEXT_STRING : goal.returns-then-kind-eq-TEXT_STRING
unfolding length_ok ifb
returns-then-kind-eq-TEXT_STRING c = rw c.if-kind-eq-TEXT_STRING.true refl

pub returns-else-kind-eq-TEXT_STRING : goal.returns-else-kind-eq-TEXT_STRING
returns-else-kind-eq-TEXT_STRING c =
    other_length c.args.kind c.args.n (omega arith) (grind arith) (grind arith) (omega arith) (grind arith) (grind arith) c.if-kind-eq-TEXT_STRING.false (grind arith) (grind arith) (grind arith)
