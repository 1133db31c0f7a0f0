-- No second outcome meets the contract of `settle::run_batch`, as the checker reads the contract.
-- Assumes nothing.
use mathlib.Core.Path.{◌≡◌, sym, ◌∙◌}
use mathlib.Core.List.{List}
use Prim.Native.Nat.{ℕ}
use borrow.Fn.Enter.{pair≡}
use Rattle.outcomes.specs.Outcomes.{OneOutcome}
use Rattle.batch.specs.declared.BatchDone.{BatchDone}
use Rattle.settle.proofs.run_batch.Reads as reads

-- the table, the room and the second buffer are what is left
pub run_batch_unique : OneOutcome {X = λ k. List ℕ × (List ℕ × List ℕ)} reads.Post (λ k s. (s.1.0.now, (s.1.1.1.1.1.0.now, s.1.1.1.1.1.1.0.now)))
run_batch_unique κs a r r' s s' p q =
    let one = p.left in
    let other = q.left in
    let answer : ◌≡◌ {A = BatchDone} (record { count = r.count; used = r.used }) (record { count = r'.count; used = r'.used }) =
    rw (one.answers.count ∙ sym other.answers.count, one.answers.bytes.size ∙ sym other.answers.bytes.size) in
    (answer, pair≡ (one.table ∙ sym other.table) (pair≡ (one.answers.bytes.bytes ∙ sym other.answers.bytes.bytes) (p.kept ∙ sym q.kept)))
