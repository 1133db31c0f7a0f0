-- No second outcome meets the contract of a public function of this crate, as the checker reads the contract.
-- Assumes nothing.
use mathlib.Core.Path.{◌≡◌, sym, ◌∙◌}
use mathlib.Core.List.{List}
use Prim.Native.Nat.{ℕ}
use borrow.Fn.Enter.{pair≡}
use Rattle.outcomes.specs.Outcomes.{OneOutcome}
use Rattle.plans.proofs.Plans.{left_one}
use Rattle.batch.specs.declared.Carried.{Carried}
use Rattle.batch.specs.declared.BatchDone.{BatchDone}
use Rattle.batch.proofs.carry_item.Reads as carry_item_reads
use Rattle.batch.proofs.run_items.Reads as run_items_reads

-- what became of the item, its operation and ID, and the table that is left
pub carry_item_unique : OneOutcome carry_item_reads.Post (λ k s. s.1.0.now)
carry_item_unique κs a r r' s s' p q =
    let same = left_one (p.did ∙ sym q.did) in
    let answer : ◌≡◌ {A = Carried} (record { performed = r.performed; operation = r.operation; id = r.id }) (record { performed = r'.performed; operation = r'.operation; id = r'.id }) =
    rw (same.0, p.operation ∙ sym q.operation, p.id ∙ sym q.id) in
    (answer, same.1)

-- the table and the room are what is left
pub run_items_unique : OneOutcome {X = λ k. List ℕ × List ℕ} run_items_reads.Post (λ k s. (s.1.0.now, s.1.1.1.1.1.0.now))
run_items_unique κs a r r' s s' p q =
    let answer : ◌≡◌ {A = BatchDone} (record { count = r.count; used = r.used }) (record { count = r'.count; used = r'.used }) =
    rw (p.answers.count ∙ sym q.answers.count, p.answers.bytes.size ∙ sym q.answers.bytes.size) in
    (answer, pair≡ (p.table ∙ sym q.table) (p.answers.bytes.bytes ∙ sym q.answers.bytes.bytes))
