-- No second outcome meets the contract of `undone_answers::tell_undone`, as the checker reads the contract.
-- Assumes nothing.
use mathlib.Core.Path.{◌≡◌, sym, ◌∙◌}
use mathlib.Core.List.{List}
use Prim.Native.Nat.{ℕ}
use Rattle.outcomes.specs.Outcomes.{OneOutcome}
use Rattle.batch.specs.declared.BatchDone.{BatchDone}
use Rattle.undone_answers.proofs.tell_undone.Reads as reads

-- the room is what is left
pub tell_undone_unique : OneOutcome {X = λ k. List ℕ} reads.Post (λ k s. s.1.1.1.0.now)
tell_undone_unique κs a r r' s s' p q =
    let answer : ◌≡◌ {A = BatchDone} (record { count = r.count; used = r.used }) (record { count = r'.count; used = r'.used }) =
    rw (p.count ∙ sym q.count, p.bytes.size ∙ sym q.bytes.size) in
    (answer, p.bytes.bytes ∙ sym q.bytes.bytes)
