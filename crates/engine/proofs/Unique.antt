-- No second outcome meets the contract of `engine::serve`: number, length, table, output and second buffer follow from the inputs alone.
-- Assumes nothing.
use mathlib.Core.Path.{sym, ◌∙◌}
use Prim.Native.Nat.{ℕ}
use mathlib.Core.List.{List}
use borrow.Fn.Enter.{pair≡}
use Rattle.outcomes.specs.Outcomes.{OneOutcome}
use Rattle.refusal.proofs.Numbers.{told_once}
use Rattle.engine.proofs.serve.Reads as reads

-- the table, the output and the second buffer are what is left
pub serve_unique : OneOutcome {X = λ k. List ℕ × (List ℕ × List ℕ)} reads.Post (λ k s. (s.1.0.now, (s.1.1.1.1.0.now, s.1.1.1.1.1.0.now)))
serve_unique κs a r r' s s' p q =
    (told_once r r' (p.number ∙ sym q.number) (p.length ∙ sym q.length), pair≡ (p.table ∙ sym q.table) (pair≡ (p.output ∙ sym q.output) (p.undo ∙ sym q.undo)))
