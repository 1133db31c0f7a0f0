-- No second outcome meets the contract of the export `junctionmoth_serve`: number, length, table, output and second buffer follow from the inputs alone.
-- Assumes nothing.
use mathlib.Core.Path.{sym, ◌∙◌}
use Prim.Native.Nat.{ℕ}
use mathlib.Core.List.{List}
use borrow.Fn.Enter.{pair≡}
use Rattle.outcomes.specs.Outcomes.{OneOutcome}
use Rattle.junctionmoth_c.proofs.junctionmoth_serve.Reads as reads

-- the length, the table, the output and the second buffer are what is left
pub junctionmoth_serve_unique : OneOutcome {X = λ k. (ℕ × List ℕ) × (List ℕ × List ℕ)} reads.Post
    (λ k s. ((s.1.1.1.1.1.0.now, s.1.0.now), (s.1.1.1.1.0.now, s.1.1.1.1.1.1.0.now)))
junctionmoth_serve_unique κs a r r' s s' p q = (
  p.number_is ∙ sym q.number_is,
  pair≡ (pair≡ (p.length_is ∙ sym q.length_is) (p.table_is ∙ sym q.table_is)) (pair≡ (p.output_is ∙ sym q.output_is) (p.undo_is ∙ sym q.undo_is)),
)
