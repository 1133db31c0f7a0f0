-- From the engine's contract to the boundary's.
-- Assumes nothing.
use Prim.Native.Nat.{ℕ}
use mathlib.Core.Path.{◌≡◌, ap, ◌∙◌}
use mathlib.Core.List.{List}
use Rattle.std.specs.Prelude.{Result}
use Rattle.refusal.specs.declared.Refusal.{Refusal}
use Rattle.refusal.specs.Numbers.{told_of}
use Rattle.engine.specs.Serving.{serving}
use Rattle.engine.specs.Calls.{ServedIs}
use Rattle.junctionmoth.specs.Boundary.{CallIs}

-- the clock as the machine has it is the clock
pub call_is : (request t strip : List ℕ) (bits clock : ℕ) (out buffer : List ℕ) (r : Result ℕ Refusal) (t' out' buffer' : List ℕ) → bits ≡ clock
    → ServedIs request t strip bits out buffer r t' out' buffer' → CallIs request t strip clock out buffer (told_of r).0 (told_of r).1 t' out' buffer'
call_is request t strip bits clock out buffer r t' out' buffer' e s = record {
  number_is = s.number ∙ ap (λ (b : ℕ). (serving request t strip b out buffer).number) e;
  length_is = s.length ∙ ap (λ (b : ℕ). (serving request t strip b out buffer).length) e;
  table_is = s.table ∙ ap (λ (b : ℕ). (serving request t strip b out buffer).table) e;
  output_is = s.output ∙ ap (λ (b : ℕ). (serving request t strip b out buffer).output) e;
  undo_is = s.undo ∙ ap (λ (b : ℕ). (serving request t strip b out buffer).undo) e;
}
