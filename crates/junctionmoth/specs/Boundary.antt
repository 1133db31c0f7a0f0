-- What a call through the C boundary leaves: number, length, table, output and second buffer are those of `serving`.
-- Assumes nothing.
use Rattle.std.specs.Prelude.{ℕ, ◌≡◌, List}
use Rattle.engine.specs.Serving.{serving}

pub record CallIs (request t strip : List ℕ) (clock : ℕ) (out buffer : List ℕ) (number length : ℕ) (t' out' buffer' : List ℕ) : Type 0 where
  pub number_is : number ≡ (serving request t strip clock out buffer).number
  pub length_is : length ≡ (serving request t strip clock out buffer).length
  pub table_is : t' ≡ (serving request t strip clock out buffer).table
  pub output_is : out' ≡ (serving request t strip clock out buffer).output
  pub undo_is : buffer' ≡ (serving request t strip clock out buffer).undo
