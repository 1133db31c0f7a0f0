-- What the engine's functions ask and answer; `serving` is the whole.
-- Assumes nothing.
use Rattle.std.specs.Prelude.{ℕ, ◌≡◌, List, length, Result}
use Rattle.batch.specs.Runs.{RunsIn, ran_over}
use Rattle.refusal.specs.declared.Refusal.{Refusal}
use Rattle.refusal.specs.Numbers.{told_of}
use Rattle.calls.specs.Effects.{Effect, room_least}
use Rattle.engine.specs.Serving.{accepted, serving}

-- a request that can be answered: its batch can be run in the room of the whole response, and the second buffer has the table's size
pub record RunsWhole (n : ℕ) (items t fresh out buffer : List ℕ) : Type 0 where
  pub runs : RunsIn n room_least items t fresh out
  pub sized : length buffer ≡ length t

-- what an accepted request leaves of a table of n places, where these bytes are its items
abbrev pub accepted_over : ℕ → List ℕ → List ℕ → ℕ → ℕ → List ℕ → List ℕ → List ℕ → Effect
accepted_over n items strip option clock t out buffer = accepted n option clock t (ran_over n items strip option) out buffer

-- its length, table, output and second buffer
pub record AcceptedIs (e : Effect) (r : ℕ) (t' out' buffer' : List ℕ) : Type 0 where
  pub length : r ≡ e.length
  pub table : t' ≡ e.table
  pub output : out' ≡ e.output
  pub undo : buffer' ≡ e.undo

-- what a call leaves: what is told of it, the number and the length, and table, output and second buffer are those of `serving`
pub record ServedIs (request t strip : List ℕ) (clock : ℕ) (out buffer : List ℕ) (r : Result ℕ Refusal) (t' out' buffer' : List ℕ) : Type 0 where
  pub number : (told_of r).0 ≡ (serving request t strip clock out buffer).number
  pub length : (told_of r).1 ≡ (serving request t strip clock out buffer).length
  pub table : t' ≡ (serving request t strip clock out buffer).table
  pub output : out' ≡ (serving request t strip clock out buffer).output
  pub undo : buffer' ≡ (serving request t strip clock out buffer).undo
