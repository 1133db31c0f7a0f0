-- A batch on a sound table leaves a sound table, and its answers are those of a response.
-- Assumes nothing.
use Prim.Native.Nat.{ℕ, ◌+◌, ◌*◌, ◌≤◌}
use native.Mathlib.Omega.{arith}
use mathlib.Core.Path.{◌≡◌, refl, ◌∙◌}
use mathlib.Core.Bool.{true}
use mathlib.Core.List.{List, [], ◌∷◌}
use lib.ListN.{length, drop}
use Rattle.octets.specs.If.{ifb}
use Rattle.octets.specs.Octets.{Bytes, all}
use Rattle.octets.proofs.If.{on_if}
use Rattle.octets.proofs.Numbers.{bytes_take, bytes_drop}
use Rattle.octets.proofs.Stores.{length_part}
use Rattle.table.specs.Layout.{material_size}
use Rattle.table.specs.Records.{latest_clock}
use Rattle.octets.proofs.Bools.{and_i}
use Rattle.keeps.proofs.Keeps.{Held}
use Rattle.batch_item.specs.Item.{Asked}
use Rattle.batch_item.proofs.Bounds.{AllBounded}
use Rattle.plans.specs.Plans.{Did, env_at}
use Rattle.act.specs.Act.{step}
use Rattle.answer.specs.Read.{answer_ok}
use Rattle.batch.specs.Batch.{Ran, answer_to, lastly, firstly, ends_batch, batch}
use Rattle.batch_keeps.proofs.Steps.{step_held, step_latest, step_ok}

module _ (places : ℕ) (strip : List ℕ) (option : ℕ) (strip_bytes : Bytes strip) where
  -- item i has 32 bytes of the strip for its own
  module _ (i : ℕ) (in_strip : material_size * i + material_size ≤ length strip) where
    pub own_bytes : Bytes (env_at places strip i).fresh
    own_bytes = bytes_take material_size (drop (material_size * i) strip) (bytes_drop (material_size * i) strip strip_bytes)

    pub own_long : material_size ≤ length (env_at places strip i).fresh
    own_long = omega (arith, length_part strip (material_size * i) material_size in_strip)

  -- what a run of a batch on a table leaves
  pub record Leaves (t : List ℕ) (items : List Asked) (ran : Ran) : Type 0 where
    pub held : Held places ran.table
    pub latest : latest_clock ran.table ≡ latest_clock t
    pub ok : all answer_ok ran.answers ≡ true
    pub few : length ran.answers ≤ length items
    pub some : 1 ≤ length items → 1 ≤ length ran.answers

  pub batch_leaves : (items : List Asked) (i holder : ℕ) (t : List ℕ) → Held places t → AllBounded items → material_size * (i + length items) ≤ length strip
      → Leaves t items (batch places strip option i holder t items)
  unfolding batch all
  batch_leaves [] i holder t h s l = record { held = h; latest = refl; ok = refl; few = omega arith; some = λ q. q }
  batch_leaves (asked ∷ later) i holder t h s l =
      turn (step (env_at places strip i) holder t asked) (step_held (env_at places strip i) holder t h own own_size asked)
      (step_latest (env_at places strip i) holder t h own own_size asked)
      (step_ok (env_at places strip i) holder t h own own_size asked s.0.below s.0.short)
      (batch_leaves later (i + 1) (step (env_at places strip i) holder t asked).holder (step (env_at places strip i) holder t asked).table
      (step_held (env_at places strip i) holder t h own own_size asked) s.1 (omega arith))
    where
      own : Bytes (env_at places strip i).fresh
      own = own_bytes i (omega arith)

      own_size : material_size ≤ length (env_at places strip i).fresh
      own_size = own_long i (omega arith)

      turn : (did : Did) → Held places did.table → latest_clock did.table ≡ latest_clock t → answer_ok (answer_to asked did) ≡ true
          → Leaves did.table later (batch places strip option (i + 1) did.holder did.table later)
          → Leaves t (asked ∷ later)
          (ifb (ends_batch option did) (lastly (answer_to asked did) did.table) (firstly (answer_to asked did) (batch places strip option (i + 1) did.holder did.table later)))
      turn did g same a rest =
          on_if (Leaves t (asked ∷ later))
          (λ e. record { held = g; latest = same; ok = and_i (answer_ok (answer_to asked did)) true a refl; few = omega arith; some = λ q. omega arith })
          (λ e. record {
            held = rest.held;
            latest = rest.latest ∙ same;
            ok = and_i (answer_ok (answer_to asked did)) (all answer_ok (batch places strip option (i + 1) did.holder did.table later).answers) a rest.ok;
            few = omega (arith, rest.few);
            some = λ q. omega arith;
          })
