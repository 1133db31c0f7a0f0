-- `Run::word`. The number that the four bytes of the value spell, which fits.
-- Assumes nothing.
use mathlib.Core.Path.{◌≡◌, sym, ap, ◌∙◌}
use Prim.Native.Nat.{ℕ}
use native.Mathlib.Omega.{arith}
use lib.ListN.{length, take}
use lib.Seq.{take_all}
use Rattle.std.specs.Prelude.{Some, option_map}
use Rattle.octets.specs.Octets.{from_be}
use Rattle.ttlv.specs.Tree.{tree_of}
use Rattle.fields.specs.Fields.{number_of}
use Rattle.runs.specs.Runs.{behind}
use Rattle.runs.proofs.Steps.{stops, goes}
use Rattle.runs.proofs.Words.{word_size}
use Rattle.runs.proofs.run.Run.word.Goals.{After-number}
use Rattle.runs.proofs.run.Run.word.Goals as goal

pub returns-in_err-value : goal.returns-in_err-value
unfolding number_of
returns-in_err-value c = ap (option_map behind) c.from_residual.ensures ∙ sym (stops _ (sym c.in_err-value.ensures))

size : (c : After-number) → length c.in_ok-value.value.now ≡ 4
size c = word_size c.args.self.bytes.now c.args.self.run c.args.tag c.args.kind c.requires (sym c.in_ok-value.ensures)

whole : (c : After-number) → take 8 c.in_ok-value.value.now ≡ c.in_ok-value.value.now
whole c = let l = size c in take_all 8 c.in_ok-value.value.now (omega arith)

pub overflow_cast-result : goal.overflow_cast-result
overflow_cast-result c =
    let n : length (take 8 c.in_ok-value.value.now) ≡ 4 = ap length (whole (goal.at.overflow_cast-result c).After-number) ∙ size (goal.at.overflow_cast-result c).After-number in
    omega (arith, rw n at c.number.ensures.1)

pub returns : goal.returns
unfolding number_of
returns c =
    ap (λ (n : ℕ). Some (n, tree_of c.in_ok-value.rest.bytes.now)) (c.number.ensures.0 ∙ ap from_be (whole (goal.at.returns c).After-number))
    ∙ sym (goes _ (sym c.in_ok-value.ensures))
