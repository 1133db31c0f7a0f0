-- `octets::number_at`. What is lent to the number reader is the field.
-- Assumes nothing.
use Prim.Native.Nat.{ℕ, ◌^◌, ◌<◌}
use mathlib.Core.Path.{ap, ◌∙◌, subst}
use lib.ListN.{length}
use Rattle.octets.specs.Octets.{from_be}
use Rattle.octets.proofs.Stores.{length_part, lent_field}
use Rattle.octets.proofs.number_at.Goals as goal

pub returns : goal.returns
returns c =
    let a = c.args in
    let p = c.requires in
    let e = lent_field a.s.now a.at a.width p.0 p.1 in
    (c.number.ensures.0 ∙ ap from_be e, subst (λ (k : ℕ). c.number.result < 256 ^ k) (ap length e ∙ length_part a.s.now a.at a.width p.0) c.number.ensures.1)
