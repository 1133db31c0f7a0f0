-- `records::link_at`. The number is read where the line says.
-- Assumes nothing.
use Prim.Native.Nat.{ℕ, ◌+◌}
use mathlib.Core.Path.{ap, ◌∙◌}
use Rattle.octets.specs.Octets.{from_be, part}
use Rattle.records.proofs.link_at.Goals as goal

pub returns : goal.returns
returns c =
    let a = c.args in
    c.number_at.ensures.0 ∙ ap (λ (line : ℕ). from_be (part a.t.now (line + a.from) 4)) c.line-at.ensures
