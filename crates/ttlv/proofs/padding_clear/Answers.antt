-- `ttlv::padding_clear`. No padding is clear; any other is what is left of the eight bytes.
-- Assumes nothing.
use mathlib.Core.Path.{sym, ap, ◌∙◌}
use Prim.Native.Nat.{ℕ, ◌-◌, ◌*◌, ◌%◌, ◌^◌}
use lib.Dec.{eqb}
use Rattle.octets.proofs.Numbers.{bytes_of}
use Rattle.ttlv.proofs.Padding.{no_padding, padding_left}
use Rattle.ttlv.proofs.padding_clear.Goals as goal

pub returns-then-next-stop : goal.returns-then-next-stop
returns-then-next-stop c =
    let a = c.args in
    sym (no_padding a.s.now a.stop a.next c.if-next-stop.true)

pub returns : goal.returns
returns c =
    let a = c.args in
    let p = c.requires in
    let b = bytes_of a.s.now (λ i. (c.shared_slice_known-1.given i).fits) in
    ap (λ (v : ℕ). eqb (v * 2 ^ ((a.stop - (a.next - 8)) * 8) % 2 ^ 64) 0) c.number.ensures.0
    ∙ padding_left a.s.now a.stop a.next b p.0 p.1 p.2 p.3
