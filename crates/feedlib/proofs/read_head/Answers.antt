-- `feedlib::read_head`. Part by part; the clock is stored as the bits that were read.
-- Assumes nothing.
use mathlib.Core.Path.{◌≡◌, ap, ◌∙◌}
use native.Mathlib.Omega.{arith}
use lib.IntN.{ℤ}
use mir.Syntax.{w64}
use mir.Val.{of_z, to_z}
use mir.Facts.{of_z-to_z}
use Rattle.octets.specs.Octets.{from_be, part}
use Rattle.feedlib.specs.Head.{head_of}
use Rattle.feedlib.proofs.read_head.Goals as goal

pub returns : goal.returns
unfolding head_of
returns c =
    let s = c.args.s.now in
    let bits = c.number_at.ensures in
    let kept = of_z-to_z {w = w64} {n = c.number_at.result} (record { fits = omega (arith, bits.1) }) in
    let clock : to_z w64 (of_z w64 c.clock_of.result) ≡ to_z w64 (from_be (part s 16 8)) = ap (λ (z : ℤ). to_z w64 (of_z w64 z)) c.clock_of.ensures ∙ ap (to_z w64) (kept ∙ bits.0) in
    simp (c.length_at.ensures, c.length_at-2.ensures, c.length_at-3.ensures, c.length_at-4.ensures, clock, c.length_at-5.ensures)
