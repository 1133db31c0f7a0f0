-- `hex::value_of`. A character between the bounds spells what is found, and any other spells no digit.
-- Assumes nothing.
use Prim.Native.Nat.{◌-◌}
use native.Mathlib.Omega.{arith}
use mathlib.Core.Logic.{inl, inr}
use borrow.Author.Tests.{leb-true, lt-leb}
use Rattle.hex_digits.proofs.Digits.{above, below, decimal_spells, letter_spells, value_spells, value_none}
use Rattle.hex_digits.proofs.value_of.Goals as goal

pub returns-then-c-le57 : goal.returns-then-c-le57
returns-then-c-le57 c = let x = c.args.c in value_spells x (x - 0x30) (decimal_spells x (omega arith) (omega (arith, leb-true)))

pub returns-then-c-le70 : goal.returns-then-c-le70
returns-then-c-le70 c = let x = c.args.c in value_spells x (x - 0x37) (letter_spells x (omega arith) (omega (arith, leb-true)))

pub returns : goal.returns
returns c =
    let x = c.args.c in
    value_none x
    (elim c.else-c-ge48.either [ inl w ↦ above 0x30 x 0x39 w.0 (lt-leb x 0x39 w.1) | inr w ↦ below 0x30 x 0x39 w ])
    (elim c.else-c-ge65.either [ inl w ↦ above 0x41 x 0x46 w.0 (lt-leb x 0x46 w.1) | inr w ↦ below 0x41 x 0x46 w ])
