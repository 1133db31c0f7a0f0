-- What stands in front of a call: four lengths of four bytes each, the clock in two's complement, and the length of the second buffer. Numbers are big-endian.
-- Assumes nothing.
use Rattle.std.specs.Prelude.{ℕ, List}
use Rattle.std.specs.Int.{w64}
use Rattle.std.proofs.Common.{to_z}
use Rattle.octets.specs.Octets.{from_be, part}
use Rattle.feedlib.specs.declared.Head.{Head}

unfoldable pub head_of : List ℕ → Head
head_of s = record {
  request = from_be (part s 0 4);
  table = from_be (part s 4 4);
  strip = from_be (part s 8 4);
  room = from_be (part s 12 4);
  clock = to_z w64 (from_be (part s 16 8));
  undo = from_be (part s 24 4);
}
