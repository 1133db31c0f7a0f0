-- `cardslib::put`. The bytes are within what they were read into.
-- Assumes nothing.
use Rattle.std.proofs.Common.{arith, length-take}
use Rattle.hex_text.proofs.Texts.{count_within}
use Rattle.cardslib.proofs.put.Goals as goal

pub slice_bounds-bytes-end : goal.slice_bounds-bytes-end
slice_bounds-bytes-end c = let w = count_within c.bytes_in.ensures c.in-Some-bytes_in.is in omega arith

pub slice_bounds-put_all-end : goal.slice_bounds-put_all-end
slice_bounds-put_all-end c =
    let w = count_within c.bytes_in.ensures c.in-Some-bytes_in.is in
    rw length-take (omega arith)
