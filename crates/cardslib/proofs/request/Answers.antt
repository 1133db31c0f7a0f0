-- `cardslib::request`. The bytes are within what they were read into.
-- Assumes nothing.
use Rattle.std.proofs.Common.{arith, length-take}
use Rattle.hex_text.proofs.Texts.{count_within}
use Rattle.cardslib.proofs.request.Goals as goal

pub slice_bounds-bytes-end : goal.slice_bounds-bytes-end
slice_bounds-bytes-end g c = let w = count_within c.bytes_in.ensures c.in-Some.is in omega arith

pub slice_bounds-answer-end : goal.slice_bounds-answer-end
slice_bounds-answer-end g c =
    let w = count_within c.bytes_in.ensures c.in-Some.is in
    rw length-take (omega arith)
