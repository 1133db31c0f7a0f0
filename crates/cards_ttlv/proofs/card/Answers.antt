-- `cards_ttlv::card`. The bytes are within what they were read into.
-- Assumes nothing.
use Rattle.std.proofs.Common.{arith, length-take}
use Rattle.hex_text.proofs.Texts.{count_within}
use Rattle.cards_ttlv.proofs.card.Goals as goal

pub slice_bounds-bytes-end : goal.slice_bounds-bytes-end
slice_bounds-bytes-end g c = let w = count_within c.bytes_in.ensures c.in-Some.is in omega arith

pub slice_bounds-verdict-end : goal.slice_bounds-verdict-end
slice_bounds-verdict-end g c =
    let w = count_within c.bytes_in.ensures c.in-Some.is in
    rw length-take (omega arith)
