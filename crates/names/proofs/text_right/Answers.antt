-- `names::text_right`. As many of the bytes as the length says.
-- Assumes nothing.
use mathlib.Core.Path.{sym, ap, ◌∙◌}
use native.Mathlib.Omega.{arith}
use lib.Seq.{length-take-le}
use Rattle.utf8.specs.Text.{text}
use Rattle.names.proofs.Returns.{text_there}
use Rattle.names.proofs.text_right.Goals as goal

pub slice_bounds-text_ok-end : goal.slice_bounds-text_ok-end
slice_bounds-text_ok-end c = sym (length-take-le _ _ (omega arith))

pub returns : goal.returns
returns c =
    c.text_ok.ensures ∙ ap text (text_there c.args.m c.fewer-end.ensures c.bytes_of-bytes.ensures)
