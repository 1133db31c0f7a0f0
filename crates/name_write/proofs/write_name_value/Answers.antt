-- `name_write::write_name_value`. The bytes of the four numbers, as many as the length says.
-- Assumes nothing.
use native.Mathlib.Omega.{arith}
use mathlib.Core.Path.{◌≡◌, refl, sym, ap, ap₂, ◌∙◌}
use lib.ListN.{length, take}
use lib.Seq.{length-take-le}
use Rattle.tags.specs.Tags.{name_value}
use Rattle.ttlv_types.specs.Types.{text_string}
use Rattle.words.proofs.Laws.{length_words}
use Rattle.names.specs.Names.{name_text}
use Rattle.names.proofs.Texts.{length_text}
use Rattle.named_write.proofs.Compose.{puts_value}
use Rattle.name_write.proofs.Texts.{text_taken}
use Rattle.name_write.proofs.write_name_value.Goals as goal

pub slice_bounds-spell_value-end : goal.slice_bounds-spell_value-end
slice_bounds-spell_value-end c =
    let l : length c.bytes_of-bytes.result ≡ 32 = ap length c.bytes_of-bytes.ensures ∙ length_words _ in
    sym (length-take-le _ _ (omega arith))

pub returns : goal.returns
returns c =
    let m = c.args.name in
    let v : take c.fewer-n.result c.bytes_of-bytes.result ≡ name_text m = ap₂ take c.fewer-n.ensures c.bytes_of-bytes.ensures ∙ text_taken m in
    let few = length_text m in
    rw (← v) (puts_value 40 name_value text_string _ refl refl c.spell_value.ensures (rw v (omega arith)) (omega arith) (omega arith))
