-- `key_write::write_material`. The bytes of the four numbers, as many as the length says.
-- Assumes nothing.
use native.Mathlib.Omega.{arith}
use mathlib.Core.Path.{◌≡◌, refl, sym, ap, ap₂, ◌∙◌}
use lib.ListN.{length, take}
use lib.Seq.{length-take-le}
use Rattle.tags.specs.Tags.{key_material}
use Rattle.ttlv_types.specs.Types.{byte_string}
use Rattle.words.proofs.Laws.{length_words}
use Rattle.answer.specs.Respond.{material_of}
use Rattle.answer.proofs.Sizes.{material_length}
use Rattle.named_write.proofs.Compose.{puts_value}
use Rattle.key_write.proofs.Material.{material_taken}
use Rattle.key_write.proofs.write_material.Goals as goal

pub slice_bounds-write_bytes-end : goal.slice_bounds-write_bytes-end
slice_bounds-write_bytes-end c =
    let l : length c.bytes_of-bytes.result ≡ 32 = ap length c.bytes_of-bytes.ensures ∙ length_words _ in
    sym (length-take-le _ _ (omega arith))

pub returns : goal.returns
returns c =
    let k = c.args.key in
    let v : take c.fewer-n.result c.bytes_of-bytes.result ≡ material_of k = ap₂ take c.fewer-n.ensures c.bytes_of-bytes.ensures ∙ material_taken k in
    let most = material_length k in
    rw (← v) (puts_value 40 key_material byte_string _ refl refl c.write_bytes.ensures (rw v (omega arith)) (omega arith) (omega arith))
