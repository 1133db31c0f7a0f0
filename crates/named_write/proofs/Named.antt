-- Laws of an identifier that is written.
-- Assumes nothing.
use mathlib.Core.Path.{◌≡◌, refl}
use Prim.Native.Nat.{ℕ, ◌≤◌}
use native.Mathlib.Omega.{arith}
use mathlib.Core.Bool.{true}
use lib.ListN.{length}
use mathlib.Core.List.{List}
use Rattle.utf8.specs.Text.{text}
use Rattle.ttlv_types.specs.Types.{text_string}
use Rattle.ttlv.specs.Items.{nil}
use Rattle.ttlv_put.specs.Write.{WroteValue}
use Rattle.identifier.specs.Identifier.{identifier}
use Rattle.identifier.proofs.Texts.{length_identifier, identifier_text}
use Rattle.tags.specs.Tags.{tag_ok}
use Rattle.answer.specs.Respond.{named}
use Rattle.named_write.specs.Puts.{Puts}
use Rattle.named_write.proofs.Compose.{puts_value}

-- the text of a serial, which is text, was written
pub wrote_named : (tag serial : ℕ) (v : List ℕ) {room after : List ℕ} {r : ℕ} → v ≡ identifier serial → WroteValue (text v) tag text_string v room after r
    → WroteValue true tag text_string (identifier serial) room after r
wrote_named tag serial v e w = rw (e, identifier_text serial) at w

-- in room for it, under a tag
pub puts_named : (tag serial : ℕ) {room after : List ℕ} {r : ℕ} → tag_ok tag ≡ true → WroteValue true tag text_string (identifier serial) room after r → 16 ≤ length room
    → Puts 16 (named tag serial nil) room after r
puts_named tag serial t w l = puts_value 16 tag text_string (identifier serial) t refl w (rw length_identifier (omega arith)) l (omega arith)
