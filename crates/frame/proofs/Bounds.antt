-- How great the parts of a request's batch items are: every operation fits 32 bits, every ID 16 bytes.
-- Assumes nothing. `Bytes` holds of every lent slice.
use mathlib.Core.Path.{◌≡◌}
use Prim.Native.Nat.{ℕ}
use Rattle.std.specs.Prelude.{Some}
use mathlib.Core.List.{List}
use lib.ListN.{drop}
use Rattle.octets.specs.Octets.{Bytes}
use Rattle.octets.proofs.Numbers.{bytes_drop}
use Rattle.ttlv.specs.Items.{Items}
use Rattle.ttlv.specs.Parse.{message}
use Rattle.batch_item.proofs.Bounds.{AllBounded, items_bounded}
use Rattle.frame.specs.Frame.{Request, asked, framed}
use Rattle.frame.specs.Readers.{framing_of}
use Rattle.frame.proofs.Frame.{batch_shape}

pub request_bounded : (s : List ℕ) (t : Items) (r : Request) → Bytes s → message s ≡ Some t → framed t ≡ asked r → AllBounded r.items
request_bounded s t r b h e =
    let f = batch_shape s t r h e in
    items_bounded r.items (drop (framing_of s).items s) f.run (bytes_drop (framing_of s).items s b) f.items
