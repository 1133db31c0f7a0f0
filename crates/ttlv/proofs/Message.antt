-- One item and nothing behind it: the laws of `message`, and by what `is_message` decides.
-- Assumes nothing.
use mathlib.Core.Path.{◌≡◌, refl, sym, ap, ◌∙◌}
use Prim.Native.Nat.{ℕ}
use mathlib.Core.Bool.{Bool, true, false}
use Rattle.std.specs.Prelude.{Option, None, Some}
use mathlib.Core.List.{List}
use Rattle.octets.specs.Maybe.{◌>>=◌, ◌>>◌, is_some}
use Rattle.octets.specs.Octets.{Bytes}
use Rattle.ttlv.specs.Items.{Items, encode, well_formed}
use Rattle.ttlv.specs.Parse.{parse, depth_most, is_one, message}
use Rattle.ttlv.specs.Tree.{is_run, or_none, tree_of}
use Rattle.ttlv.proofs.Put.{no_some, same_some}
use Rattle.ttlv.proofs.Spells.{parse_spells}
use Rattle.ttlv.proofs.Back.{parse_back}
use Rattle.ttlv.proofs.Tree.{some_is, parse_run, parse_tree}

-- ---- a message is a run that is one item

one_of : Option Items → Option Items
one_of o = o >>= λ t. is_one t >> Some t

one_is : (o : Option Items) (t : Items) → one_of o ≡ Some t → (o ≡ Some t) × (is_one t ≡ true)
unfolding one_of ◌>>=◌
one_is None t e = absurd (no_some e)
one_is (Some u) t e = go (is_one u) refl e
  where
    go : (b : Bool) → is_one u ≡ b → (b >> Some u) ≡ Some t → (Some u ≡ Some t) × (is_one t ≡ true)
    go true h g = unfold ◌>>◌ in (g, ap is_one (sym (same_some g)) ∙ h)
    go false h g = unfold ◌>>◌ in absurd (no_some g)

pub message_is : (s : List ℕ) (t : Items) → message s ≡ Some t → (parse depth_most s ≡ Some t) × (is_one t ≡ true)
unfolding message one_of
message_is s t e = one_is (parse depth_most s) t e

pub is_message : (s : List ℕ) (t : Items) → parse depth_most s ≡ Some t → is_one t ≡ true → message s ≡ Some t
unfolding message ◌>>=◌ ◌>>◌
is_message s t e o = rw (e, o)

-- what is read is written as it was
pub message_spells : (s : List ℕ) (t : Items) → Bytes s → message s ≡ Some t → encode t ≡ s
message_spells s t h e = parse_spells depth_most s t h (message_is s t e).0

-- what is written is read back
pub message_back : (t : Items) → well_formed depth_most t ≡ true → is_one t ≡ true → message (encode t) ≡ Some t
message_back t w o = is_message (encode t) t (parse_back depth_most t w) o

-- the item of a message is what its bytes stand for
pub message_tree : (s : List ℕ) (t : Items) → message s ≡ Some t → (is_run s ≡ true) × (tree_of s ≡ t)
message_tree s t e = (parse_run s t (message_is s t e).0, parse_tree s t (message_is s t e).0)

-- bytes that are a message are read as the items that they stand for
pub message_run : (s : List ℕ) → is_some (message s) ≡ true → message s ≡ Some (tree_of s)
message_run s h =
    let e = some_is (message s) h in
    e ∙ ap Some (sym (message_tree s (or_none (message s)) e).1)
