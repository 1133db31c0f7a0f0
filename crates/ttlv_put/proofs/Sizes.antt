-- The sizes of items in bytes, and runs of items joined to runs.
-- Assumes nothing.
use mathlib.Core.Path.{◌≡◌, refl, ap, ◌∙◌}
use Prim.Native.Nat.{ℕ, ◌+◌, ◌≤◌, ◌<◌}
use native.Mathlib.Omega.{arith}
use mathlib.Core.List.{List, [], ◌++◌, append_assoc, append-nil}
use lib.ListN.{length, length-append}
use Rattle.octets.specs.Octets.{be}
use Rattle.octets.proofs.Numbers.{length_be}
use Rattle.ttlv_types.specs.Types.{structure, padded}
use Rattle.ttlv.specs.Items.{Items, nil, value, group, head, encode}
use Rattle.ttlv.proofs.Sizes.{size, size_nil, size_value}
use Rattle.ttlv_put.specs.Write.{number_item, join}

-- ---- sizes

pub encode_nil : encode nil ≡ []
unfolding encode
encode_nil = refl

pub length_value : (tag kind : ℕ) (v : List ℕ) → size (value tag kind v nil) ≡ 8 + padded (length v)
length_value tag kind v = size_value tag kind v nil ∙ rw size_nil (omega arith)

pub length_number : (width tag kind bits : ℕ) → 0 < width → width ≤ 8 → length (encode (number_item width tag kind bits)) ≡ 16
length_number width tag kind bits h l = length_value tag kind (be width bits) ∙ rw (length_be width bits) (omega arith)

-- a structure is its head and its body
pub encode_group : (tag : ℕ) (b : Items) → encode (group tag b nil) ≡ head tag structure (length (encode b)) ++ encode b
unfolding encode
encode_group tag b = rw append-nil

-- ---- items behind items

pub encode_join : (t u : Items) → encode (join t u) ≡ encode t ++ encode u
unfolding encode join
encode_join nil u = refl
encode_join (value tag kind v rest) u = rw (encode_join rest u) (simp append_assoc)
encode_join (group tag body rest) u = rw (encode_join rest u) (simp append_assoc)

pub length_join : (t u : Items) → length (encode (join t u)) ≡ length (encode t) + length (encode u)
length_join t u = rw (encode_join, length-append)

pub join_assoc : (t u w : Items) → join (join t u) w ≡ join t (join u w)
unfolding join
join_assoc nil u w = refl
join_assoc (value tag kind v rest) u w = ap (value tag kind v) (join_assoc rest u w)
join_assoc (group tag body rest) u w = ap (group tag body) (join_assoc rest u w)

-- an item, and then others
pub encode_value : (tag kind : ℕ) (v : List ℕ) (u : Items) → encode (value tag kind v u) ≡ encode (value tag kind v nil) ++ encode u
unfolding join
encode_value tag kind v u = encode_join (value tag kind v nil) u
