-- The sizes of written items in bytes.
-- Assumes nothing.
use mathlib.Core.Path.{◌≡◌, refl}
use Prim.Native.Nat.{ℕ, ◌+◌}
use native.Mathlib.Omega.{arith}
use mathlib.Core.List.{List}
use lib.ListN.{length, length-append, length-replicate}
use Rattle.octets.proofs.Numbers.{length_be}
use Rattle.ttlv_types.specs.Types.{padded}
use Rattle.ttlv.specs.Items.{Items, nil, value, group, head, encode}

-- the bytes of some items
abbrev pub size : Items → ℕ
size t = length (encode t)

pub length_head : (tag kind n : ℕ) → length (head tag kind n) ≡ 8
length_head tag kind n = rw (length-append, length_be 3 tag) (rw (length_be 4 n))

pub size_nil : size nil ≡ 0
unfolding encode
size_nil = refl

pub size_value : (tag kind : ℕ) (v : List ℕ) (rest : Items) → size (value tag kind v rest) ≡ 8 + padded (length v) + size rest
unfolding encode
size_value tag kind v rest = simp (length-append, length_be, length-replicate) (omega arith)

pub size_group : (tag : ℕ) (body rest : Items) → size (group tag body rest) ≡ 8 + size body + size rest
unfolding encode
size_group tag body rest = simp (length-append, length_be) (omega arith)
