-- 01, "TTLV": how bytes are read as items. Whatever differs from the rules is malformed: it reads as none.
-- Assumes nothing.
use Rattle.std.specs.Prelude.{ℕ, zero, suc, ◌+◌, ◌-◌, Bool, true, false, ◌&&◌, List, [], ◌∷◌, length, drop, get_or, leb, eqb}
use Rattle.std.specs.Prelude.{Option, None, Some}
use Rattle.octets.specs.If.{ifb}
use Rattle.octets.specs.Maybe.{◌>>=◌, ◌>>◌}
use Rattle.octets.specs.Octets.{from_be, part, all_zero}
use Rattle.ttlv_types.specs.Types.{structure, padded, length_ok, value_ok}
use Rattle.tags.specs.Tags.{tag_lead}
use Rattle.ttlv.specs.Items.{Items, nil, value, group}
use Rattle.ttlv.specs.declared.First.{First}
use Rattle.ttlv.specs.declared.First.TheVariants.{End, Bad, Value, Group}

-- ---- the first item

-- an item of tag, type and length n at the front of s: its length is allowed and it ends within s;
-- if it is no structure, its value is allowed and its padding is zero
unfoldable pub headed : List ℕ → ℕ → ℕ → ℕ → First
headed s tag kind n =
    ifb (length_ok kind n && leb (8 + padded n) (length s))
    (ifb (eqb kind structure) (Group tag (8 + n))
    (ifb (value_ok kind (part s 8 n) && all_zero (part s (8 + n) (padded n - n)))
    (Value tag kind n (8 + padded n))
    Bad))
    Bad

-- what stands at the front of s
unfoldable pub first_of : List ℕ → First
first_of s =
    ifb (eqb (length s) 0) End
    (ifb (leb 8 (length s) && eqb (get_or s 0 0) tag_lead)
    (headed s (from_be (part s 0 3)) (get_or s 3 0) (from_be (part s 4 4)))
    Bad)

-- ---- the whole run

unfoldable pub put_value : ℕ → ℕ → List ℕ → Option Items → Option Items
put_value tag kind v None = None
put_value tag kind v (Some rest) = Some (value tag kind v rest)

unfoldable pub put_group : ℕ → Option Items → Option Items → Option Items
put_group tag None rest = None
put_group tag (Some body) None = None
put_group tag (Some body) (Some rest) = Some (group tag body rest)

-- the run whose first item is known, with `body` to read a structure's own run and `rest` to read what follows
unfoldable pub more : (List ℕ → Option Items) → (List ℕ → Option Items) → List ℕ → First → Option Items
more body rest s End = Some nil
more body rest s Bad = None
more body rest s (Value tag kind n next) = put_value tag kind (part s 8 n) (rest (drop next s))
more body rest s (Group tag next) = put_group tag (body (part s 8 (next - 8))) (rest (drop next s))

-- the items of s one after the other; the number counts turns, and one more than the length is enough
unfoldable pub walk : (List ℕ → Option Items) → ℕ → List ℕ → Option Items
walk body zero s = None
walk body (suc k) s = more body (walk body k) s (first_of s)

-- s read as a run of items, with structures at most d deep
unfoldable pub parse : ℕ → List ℕ → Option Items
parse zero [] = Some nil
parse zero (x ∷ s) = None
parse (suc d) s = walk (parse d) (suc (length s)) s

-- "The outermost item has depth 1; an item at depth 9 is malformed"
abbrev pub depth_most : ℕ
depth_most = 8

-- ---- one item

-- one item and nothing after it
unfoldable pub is_one : Items → Bool
is_one nil = false
is_one (value tag kind v nil) = true
is_one (value tag kind v (value tag2 kind2 v2 rest)) = false
is_one (value tag kind v (group tag2 body rest)) = false
is_one (group tag body nil) = true
is_one (group tag body (value tag2 kind2 v2 rest)) = false
is_one (group tag body (group tag2 body2 rest)) = false

-- "The request is one item; anything after it is malformed too"
unfoldable pub message : List ℕ → Option Items
message s = parse depth_most s >>= λ t. is_one t >> Some t
