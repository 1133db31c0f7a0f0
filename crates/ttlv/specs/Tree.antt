-- The items that bytes stand for: what a promise about a request's bytes speaks of.
-- Assumes nothing. Bytes that are no run of items stand for the empty run; promises that use `tree_of` ask for `is_run` first.
use Rattle.std.specs.Prelude.{ℕ, Bool, List}
use Rattle.std.specs.Prelude.{Option, None, Some}
use Rattle.octets.specs.Maybe.{is_some}
use Rattle.ttlv.specs.Items.{Items, nil}
use Rattle.ttlv.specs.Parse.{parse, depth_most}

-- whether s is a run of items, with structures at most as deep as a request allows
unfoldable pub is_run : List ℕ → Bool
is_run s = is_some (parse depth_most s)

unfoldable pub or_none : Option Items → Items
or_none None = nil
or_none (Some t) = t

-- the items of s
unfoldable pub tree_of : List ℕ → Items
tree_of s = or_none (parse depth_most s)
