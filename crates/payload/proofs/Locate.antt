-- Locate that bytes stand for, by what the reader of last fields answers on them: one law for each way through.
-- Assumes nothing. The readers go by runs of items; these laws are for a reader of bytes alone.
use mathlib.Core.Path.{◌≡◌}
use Prim.Native.Nat.{ℕ, ◌-◌}
use mathlib.Core.Bool.{true}
use mathlib.Core.List.{List}
use Rattle.std.specs.Prelude.{Option, None, Some}
use Rattle.octets.specs.Maybe.{◌>>=◌}
use Rattle.octets.specs.Octets.{part}
use Rattle.ttlv.specs.Items.{Items}
use Rattle.ttlv.specs.Tree.{is_run, tree_of}
use Rattle.last_field.specs.Last.{only_body_at}
use Rattle.last_field.proofs.Steps.{body_goes, body_stops}
use Rattle.tags.specs.Tags.{attributes}
use Rattle.name_read.specs.Name.{only_name_in}
use Rattle.payload.specs.Payload.{locate_in}
use Rattle.payload.specs.declared.Command.{Command}
use Rattle.payload.specs.declared.Command.TheVariants.{Locate}

abbrev pub locates : Items → Option Command
locates t = only_name_in t >>= λ name. Some (Locate name)

module _ (s : List ℕ) (run : is_run s ≡ true) where
  pub locate_no_attributes : only_body_at s attributes ≡ None → locate_in (tree_of s) ≡ None
  unfolding locate_in
  locate_no_attributes e = body_stops s run attributes locates e

  pub locate_body : {end : ℕ} → only_body_at s attributes ≡ Some end → locate_in (tree_of s) ≡ locates (tree_of (part s 8 (end - 8)))
  unfolding locate_in
  locate_body e = body_goes s run attributes locates e
