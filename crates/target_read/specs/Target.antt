-- 01, "Operations": the record that an item is about, as its items name it.
-- Assumes nothing.
use Rattle.std.specs.Prelude.{ℕ, List}
use Rattle.std.specs.Prelude.{Option, None, Some}
use Rattle.octets.specs.Maybe.{◌>>=◌}
use Rattle.ttlv_types.specs.Types.{text_string}
use Rattle.ttlv.specs.Items.{Items}
use Rattle.fields.specs.Fields.{bytes_of, optional}
use Rattle.tags.specs.Tags.{unique_identifier}
use Rattle.identifier.specs.Identifier.{serial_of}
use Rattle.target_read.specs.declared.Target.{Target}
use Rattle.target_read.specs.declared.Target.TheVariants.{Placeholder, Serial}

unfoldable pub target_of : Option (List ℕ) → Target
target_of None = Placeholder
target_of (Some v) = Serial (serial_of v)

-- "Each target operation begins with [Unique Identifier]; an item of any type but Text String there is Invalid Field"
unfoldable pub target_in : Items → Option (Target × Items)
target_in t = do
  (given, rest) ← optional unique_identifier (bytes_of unique_identifier text_string) t
  Some (target_of given, rest)
