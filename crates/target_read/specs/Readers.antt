-- What the reader of targets answers of lent bytes: the target, and where it ends.
-- Assumes nothing.
use Rattle.std.specs.Prelude.{Option, None, Some}
use Rattle.target_read.specs.declared.Target.{Target}
use Rattle.std.specs.Prelude.{ℕ, List}
use Rattle.octets.specs.If.{ifb}
use Rattle.octets.specs.Octets.{part}
use Rattle.ttlv_types.specs.Types.{text_string}
use Rattle.fields.specs.Found.{starts_at, bytes_at}
use Rattle.identifier.specs.Identifier.{serial_of}
use Rattle.tags.specs.Tags.{unique_identifier}
use Rattle.target_read.specs.declared.Target.TheVariants.{Placeholder, Serial}

unfoldable pub target_span : List ℕ → Option (ℕ × ℕ) → Option (Target × ℕ)
target_span s (Some (n, next)) = Some (Serial (serial_of (part s 8 n)), next)
target_span s None = None

-- the target at the front of s and where it ends: the placeholder, which ends at 0, where no identifier is given
unfoldable pub target_at : List ℕ → Option (Target × ℕ)
target_at s = ifb (starts_at s unique_identifier) (target_span s (bytes_at s unique_identifier text_string)) (Some (Placeholder, 0))
