-- `payload::read_command`. What was read, or Invalid.
-- Assumes nothing.
use mathlib.Core.Path.{◌≡◌, refl, ◌∙◌}
use Rattle.std.specs.Prelude.{Option, None, Some, unwrap_or}
use Rattle.payload.specs.Payload.{or_invalid}
use Rattle.payload.specs.declared.Command.{Command}
use Rattle.payload.specs.declared.Command.TheVariants.{Invalid}
use Rattle.payload.proofs.read_command.Goals as goal

invalid : (o : Option Command) → unwrap_or o Invalid ≡ or_invalid o
unfolding or_invalid
invalid None = refl
invalid (Some command) = refl

pub returns : goal.returns
returns c = c.unwrap_or.ensures ∙ invalid c.read_payload.result ∙ c.read_payload.ensures
