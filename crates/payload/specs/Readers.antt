-- What the payload readers answer where an operation asks for nothing but its target.
-- Assumes nothing.
use Rattle.std.specs.Prelude.{ℕ, eqb}
use Rattle.octets.specs.If.{ifb}
use Rattle.rules.specs.Numbers.{get, activate, destroy}
use Rattle.target_read.specs.declared.Target.{Target}
use Rattle.payload.specs.declared.Command.{Command}
use Rattle.payload.specs.declared.Command.TheVariants.{Activate, Destroy, GetAttributes, Get}

-- the command of an operation that asks for nothing but its target
unfoldable pub alone_of : ℕ → Target → Command
alone_of operation target =
    ifb (eqb operation activate) (Activate target)
    (ifb (eqb operation destroy) (Destroy target)
    (ifb (eqb operation get) (Get target)
    (GetAttributes target)))
