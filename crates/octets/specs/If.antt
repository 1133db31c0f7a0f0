-- The one `if` of all definitions. It is shut: a proof takes an arm by a law and never sees the text.
-- Assumes nothing.
use Rattle.std.specs.Prelude.{Bool, true, false}

-- x if the test holds, else y
unfoldable pub ifb : {A : Type 0} → Bool → A → A → A
ifb true x y = x
ifb false x y = y
