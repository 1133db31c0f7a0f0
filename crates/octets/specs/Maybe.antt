-- Reading that may fail: each step gives something or nothing, and nothing ends it.
-- Assumes nothing.
use Rattle.std.specs.Prelude.{Bool, true, false}
use Rattle.std.specs.Prelude.{Option, None, Some}

infixl 10 ◌>>=◌
infixl 10 ◌>>◌
-- go on with what was read; nothing read stays nothing
unfoldable pub ◌>>=◌ : {A B : Type 0} → Option A → (A → Option B) → Option B
None >>= next = None
(Some a) >>= next = next a

-- go on if the test holds
unfoldable pub ◌>>◌ : {B : Type 0} → Bool → Option B → Option B
false >> next = None
true >> next = next

-- whether something was read
unfoldable pub is_some : {A : Type 0} → Option A → Bool
is_some None = false
is_some (Some a) = true
