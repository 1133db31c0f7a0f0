-- 01, "TTLV": the value of a Boolean.
-- Assumes nothing.
use Rattle.std.specs.Prelude.{ℕ, Bool}
use Rattle.octets.specs.If.{ifb}

-- the value of a Boolean: 0 or 1
unfoldable pub bit : Bool → ℕ
bit b = ifb b 1 0
