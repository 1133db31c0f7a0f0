-- Where the item starts at which bytes first differ from the rules: for people who look for a mistake in a request.
-- Assumes nothing. The law `fault_means` says that it is the length just when the bytes are a run of items.
use Rattle.std.specs.Prelude.{ℕ, zero, suc, ◌+◌, ◌-◌, List, length, drop, eqb}
use Rattle.octets.specs.If.{ifb}
use Rattle.octets.specs.Octets.{part}
use Rattle.ttlv.specs.Parse.{first_of}
use Rattle.ttlv.specs.declared.First.{First}
use Rattle.ttlv.specs.declared.First.TheVariants.{End, Bad, Value, Group}

-- the run whose first item is known, with `body` to look into a structure's own run and `rest` into what follows
unfoldable pub fault_in : (List ℕ → ℕ) → (List ℕ → ℕ) → List ℕ → First → ℕ
fault_in body rest s End = 0
fault_in body rest s Bad = 0
fault_in body rest s (Value tag kind n next) = next + rest (drop next s)
fault_in body rest s (Group tag next) = ifb (eqb (body (part s 8 (next - 8))) (next - 8)) (next + rest (drop next s)) (8 + body (part s 8 (next - 8)))

-- item by item; the number counts turns, and one more than the length is enough
unfoldable pub fault_walk : (List ℕ → ℕ) → ℕ → List ℕ → ℕ
fault_walk body zero s = 0
fault_walk body (suc k) s = fault_in body (fault_walk body k) s (first_of s)

-- the first fault of s as a run of items with structures at most d deep; the length of s where there is none
unfoldable pub fault_of : ℕ → List ℕ → ℕ
fault_of zero s = 0
fault_of (suc d) s = fault_walk (fault_of d) (suc (length s)) s
