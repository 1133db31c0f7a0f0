-- Where bytes that are no message are malformed: 01, "the request is one item and nothing more".
-- Assumes nothing.
use Rattle.std.specs.Prelude.{ℕ, List, length, ltb}
use Rattle.octets.specs.If.{ifb}
use Rattle.ttlv.specs.Parse.{first_of, depth_most}
use Rattle.ttlv.specs.declared.First.{First}
use Rattle.ttlv.specs.declared.First.TheVariants.{End, Bad, Value, Group}
use Rattle.ttlv_fault.specs.Fault.{fault_of}

-- where the first item ends; 0 where there is none
unfoldable pub first_end : First → ℕ
first_end End = 0
first_end Bad = 0
first_end (Value tag kind n next) = next
first_end (Group tag next) = next

-- where the first malformed item starts; of a run of well-formed items, where the first of them ends
unfoldable pub malformed_at : List ℕ → ℕ
malformed_at s = ifb (ltb (fault_of depth_most s) (length s)) (fault_of depth_most s) (first_end (first_of s))
