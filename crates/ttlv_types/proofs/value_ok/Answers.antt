-- `ttlv_types::value_ok`. Each arm is the definition at the type that it names.
-- Assumes nothing.
use native.Mathlib.Omega.{arith}
use Rattle.octets.specs.If.{ifb}
use Rattle.ttlv_types.specs.Types.{value_ok}
use Rattle.ttlv_types.proofs.Lengths.{other_value}
use Rattle.ttlv_types.proofs.value_ok.Goals as goal

pub returns-in-6 : goal.returns-in-6
unfolding value_ok ifb
returns-in-6 c = rw c.in-6.is c.at_most_one.ensures

pub returns-in-7 : goal.returns-in-7
unfolding value_ok ifb
returns-in-7 c = rw c.in-7.is c.text_ok.ensures

pub returns-in_default : goal.returns-in_default
returns-in_default c = other_value c.args.kind c.args.v.now (omega arith) (omega arith)
