-- `perform` meets its contract, command by command.
-- Assumes nothing.
use Rattle.act.proofs.Returns.{performs_unsupported, performs_invalid, performs_create, performs_rekey, performs_allocation, performs_activate, performs_revoke, performs_destroy, performs_show, performs_get, performs_locate}
use Rattle.act.proofs.perform.Goals as goal

pub returns-in-Unsupported : goal.returns-in-Unsupported
returns-in-Unsupported c = search performs_unsupported

pub returns-in-Invalid : goal.returns-in-Invalid
returns-in-Invalid c = search performs_invalid

pub returns-in-Create : goal.returns-in-Create
returns-in-Create c = search performs_create

pub returns-in-Rekey : goal.returns-in-Rekey
returns-in-Rekey c = search performs_rekey

pub returns-in-GetUsageAllocation : goal.returns-in-GetUsageAllocation
returns-in-GetUsageAllocation c = search performs_allocation

pub returns-in-Activate : goal.returns-in-Activate
returns-in-Activate c = search performs_activate

pub returns-in-Revoke : goal.returns-in-Revoke
returns-in-Revoke c = search performs_revoke

pub returns-in-Destroy : goal.returns-in-Destroy
returns-in-Destroy c = search performs_destroy

pub returns-in-GetAttributes : goal.returns-in-GetAttributes
returns-in-GetAttributes c = search performs_show

pub returns-in-Get : goal.returns-in-Get
returns-in-Get c = search performs_get

pub returns-in-Locate : goal.returns-in-Locate
returns-in-Locate c = search performs_locate
