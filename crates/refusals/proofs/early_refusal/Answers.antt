-- `refusals::early_refusal`. Each return is a rung of the ladder.
-- Assumes nothing.
use Rattle.refusals.proofs.Early.{yes_if, no_if, early_1, early_2, early_3, early_4, early_4b, early_5, early_0}
use Rattle.refusals.proofs.early_refusal.Goals as goal

pub returns-then-room-lt-ROOM_LEAST : goal.returns-then-room-lt-ROOM_LEAST
returns-then-room-lt-ROOM_LEAST c = search early_1

pub returns-then-fresh-ne-STRIP_SIZE : goal.returns-then-fresh-ne-STRIP_SIZE
returns-then-fresh-ne-STRIP_SIZE c = search early_2

pub returns-then-not-table_right : goal.returns-then-not-table_right
returns-then-not-table_right c = search (early_3, no_if)

pub returns-then-request-eq0 : goal.returns-then-request-eq0
returns-then-request-eq0 c = search (early_4, yes_if)

pub returns-then-request-gt-REQUEST_MOST : goal.returns-then-request-gt-REQUEST_MOST
returns-then-request-gt-REQUEST_MOST c = search (early_4b, yes_if)

pub returns-then-not-is_message : goal.returns-then-not-is_message
returns-then-not-is_message c = search (early_5, yes_if, no_if)

pub returns : goal.returns
returns c = search (early_0, yes_if)
