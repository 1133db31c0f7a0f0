-- What the answers of `next_state` and `grant` say in the papers' numbers: the Result Status, and with it a state, a count or the Result Reason.
-- Assumes nothing.
use Rattle.std.specs.Prelude.{Result, Ok, Err, ℕ, Option, None, Some}
use Rattle.rules.specs.declared.Reason.{Reason}
use Rattle.rules.specs.Numbers.{success, operation_failed, reason_number}

pub record Said : Type 0 where
  pub status : ℕ
  pub number : ℕ

-- a success with its value
abbrev pub says : ℕ → Said
says value = record { status = success; number = value }

-- a failure with the number of its reason
abbrev pub fails : Reason → Said
fails reason = record { status = operation_failed; number = reason_number reason }

-- the number of the next state
unfoldable pub next_says : Result ℕ Reason → Said
next_says (Ok state) = says state
next_says (Err reason) = fails reason

-- the units that are left
unfoldable pub grant_says : Result ℕ Reason → Said
grant_says (Ok count) = says count
grant_says (Err reason) = fails reason

-- a value, unless a reason is due
unfoldable pub says_unless : ℕ → Option Reason → Said
says_unless value None = says value
says_unless value (Some reason) = fails reason
