-- What the check asks of a record by itself: rules 7 to 14, 16, 18 to 21, and 6, some at once.
-- Assumes nothing.
use Rattle.std.specs.Prelude.{ℕ, ◌/◌, Bool, ◌&&◌, leb}
use Rattle.octets.specs.If.{ifb}
use Rattle.table.specs.declared.Record.{Record}
use Rattle.search.specs.Search.{is_destroyed}
use Rattle.record_rules.specs.Rules.{state_right, bits_right, mask_right, limit_right, tail_right, wiped_right, replaced_right, replacement_right, dates_right, order_right, started_right, name_right, name_text_right}

-- rules 7 to 10, 20 and 21: the values of a record, its name among them
unfoldable pub values_right : Record → Bool
values_right r = state_right r && bits_right r && mask_right r && limit_right r && name_right r && name_text_right r

-- rules 6 and 13 to 14: the serials that a record names, where `last` is the last issued
unfoldable pub serials_right : ℕ → Record → Bool
serials_right last r = leb r.serial last && replaced_right r && replacement_right last r

-- rules 11 and 12: the material
unfoldable pub material_right : Record → Bool
material_right r = tail_right r && wiped_right r

-- where the zeros in a record's material start, by those two rules: behind its length, or at the front if it is destroyed
unfoldable pub zeros_from : Record → ℕ
zeros_from r = ifb (is_destroyed r.state) 0 (r.bits / 8)

-- rules 16, 18 and 19: the dates, where `latest` is the latest clock
unfoldable pub times_right : ℕ → Record → Bool
times_right latest r = dates_right r && order_right r && started_right latest r
