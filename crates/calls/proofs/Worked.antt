-- The sizes that 01 and 02 name, computed from the definitions.
-- Assumes nothing.
use mathlib.Core.Path.{◌≡◌, refl}
use Rattle.table.specs.Layout.{size_of, small_count, large_count}
use Rattle.calls.specs.Effects.{room_least, strip_size}

-- "output room below 6,360 bytes"
room_least_lem : room_least ≡ 6360
room_least_lem = refl

-- "fresh strip not 512 bytes"
strip_size_lem : strip_size ≡ 512
strip_size_lem = refl

-- "table not 8,208 bytes", with 64 places
small_size : size_of small_count ≡ 8208
small_size = refl

-- and with 256 places
large_size : size_of large_count ≡ 32784
large_size = refl
