-- A case of 02, L7, over the definitions: a Create on a table of 256 places of which the first 64 are taken. What goes through it as if it had 64 places finds no room there.
-- Assumes nothing. The table is no sound one, since of its records only the serials are there: soundness of 256 places is too dear to compute, and an item does not ask for it.
use Rattle.std.specs.Prelude.{ℕ, zero, suc, Bool, ◌&&◌, List, [], ◌∷◌, ◌++◌, replicate}
use Rattle.std.specs.Prelude.{Option, None, Some}
use Rattle.octets.specs.Octets.{be, same, counted_from}
use Rattle.hex_digits.specs.Texts.{hex}
use Rattle.ttlv.specs.Items.{Items, nil}
use Rattle.ttlv.specs.Parse.{parse}
use Rattle.table.specs.Layout.{small_count, large_count}
use Rattle.table.specs.Records.{serial_at, last_serial, places_said}
use Rattle.rules.specs.Numbers.{create, reason_number}
use Rattle.plans.specs.declared.Outcome.{Outcome}
use Rattle.plans.specs.declared.Outcome.TheVariants.{Failed, Created, Done, Showed, Got, Located, Undone}
use Rattle.plans.specs.Plans.{Did, in_places, empty_holder}
use Rattle.act.specs.Act.{step}

-- so many lines, with the serials from i on
unfoldable pub lines_from : ℕ → ℕ → List ℕ
lines_from i zero = []
lines_from i (suc k) = be 4 i ++ (replicate 12 0 ++ lines_from (suc i) k)

-- 64 serials issued, 256 places, latest clock 1; the serials 1 to 64 at the first 64 places
unfoldable pub quarter_taken : List ℕ
quarter_taken = be 4 64 ++ (be 4 256 ++ (be 8 1 ++ (lines_from 1 64 ++ replicate 31744 0)))

-- a payload's items
unfoldable pub items_of : Option Items → Items
items_of None = nil
items_of (Some items) = items

-- a Create of 128 bits on it, as on a table of so many places
unfoldable pub created_on : ℕ → Did
created_on n =
    step (in_places n (counted_from 0 32)) empty_holder quarter_taken
    (record { operation = create; id = []; payload = items_of (parse 6 (hex "42005705 00000004 00000002 00000000 42012501 00000030 42002805 00000004 00000003 00000000 42002A02 00000004 00000080 00000000 42002C02 00000004 00000004 00000000")) })

-- what became of it: the serial created and 0, or 0 and the number of the reason
unfoldable pub became : Outcome → List ℕ
became (Failed reason) = 0 ∷ reason_number reason ∷ []
became (Created serial) = serial ∷ 0 ∷ []
became (Done serial) = 0 ∷ 0 ∷ []
became (Showed shown) = 0 ∷ 0 ∷ []
became (Got key) = 0 ∷ 0 ∷ []
became (Located serial) = 0 ∷ 0 ∷ []
became Undone = 0 ∷ 0 ∷ []

-- the serials at places 63 to 65, the last one issued, and the place count
unfoldable pub around : List ℕ → List ℕ
around t = serial_at t 63 ∷ serial_at t 64 ∷ serial_at t 65 ∷ last_serial t ∷ places_said t ∷ []

-- "New objects take serial last + 1 .. and the lowest free place": 65, at place 64
unfoldable pub born_behind : Bool
born_behind = let did = created_on large_count in same (became did.outcome) (65 ∷ 0 ∷ []) && same (around did.table) (64 ∷ 65 ∷ 0 ∷ 65 ∷ 256 ∷ [])

-- as one of 64 places it would be full: Server Limit Exceeded, and nothing altered
unfoldable pub full_before : Bool
full_before = let did = created_on small_count in same (became did.outcome) (0 ∷ 0x3A ∷ []) && same (around did.table) (64 ∷ 0 ∷ 0 ∷ 64 ∷ 256 ∷ [])

unfoldable pub large_cases : List Bool
large_cases = born_behind ∷ full_before ∷ []
