-- 01, "Turning a request away", with 02's refusals 10 and 11: "The lowest number that applies is given, and none otherwise". Those of the frame, 6 to 9, stand in crates/frame.
-- Assumes nothing.
use Rattle.std.specs.Prelude.{ℕ, not, ◌||◌, List, length, ltb, eqb}
use Rattle.octets.specs.If.{ifb}
use Rattle.octets.specs.Maybe.{is_some}
use Rattle.ttlv.specs.Parse.{message}
use Rattle.values.specs.Values.{above_zero}
use Rattle.place_counts.specs.Counts.{table_right}
use Rattle.calls.specs.Effects.{room_least, request_most, strip_size}

-- refusals 1 to 5, a line each; 0 where none applies
unfoldable pub early_refusal : List ℕ → List ℕ → List ℕ → ℕ → ℕ
early_refusal request t strip room =
    ifb (ltb room room_least) 1
    (ifb (not (eqb (length strip) strip_size)) 2
    (ifb (not (table_right t)) 3
    (ifb (eqb (length request) 0 || ltb request_most (length request)) 4
    (ifb (not (is_some (message request))) 5
    0))))

-- refusals 10 and 11, a line each: "A clock given below 1", and a second buffer of another size than the table's, "tested after 10 for every option"; 0 where neither applies
unfoldable pub late_refusal : ℕ → ℕ → ℕ → ℕ
late_refusal clock size lent =
    ifb (not (above_zero clock)) 10
    (ifb (not (eqb lent size)) 11
    0)
