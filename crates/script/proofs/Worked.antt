-- Worked texts, computed: numbers, clocks and parts of a buffer at their edges.
-- Assumes nothing.
use mathlib.Core.Path.{◌≡◌, refl}
use lib.IntN.{pos, negsuc}
use Rattle.std.specs.Prelude.{Some, None}
use Rattle.octets.specs.If.{ifb}
use Rattle.octets.specs.Maybe.{◌>>=◌, ◌>>◌}
use Rattle.lines.specs.Lines.{place_of}
use Rattle.hex_digits.specs.Texts.{codes}
use Rattle.script.specs.Numbers.{number_after, number_in, clock_in, span_in}

-- the definitions that the cases compute with: who opens this opens them all
opened : Unit {0}
unfolding ifb ◌>>=◌ ◌>>◌ place_of number_after number_in clock_in span_in
opened = tt

largest : number_in (codes "18446744073709551615") ≡ Some 18446744073709551615
unfolding opened
largest = refl

too_large : number_in (codes "18446744073709551616") ≡ None
unfolding opened
too_large = refl

zeros_in_front : number_in (codes "0007") ≡ Some 7
unfolding opened
zeros_in_front = refl

no_digit : number_in (codes "12A") ≡ None
unfolding opened
no_digit = refl

no_sign : number_in (codes "-1") ≡ None
unfolding opened
no_sign = refl

latest : clock_in (codes "9223372036854775807") ≡ Some (pos 9223372036854775807)
unfolding opened
latest = refl

too_late : clock_in (codes "9223372036854775808") ≡ None
unfolding opened
too_late = refl

earliest : clock_in (codes "-9223372036854775808") ≡ Some (negsuc 9223372036854775807)
unfolding opened
earliest = refl

minus_one : clock_in (codes "-1") ≡ Some (negsuc 0)
unfolding opened
minus_one = refl

minus_zero : clock_in (codes "-0") ≡ None
unfolding opened
minus_zero = refl

span : span_in (codes "16 4624") ≡ Some (record { at = 16; len = 4624 })
unfolding opened
span = refl

half_a_span : span_in (codes "16") ≡ None
unfolding opened
half_a_span = refl
