-- The whole outcome of a call: number, length, table, output and second buffer. Which refusal is due is said by crates/refusals (1 to 5, 10 and 11) and crates/frame (6 to 9); here is their order.
-- Assumes nothing: any request, table, strip, clock, room and second buffer has an outcome.
use Rattle.std.specs.Prelude.{ℕ, List, length, eqb}
use Rattle.octets.specs.If.{ifb}
use Rattle.octets.specs.Maybe.{◌>>=◌}
use Rattle.octets.specs.Octets.{over}
use Rattle.ttlv.specs.Items.{encode}
use Rattle.ttlv.specs.Parse.{message}
use Rattle.table.specs.Records.{places_said}
use Rattle.changes.specs.Dates.{counted_clock, began}
use Rattle.frame.specs.Frame.{Framed, refused, asked, frame_in, framing}
use Rattle.answer.specs.Respond.{Response, respond}
use Rattle.batch.specs.Batch.{Ran, running}
use Rattle.settle.specs.Undo.{settled, kept_in}
use Rattle.calls.specs.Effects.{Effect}
use Rattle.refusals.specs.Refusals.{early_refusal, late_refusal}

-- ---- what a call leaves

-- "Length 0; table and output stay byte for byte", and so does the second buffer
abbrev pub turned_away : List ℕ → List ℕ → List ℕ → ℕ → Effect
turned_away t out buffer number = record { number = number; length = 0; table = t; output = out; undo = buffer }

-- the response to a batch
abbrev pub response_to : ℕ → Ran → Response
response_to clock ran = record { clock = clock; answers = ran.answers }

-- "Number 0 means answered; output past the response stays"; `buffer` is what the second buffer holds then
unfoldable pub answered : ℕ → List ℕ → List ℕ → Ran → Effect
answered clock out buffer ran = record {
  number = 0;
  length = length (encode (respond (response_to clock ran)));
  table = ran.table;
  output = over (encode (respond (response_to clock ran))) out;
  undo = buffer;
}

-- ---- "The lowest number that applies is given, and none otherwise"

-- refusals 6 to 9, or the request: what the message says as a frame; that there is a message was refusal 5's
abbrev pub requested : List ℕ → Framed
requested request = framing (message request >>= frame_in)

-- an accepted request on a table of so many places: the clock that counts is stored and what is due by it is done; that is the table before the first item.
-- Then the items are carried out, and answered by what is left of them under the option
abbrev pub accepted : ℕ → ℕ → ℕ → List ℕ → (List ℕ → Ran) → List ℕ → List ℕ → Effect
accepted places option clock t items out buffer =
    let counted = counted_clock clock t in
    let start = began places counted t in
    answered counted out (kept_in option start buffer) (settled option start (items start))

-- the frame's refusal; a late one; or the batch, on as many places as the table's lead says
unfoldable pub carry_out : ℕ → List ℕ → List ℕ → List ℕ → List ℕ → Framed → Effect
carry_out clock t strip out buffer (refused number) = turned_away t out buffer number
carry_out clock t strip out buffer (asked request) =
    let places = places_said t in
    let taken = accepted places request.option clock t (λ start. running places strip start request) out buffer in
    let late = late_refusal clock (length t) (length buffer) in
    ifb (eqb late 0) taken (turned_away t out buffer late)

-- the whole outcome; the clock comes as its 64 bits
unfoldable pub serving : List ℕ → List ℕ → List ℕ → ℕ → List ℕ → List ℕ → Effect
serving request t strip clock out buffer =
    let early = early_refusal request t strip (length out) in
    ifb (eqb early 0) (carry_out clock t strip out buffer (requested request)) (turned_away t out buffer early)
