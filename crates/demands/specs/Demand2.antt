-- Demand 2: "it answers as KMIP 2.1 TTLV says, in the cut of document 01, and with one spelling".
-- Assumes nothing. It speaks of the parse, the frame, the conditions in order, the record changes and the response reader.
use Rattle.std.specs.Prelude.{ℕ, suc, ◌+◌, ◌^◌, ◌<◌, ◌≡◌, Bool, true, false, not, ◌&&◌, ◌||◌, List, [], ◌∷◌, map, length, take, leb, ltb, eqb}
use Rattle.std.specs.Prelude.{Option, None, Some}
use Rattle.octets.specs.If.{ifb}
use Rattle.octets.specs.Octets.{Bytes}
use Rattle.octets.specs.Maybe.{◌>>=◌, is_some}
use Rattle.ttlv.specs.Items.{Items, encode}
use Rattle.ttlv.specs.Parse.{message}
use Rattle.table.specs.Records.{place_at, last_serial, latest_clock}
use Rattle.soundness.specs.Sound.{sound}
use Rattle.place_counts.specs.Counts.{table_right}
use Rattle.rules.specs.declared.Reason.{Reason}
use Rattle.rules.specs.Tests.{due}
use Rattle.changes.specs.Dates.{ripened}
use Rattle.batch_item.specs.Item.{Asked}
use Rattle.frame.specs.Frame.{Frame, frame_in, version_ok, count_ok, option_of, option_ok, continue, undo}
use Rattle.payload.specs.Payload.{command}
use Rattle.plans.specs.declared.Outcome.{Outcome}
use Rattle.plans.specs.declared.Outcome.TheVariants.{Failed, Undone}
use Rattle.plans.specs.Plans.{Env, Did, Plan, env_at, is_failed}
use Rattle.act.specs.Act.{plan}
use Rattle.answer.specs.Respond.{Answer, Response, respond}
use Rattle.answer.specs.Read.{answers_in, allowed}
use Rattle.calls.specs.Effects.{Effect}
use Rattle.demands.specs.Box.{Call, Box, Lent, places_of, counted}

-- ---- (a) the refusals

-- the frame that the request's bytes spell, if they spell one
unfoldable pub frame_of : Call → Option Frame
frame_of c = message c.request >>= frame_in

-- a test of the frame, where there is one
unfoldable pub of_frame : (Frame → Bool) → Option Frame → Bool
of_frame test None = false
of_frame test (Some f) = test f

-- 01's table with 02's lines: the conditions of refusals 1 to 11; a clock below 1 is 0 or, by its 64 bits, negative. 02, L8: "a wrong size is refusal 11, tested after 10 for every option"
unfoldable pub refusal_conditions : Call → List Bool
refusal_conditions c =
    ltb (length c.output) 6360
    ∷ not (eqb (length c.strip) 512)
    ∷ not (table_right c.table)
    ∷ (eqb (length c.request) 0 || ltb 4096 (length c.request))
    ∷ not (is_some (message c.request))
    ∷ not (is_some (frame_of c))
    ∷ of_frame (λ f. not (version_ok f.header)) (frame_of c)
    ∷ of_frame (λ f. not (count_ok f)) (frame_of c)
    ∷ of_frame (λ f. not (option_ok (option_of f.header.option))) (frame_of c)
    ∷ (eqb c.clock 0 || leb (2 ^ 63) c.clock)
    ∷ not (eqb (length c.undo) (length c.table))
    ∷ []

-- "The lowest number that applies", numbered from k on; 0 where none does
unfoldable pub lowest : ℕ → List Bool → ℕ
lowest k [] = 0
lowest k (b ∷ bs) = ifb b k (lowest (suc k) bs)

-- ---- what a request begins with

-- the table that the first item meets, place by place: every record as it was but for the state that its dates make of it by the clock that counts,
-- which is the lead's latest now. It is a sound table of bytes, of as many places, so that no byte of it is left open
pub record Begins (c : Call) (start : List ℕ) : Type 0 where
  pub right : sound (places_of c) start ≡ true
  pub bytes : Bytes start
  pub issued : last_serial start ≡ last_serial c.table
  pub latest : latest_clock start ≡ counted c
  pub places : (i : ℕ) → i < places_of c → place_at (places_of c) start i ≡ ripened (counted c) (place_at (places_of c) c.table i)

-- ---- (c) to (f) the items, one after the other

-- one item carried out: what it met and what it left
pub record Link : Type 0 where
  pub env : Env
  pub holder : ℕ
  pub table : List ℕ
  pub asked : Asked
  pub did : Did

-- the conditions of the item in order, and what success does, in the table that it meets
abbrev pub plan_of : Link → Plan
plan_of l = plan l.env l.holder l.table (command l.asked.operation l.asked.payload)

-- (d), (e): it succeeds exactly when none of its conditions holds, and leaves what its line of 01 says;
-- otherwise it carries the reason of the first that holds, leaves the table and empties the placeholder
pub record Due (l : Link) : Type 0 where
  pub succeeds : due (plan_of l).tests ≡ None → l.did ≡ (plan_of l).did
  pub fails : (reason : Reason) → due (plan_of l).tests ≡ Some reason → l.did ≡ record { outcome = Failed reason; table = l.table; holder = 0 }

-- the answer that an item gets: operation and ID as given
unfoldable pub answer_for : Link → Answer
answer_for l = record { operation = l.asked.operation; id = l.asked.id; outcome = l.did.outcome }

-- "Under Stop nothing after the first failed item is carried out or answered": whether the item behind this one is, by the option and by what became of this one
unfoldable pub goes_on : ℕ → Outcome → Bool
goes_on option outcome = not (is_failed outcome) || eqb option continue

-- what item i of a call meets, with a placeholder and a table
abbrev pub link_at : Call → ℕ → ℕ → List ℕ → Asked → Did → Link
link_at c i holder t asked did = record { env = env_at (places_of c) c.strip i; holder = holder; table = t; asked = asked; did = did }

-- (c), (f): the links of a batch under an option, from item i on, with a placeholder and a table: one link for each answered item and none more.
-- The first item is answered; each later one if the option is Continue or the one before it succeeded
pub data Chain (c : Call) (option : ℕ) : ℕ → ℕ → List ℕ → List Asked → List Link → List ℕ → Type 0 where
  none_left : {i holder : ℕ} {t : List ℕ} → Chain c option i holder t [] [] t
  stops : {i holder : ℕ} {t : List ℕ} {later : List Asked} (asked : Asked) (did : Did)
      → Due (link_at c i holder t asked did)
      → goes_on option did.outcome ≡ false
      → Chain c option i holder t (asked ∷ later) (link_at c i holder t asked did ∷ []) did.table
  goes_further : {i holder : ℕ} {t u : List ℕ} {later : List Asked} {links : List Link} (asked : Asked) (did : Did)
      → Due (link_at c i holder t asked did)
      → goes_on option did.outcome ≡ true
      → Chain c option (i + 1) did.holder did.table later links u
      → Chain c option i holder t (asked ∷ later) (link_at c i holder t asked did ∷ links) u

-- ---- what the items leave

-- the option of a request: "absent means Stop"
abbrev pub option_in : Frame → ℕ
option_in f = option_of f.header.option

-- 02, L8: "if any item fails"
unfoldable pub any_fails : List Link → Bool
any_fails [] = false
any_fails (l ∷ links) = is_failed l.did.outcome || any_fails links

-- "Makers want option 3": whether what these links did is undone
abbrev pub is_undone : ℕ → List Link → Bool
is_undone option links = eqb option undo && any_fails links

-- the table that is left under an option, where the links lead from `start` to `reached`: the one reached, and where they are undone "the table after the request is the table before it,
-- apart from the latest clock and the due changes of L3", which is the one that the first item met
unfoldable pub settled : ℕ → List ℕ → List Link → List ℕ → List ℕ
settled option start links reached = ifb (is_undone option links) start reached

-- the answer that an item of an undone batch gets: "those that had succeeded carry status 3 (Operation Undone) and no payload, the failed one its reason"; operation and ID as given
unfoldable pub undone_for : Link → Answer
undone_for l = record { operation = l.asked.operation; id = l.asked.id; outcome = ifb (is_failed l.did.outcome) l.did.outcome Undone }

-- the answers that are given under an option: one for each link, in order
unfoldable pub answers_for : ℕ → List Link → List Answer
answers_for option links = ifb (is_undone option links) (map undone_for links) (map answer_for links)

-- the second buffer: "what it holds after an accepted request with option 3 is the table before the first item, due changes and clock stored, and it is untouched by any other request"
unfoldable pub kept_for : ℕ → List ℕ → List ℕ → List ℕ
kept_for option start buffer = ifb (eqb option undo) start buffer

-- "Time Stamp (420092) = the clock", and these answers
abbrev pub meant : Call → ℕ → List Link → Response
meant c option links = record { clock = counted c; answers = answers_for option links }

-- ---- the whole

-- what an accepted request is given
pub record Answered (c : Call) (e : Effect) : Type 0 where
  -- (b) the one reading of the request's bytes
  pub items : Items
  pub frame : Frame
  pub reads : message c.request ≡ Some items
  pub spelled : encode items ≡ c.request
  pub framed : frame_in items ≡ Some frame
  -- (c) to (f) the chain, from the table that the request begins with, with an empty placeholder, and the table that is left
  pub start : List ℕ
  pub reached : List ℕ
  pub links : List Link
  pub begins : Begins c start
  pub chain : Chain c (option_in frame) 0 0 start frame.items links reached
  pub left : e.table ≡ settled (option_in frame) start links reached
  -- and the second buffer
  pub kept : e.undo ≡ kept_for (option_in frame) start c.undo
  -- "an accepted request stores the one that counted"
  pub stored : latest_clock e.table ≡ counted c
  -- (g) "The response has one spelling": its bytes are the encoding of the clock and these answers
  pub spelling : take e.length e.output ≡ encode (respond (meant c (option_in frame) links))
  -- "and reading it back gives the answers that were meant"
  pub response : Items
  pub readable : message (take e.length e.output) ≡ Some response
  pub read_back : answers_in response ≡ Some (meant c (option_in frame) links)
  -- no other response has these bytes
  pub one_response : (r : Response) → allowed r ≡ true → encode (respond r) ≡ take e.length e.output → r ≡ meant c (option_in frame) links
  -- and no other bytes are read as this response
  pub one_spelling : (s : List ℕ) → Bytes s → (message s >>= answers_in) ≡ Some (meant c (option_in frame) links) → s ≡ take e.length e.output

pub record Demand2 (B : Box) : Type 0 where
  -- (a) the number is k > 0 exactly when k is the lowest whose condition holds, and 0 exactly when none does
  pub number : (c : Call) (e : Effect) → Lent c → B c e → e.number ≡ lowest 1 (refusal_conditions c)
  -- (b) to (g)
  pub answered : (c : Call) (e : Effect) → Lent c → B c e → e.number ≡ 0 → Answered c e
