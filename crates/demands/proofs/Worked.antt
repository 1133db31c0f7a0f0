-- What the demands are made of, worked out clause by clause: one list of cases under one claim, so that a slip in a definition is a case that fails.
-- Assumes nothing. What has to come out stands as numbers, read from the papers and not from the definitions.
use Prim.Native.Nat.{ℕ, ◌+◌, ◌*◌}
use mathlib.Core.Path.{◌≡◌, refl}
use mathlib.Core.Bool.{Bool, true, false}
use Rattle.std.specs.Prelude.{Option, None, Some}
use mathlib.Core.List.{List, [], ◌∷◌, ◌++◌, map}
use lib.ListN.{replicate, drop}
use Rattle.hex_digits.specs.Texts.{hex}
use Rattle.octets.specs.If.{ifb}
use Rattle.octets.specs.Maybe.{◌>>=◌, ◌>>◌, is_some}
use Rattle.octets.specs.Octets.{be, from_be_after, from_be, all, same}
use Rattle.utf8.specs.Text.{text}
use Rattle.ttlv_types.specs.Types.{length_ok, value_ok}
use Rattle.ttlv.specs.Items.{Items, nil, encode, item_ok, well_formed, ended}
use Rattle.ttlv.specs.Parse.{headed, first_of, put_value, put_group, more, walk, parse}
use Rattle.fields.specs.Fields.{starts_with, bytes_of, body_of, number_of, optional}
use Rattle.identifier.specs.Identifier.{digits, identifier, from_digits_after, serial_of}
use Rattle.table.specs.Layout.{small_count}
use Rattle.table.specs.declared.Record.{Record}
use Rattle.words.specs.Words.{words_of, word_bytes, filled}
use Rattle.names.specs.Names.{no_name, name_field, stored_name, name_of, name_ok}
use Rattle.name_read.specs.Name.{name_body, name_first, only_name_in, or_no_name, last_name_in}
use Rattle.table.specs.Records.{line, body, record_of, place_at, with_place, serial_at, state_at, name_at, blank, latest_clock, places_said}
use Rattle.search.specs.Search.{first_from, or_else, find, free_place, destroyed_place, new_place}
use Rattle.soundness.specs.Checked.{is_at}
use Rattle.rules.specs.declared.Reason.TheVariants.{UsageLimitExceeded}
use Rattle.batch_item.specs.Item.{Asked}
use Rattle.target_read.specs.declared.Target.TheVariants.{Placeholder, Serial}
use Rattle.payload.specs.declared.Command.{Command}
use Rattle.payload.specs.declared.Command.TheVariants.{Unsupported, Invalid, Create, Rekey, GetUsageAllocation, Activate, Revoke, Destroy, GetAttributes, Get, Locate}
use Rattle.attributes_read.specs.Attributes.{limit_in, limit_first, date_first, or_unset, dated_in, wanted_of, limited_in, masked_in, attributes_in}
use Rattle.payload.specs.Payload.{create_in, rekey_in, alone_in, allocation_in, revoke_in, locate_in, or_invalid, command}
use Rattle.date_rules.specs.Dates.{started_state, stopped_state, dated_state}
use Rattle.heirs.specs.Heirs.{heir_activation, heir_deactivation}
use Rattle.target_read.specs.Target.{target_of, target_in}
use Rattle.plans.specs.declared.Key.{Key}
use Rattle.plans.specs.declared.Outcome.{Outcome}
use Rattle.plans.specs.declared.Outcome.TheVariants.{Failed, Created, Done, Showed, Got, Located, Undone}
use Rattle.act.specs.Act.{sought}
use Rattle.plans.specs.Plans.{is_failed}
use Rattle.answer.specs.Respond.{Answer}
use Rattle.demands.specs.Box.{Call, Box, counted, places_of}
use Rattle.demands.specs.Demand1.{refusals, longest}
use Rattle.demands.specs.Demand2.{Link, refusal_conditions, of_frame, lowest, goes_on, link_at, answer_for, any_fails, is_undone, settled, undone_for, answers_for, kept_for}
use Rattle.demands.specs.Log.{Event, held_after, paired, or_no_items, or_no_answers, onto, issued_by, issued, grant_by, granted, limit_by, limit, name_by, heir_from, name_in, handed_by, destroyed_by, was_destroyed, handed_dead}
use Rattle.demands.specs.Demand3.{Run, begins, named_by, is_understood, moves_state, asks_key, asks_heir, asks_units, asks_name, is_made, carries, code_of, names, takes, may_take, born_by, name_born, found_in, born_state, listed, listed_for, listed_by}

-- ---- commands and outcomes

-- one of each command; those that name a record name identifier 7
commands : List Command
commands =
    Unsupported
    ∷ Invalid
    ∷ Create (record { bits = 128; mask = 4; unit = 2; total = 100; activation = 0; deactivation = 0; name = no_name })
    ∷ Rekey (Serial 7) None
    ∷ GetUsageAllocation (Serial 7) 60
    ∷ Activate (Serial 7)
    ∷ Revoke (Serial 7) 5
    ∷ Destroy (Serial 7)
    ∷ GetAttributes (Serial 7)
    ∷ Get (Serial 7)
    ∷ Locate no_name
    ∷ []

-- by the placeholder
held_commands : List Command
held_commands = Rekey Placeholder None ∷ GetUsageAllocation Placeholder 60 ∷ Activate Placeholder ∷ Revoke Placeholder 5 ∷ Destroy Placeholder ∷ GetAttributes Placeholder ∷ Get Placeholder ∷ []

-- a key of 128 bits
key : ℕ → Key
key serial = record { serial = serial; bits = 128; material = record { a = 1; b = 2; c = 0; d = 0 } }

-- one of each outcome; those that carry an identifier carry 8, and what was undone carries none
outcomes : List Outcome
outcomes =
    Failed UsageLimitExceeded
    ∷ Created 8
    ∷ Done 8
    ∷ Showed (record { serial = 8; bits = 128; mask = 4; state = 1; activation = 0; deactivation = 0; unit = 2; total = 100; count = 100; replaced = 0; replacement = 0; name = no_name })
    ∷ Got (key 8)
    ∷ Located 8
    ∷ Undone
    ∷ []

flag : Bool → ℕ
flag b = ifb b 1 0

-- what comes of each command with each outcome
matrix : (Command → Outcome → ℕ) → List Command → List ℕ
matrix f [] = []
matrix f (c ∷ cs) = map (f c) outcomes ++ matrix f cs

none_of : List ℕ
none_of = 0 ∷ 0 ∷ 0 ∷ 0 ∷ 0 ∷ 0 ∷ 0 ∷ []

command_cases : List Bool
command_cases =
    same (map (named_by 3) commands) (0 ∷ 0 ∷ 0 ∷ 7 ∷ 7 ∷ 7 ∷ 7 ∷ 7 ∷ 7 ∷ 7 ∷ 0 ∷ [])
    ∷ same (map (named_by 3) held_commands) (3 ∷ 3 ∷ 3 ∷ 3 ∷ 3 ∷ 3 ∷ 3 ∷ [])
    ∷ same (map (λ c. flag (is_understood c)) commands) (0 ∷ 0 ∷ 1 ∷ 1 ∷ 1 ∷ 1 ∷ 1 ∷ 1 ∷ 1 ∷ 1 ∷ 1 ∷ [])
    ∷ same (map (λ c. flag (moves_state c)) commands) (0 ∷ 0 ∷ 0 ∷ 0 ∷ 0 ∷ 1 ∷ 1 ∷ 1 ∷ 0 ∷ 0 ∷ 0 ∷ [])
    ∷ same (map code_of commands) (0 ∷ 0 ∷ 0 ∷ 0 ∷ 0 ∷ 0 ∷ 5 ∷ 0 ∷ 0 ∷ 0 ∷ 0 ∷ [])
    -- Get alone asks for the key itself
    ∷ same (map (λ c. flag (asks_key c)) commands) (0 ∷ 0 ∷ 0 ∷ 0 ∷ 0 ∷ 0 ∷ 0 ∷ 0 ∷ 0 ∷ 1 ∷ 0 ∷ [])
    -- Re-key alone for a replacement
    ∷ same (map (λ c. flag (asks_heir c)) commands) (0 ∷ 0 ∷ 0 ∷ 1 ∷ 0 ∷ 0 ∷ 0 ∷ 0 ∷ 0 ∷ 0 ∷ 0 ∷ [])
    -- Get Usage Allocation alone for units
    ∷ same (map (λ c. flag (asks_units c)) commands) (0 ∷ 0 ∷ 0 ∷ 0 ∷ 1 ∷ 0 ∷ 0 ∷ 0 ∷ 0 ∷ 0 ∷ 0 ∷ [])
    -- and Locate alone for a record by its name
    ∷ same (map (λ c. flag (asks_name c)) commands) (0 ∷ 0 ∷ 0 ∷ 0 ∷ 0 ∷ 0 ∷ 0 ∷ 0 ∷ 0 ∷ 0 ∷ 1 ∷ [])
    -- Create issues by Created, Re-key by Done, and nothing else issues
    ∷ same (matrix issued_by commands) (none_of ++ (none_of ++ ((0 ∷ 8 ∷ 0 ∷ 0 ∷ 0 ∷ 0 ∷ 0 ∷ []) ++ ((0 ∷ 0 ∷ 8 ∷ 0 ∷ 0 ∷ 0 ∷ 0 ∷ []) ++ replicate 49 0))))
    -- Get Usage Allocation grants by Done, to the identifier that is carried, and nothing else grants
    ∷ same (matrix (grant_by 8) commands) (replicate 28 0 ++ ((0 ∷ 0 ∷ 60 ∷ 0 ∷ 0 ∷ 0 ∷ 0 ∷ []) ++ replicate 42 0))
    ∷ same (matrix (grant_by 7) commands) (replicate 77 0)
    -- what an answer carries; a key is handed out by Got, and Destroy alone destroys, by Done
    ∷ same (map carries outcomes) (0 ∷ 8 ∷ 8 ∷ 8 ∷ 8 ∷ 8 ∷ 0 ∷ [])
    ∷ same (map handed_by outcomes) (0 ∷ 0 ∷ 0 ∷ 0 ∷ 8 ∷ 0 ∷ 0 ∷ [])
    ∷ same (map (destroyed_by 0x14) outcomes) (0 ∷ 0 ∷ 8 ∷ 0 ∷ 0 ∷ 0 ∷ 0 ∷ [])
    ∷ same (map (destroyed_by 0x13) outcomes) none_of
    -- what failed and what was undone count as never made
    ∷ same (map (λ o. flag (is_made o)) outcomes) (0 ∷ 1 ∷ 1 ∷ 1 ∷ 1 ∷ 1 ∷ 0 ∷ [])
    ∷ []

-- ---- states

-- the numbers below 8
eight : List ℕ
eight = 0 ∷ 1 ∷ 2 ∷ 3 ∷ 4 ∷ 5 ∷ 6 ∷ 7 ∷ []

-- the listed transitions of an operation with a code from a state, as two digits
ways_to : ℕ → ℕ → ℕ → List ℕ → List ℕ
ways_to operation code from [] = []
ways_to operation code from (to ∷ later) = let rest = ways_to operation code from later in ifb (listed operation code from to) ((from * 10 + to) ∷ rest) rest

ways_from : ℕ → ℕ → List ℕ → List ℕ
ways_from operation code [] = []
ways_from operation code (from ∷ later) = ways_to operation code from eight ++ ways_from operation code later

-- all of them
ways : ℕ → ℕ → List ℕ
ways operation code = ways_from operation code eight

-- "Activate", "Revoke" code by code, "Destroy"; Create, Re-key, Get Usage Allocation, Get Attributes and Get move nothing
state_cases : List Bool
state_cases =
    same (ways 0x12 0) (12 ∷ [])
    ∷ same (ways 0x13 1) (23 ∷ [])
    ∷ same (ways 0x13 2) (14 ∷ 24 ∷ 34 ∷ 56 ∷ [])
    ∷ same (ways 0x13 3) (14 ∷ 24 ∷ 34 ∷ 56 ∷ [])
    ∷ same (ways 0x13 4) (23 ∷ [])
    ∷ same (ways 0x13 5) (23 ∷ [])
    ∷ same (ways 0x13 6) (23 ∷ [])
    ∷ same (ways 0x13 7) (23 ∷ [])
    ∷ same (ways 0x14 0) (15 ∷ 35 ∷ 46 ∷ [])
    ∷ same (ways 0x01 0) []
    ∷ same (ways 0x04 0) []
    ∷ same (ways 0x11 0) []
    ∷ same (ways 0x0B 0) []
    ∷ same (ways 0x0A 0) []
    ∷ []

-- ---- dates, at clock 5

-- a key in a state, with an activation and a deactivation date
dated_key : ℕ → ℕ → ℕ → Record
dated_key activation deactivation state = record {
  serial = 7;
  state = state;
  unit = 0;
  bits = 128;
  replaced = 0;
  replacement = 0;
  total = 0;
  count = 0;
  mask = 4;
  material = [];
  activation = activation;
  deactivation = deactivation;
  name = no_name;
}

-- the listed changes by these dates, as two digits
due_to : ℕ → ℕ → ℕ → List ℕ → List ℕ
due_to activation deactivation from [] = []
due_to activation deactivation from (to ∷ later) =
    let rest = due_to activation deactivation from later in ifb (listed_by 5 (dated_key activation deactivation from) to) ((from * 10 + to) ∷ rest) rest

due_from : ℕ → ℕ → List ℕ → List ℕ
due_from activation deactivation [] = []
due_from activation deactivation (from ∷ later) = due_to activation deactivation from eight ++ due_from activation deactivation later

date_cases : List Bool
date_cases =
    -- a date that is not set does nothing, one that is to come neither, and one of now acts
    same (due_from 0 0 eight) []
    ∷ same (due_from 6 7 eight) []
    ∷ same (due_from 5 0 eight) (12 ∷ [])
    ∷ same (due_from 5 6 eight) (12 ∷ [])
    ∷ same (due_from 0 5 eight) (23 ∷ [])
    ∷ same (due_from 4 5 eight) (12 ∷ 13 ∷ 23 ∷ [])
    ∷ []

-- ---- a log

-- the items that bytes are
items_read : Option Items → Items
items_read None = nil
items_read (Some t) = t

asking : ℕ → List ℕ → Asked
asking operation payload = record { operation = operation; id = []; payload = items_read (parse 6 payload) }

-- Create with total 100, Activate and a grant of 60 by the placeholder, 50 by identifier, Re-key by identifier, a grant of 10 by the placeholder, Get Attributes, Re-key and Destroy by the placeholder
items : List Asked
items =
    asking 0x01 (hex "42005705 00000004 00000002 00000000 42012501 00000058 42002805 00000004 00000003 00000000 42002A02 00000004 00000080 00000000 42002C02 00000004 00000004 00000000 42009501 00000020 42009703 00000008 00000000 00000064 42009805 00000004 00000002 00000000")
    ∷ asking 0x12 []
    ∷ asking 0x11 (hex "42009603 00000008 00000000 0000003C")
    ∷ asking 0x11 (hex "42009407 00000008 30303030 30303031 42009603 00000008 00000000 00000032")
    ∷ asking 0x04 (hex "42009407 00000008 30303030 30303031")
    ∷ asking 0x11 (hex "42009603 00000008 00000000 0000000A")
    ∷ asking 0x0B []
    ∷ asking 0x04 []
    ∷ asking 0x14 []
    ∷ []

answering : ℕ → Outcome → Answer
answering operation outcome = record { operation = operation; id = []; outcome = outcome }

answers : List Answer
answers =
    answering 0x01 (Created 1)
    ∷ answering 0x12 (Done 1)
    ∷ answering 0x11 (Done 1)
    ∷ answering 0x11 (Failed UsageLimitExceeded)
    ∷ answering 0x04 (Done 2)
    ∷ answering 0x11 (Done 2)
    ∷ answering 0x0B (Showed (record { serial = 2; bits = 128; mask = 4; state = 1; activation = 0; deactivation = 0; unit = 2; total = 100; count = 90; replaced = 1; replacement = 0; name = no_name }))
    ∷ answering 0x04 (Done 3)
    ∷ answering 0x14 (Done 3)
    ∷ []

events : List Event
events = paired 0 items answers

log : List Event
log = onto events []

-- the same items, each answered as undone
undone_events : List Event
undone_events = paired 0 items (map (λ (a : Answer). answering a.operation Undone) answers)

undone_log : List Event
undone_log = onto undone_events []

-- what a log says of the identifiers 1 to 4
of_each : (ℕ → List Event → ℕ) → List Event → List ℕ
of_each f l = map (λ x. f x l) (1 ∷ 2 ∷ 3 ∷ 4 ∷ [])

of_none : List ℕ
of_none = 0 ∷ 0 ∷ 0 ∷ 0 ∷ []

destroyed_in : ℕ → List Event → ℕ
destroyed_in x l = flag (was_destroyed x l)

-- a Get of 3 that is answered
got : Event
got = record { held = 0; asked = asking 0x0A (hex "42009407 00000008 30303030 30303033"); answer = answering 0x0A (Got (key 3)) }

-- and one that was undone
got_undone : Event
got_undone = record { held = 0; asked = got.asked; answer = answering 0x0A Undone }

held_in : List Event → List ℕ
held_in l = map (λ (ev : Event). ev.held) l

limit_of : Event → Command → ℕ
limit_of ev c = limit_by ev c (λ x. 500 + x)

-- Create with the name "ab", and Re-key of it, answered so
named : Outcome → List Event
named outcome =
    onto (paired 0 (asking 0x01 (hex "42005705 00000004 00000002 00000000 42012501 00000058 42002805 00000004 00000003 00000000 42002A02 00000004 00000080 00000000 42002C02 00000004 00000004 00000000 42005301 00000020 42005507 00000002 61620000 00000000 42005405 00000004 00000001 00000000") ∷ asking 0x04 (hex "42009407 00000008 30303030 30303031") ∷ []) (answering 0x01 (Created 1) ∷ answering 0x04 outcome ∷ [])) []

-- the lengths of the names that a log gives to the identifiers 1 to 4
names_of : List Event → List ℕ
names_of l = map (λ x. (name_in x l).len) (1 ∷ 2 ∷ 3 ∷ 4 ∷ [])

-- a key with a name of three bytes
called_key : Record
called_key = record { serial = 7; state = 1; unit = 0; bits = 128; replaced = 0; replacement = 0; total = 0; count = 0; mask = 4; material = []; activation = 0; deactivation = 0; name = name_of (hex "616263") }

-- an event with a placeholder
holding : ℕ → Event
holding held = record { held = held; asked = asking 0 []; answer = answering 0 (Done 0) }

log_cases : List Bool
log_cases =
    -- Create, Re-key and Locate set the placeholder, a failed item and one that was undone empty it, others keep it
    same (map (held_after 3 (answering 0x04 (Done 8))) outcomes) (0 ∷ 8 ∷ 8 ∷ 3 ∷ 3 ∷ 8 ∷ 0 ∷ [])
    ∷ same (map (held_after 3 (answering 0x12 (Done 8))) outcomes) (0 ∷ 8 ∷ 3 ∷ 3 ∷ 3 ∷ 8 ∷ 0 ∷ [])
    ∷ same (held_in events) (0 ∷ 1 ∷ 1 ∷ 1 ∷ 0 ∷ 2 ∷ 2 ∷ 2 ∷ 3 ∷ [])
    -- the latest first
    ∷ same (held_in log) (3 ∷ 2 ∷ 2 ∷ 2 ∷ 0 ∷ 1 ∷ 1 ∷ 1 ∷ 0 ∷ [])
    -- item and answer go together, and what is left over of either is no event
    ∷ same (held_in (paired 5 items (answering 0x01 (Created 1) ∷ []))) (5 ∷ [])
    ∷ same (held_in (paired 5 items [])) []
    ∷ same (held_in (paired 5 [] answers)) []
    ∷ same (map (λ (ev : Event). ev.asked.operation) events) (map (λ (ev : Event). ev.answer.operation) events)
    -- bytes that are no request have no items, and bytes that are no response no answers
    ∷ same (held_in (paired 5 (or_no_items None) answers)) []
    ∷ same (held_in (paired 5 items (or_no_answers None))) []
    ∷ same (of_each issued log) (1 ∷ 1 ∷ 1 ∷ 0 ∷ [])
    ∷ same (of_each issued (onto events log)) (2 ∷ 2 ∷ 2 ∷ 0 ∷ [])
    ∷ same (of_each granted log) (60 ∷ 10 ∷ 0 ∷ 0 ∷ [])
    ∷ same (of_each limit log) (100 ∷ 100 ∷ 100 ∷ 0 ∷ [])
    ∷ same (of_each issued []) of_none
    ∷ same (of_each granted []) of_none
    ∷ same (of_each limit []) of_none
    ∷ same (map (limit_of (holding 3)) commands) (0 ∷ 0 ∷ 100 ∷ 507 ∷ 0 ∷ 0 ∷ 0 ∷ 0 ∷ 0 ∷ 0 ∷ 0 ∷ [])
    ∷ same (map (limit_of (holding 3)) held_commands) (503 ∷ 0 ∷ 0 ∷ 0 ∷ 0 ∷ 0 ∷ 0 ∷ [])
    -- a name goes from the old key to the new, and stays where Re-key failed or was undone
    ∷ same (names_of (named (Done 2))) (0 ∷ 2 ∷ 0 ∷ 0 ∷ [])
    ∷ same (names_of (named (Failed UsageLimitExceeded))) (2 ∷ 0 ∷ 0 ∷ 0 ∷ [])
    ∷ same (names_of (named Undone)) (2 ∷ 0 ∷ 0 ∷ 0 ∷ [])
    ∷ same (names_of []) of_none
    ∷ same (map (heir_from 3) commands) (0 ∷ 0 ∷ 0 ∷ 7 ∷ 0 ∷ 0 ∷ 0 ∷ 0 ∷ 0 ∷ 0 ∷ 0 ∷ [])
    ∷ same (map (heir_from 3) held_commands) (3 ∷ 0 ∷ 0 ∷ 0 ∷ 0 ∷ 0 ∷ 0 ∷ [])
    ∷ same (map (λ c. (name_born c called_key).len) commands) (0 ∷ 0 ∷ 0 ∷ 3 ∷ 0 ∷ 0 ∷ 0 ∷ 0 ∷ 0 ∷ 0 ∷ 0 ∷ [])
    ∷ same ((name_born (Create (record { bits = 128; mask = 4; unit = 0; total = 0; activation = 0; deactivation = 0; name = name_of (hex "6162") })) called_key).len ∷ []) (2 ∷ [])
    -- 3 was destroyed; what was handed out of it before does not count, and each time after does
    ∷ same (of_each destroyed_in log) (0 ∷ 0 ∷ 1 ∷ 0 ∷ [])
    ∷ same (of_each destroyed_in (got ∷ log)) (0 ∷ 0 ∷ 1 ∷ 0 ∷ [])
    ∷ same (of_each destroyed_in []) of_none
    ∷ same (of_each handed_dead log) of_none
    ∷ same (of_each handed_dead (onto events (got ∷ []))) of_none
    ∷ same (of_each handed_dead (got ∷ log)) (0 ∷ 0 ∷ 1 ∷ 0 ∷ [])
    ∷ same (of_each handed_dead (got ∷ got ∷ log)) (0 ∷ 0 ∷ 2 ∷ 0 ∷ [])
    ∷ same (of_each handed_dead []) of_none
    -- what was undone counts as never made: nothing is issued, granted, begun with or destroyed, and nothing is handed out
    ∷ same (held_in undone_events) (replicate 9 0)
    ∷ same (of_each issued undone_log) of_none
    ∷ same (of_each granted undone_log) of_none
    ∷ same (of_each limit undone_log) of_none
    ∷ same (of_each destroyed_in undone_log) of_none
    ∷ same (of_each handed_dead (got_undone ∷ log)) of_none
    ∷ same (of_each handed_dead (got ∷ undone_log)) of_none
    -- so a serial from an undone item is issued once where it is issued again, and what stands is untouched by what is undone behind it
    ∷ same (of_each issued (onto events undone_log)) (1 ∷ 1 ∷ 1 ∷ 0 ∷ [])
    ∷ same (of_each issued (onto undone_events log)) (1 ∷ 1 ∷ 1 ∷ 0 ∷ [])
    ∷ same (of_each granted (onto undone_events log)) (60 ∷ 10 ∷ 0 ∷ 0 ∷ [])
    ∷ same (of_each limit (onto undone_events log)) (100 ∷ 100 ∷ 100 ∷ 0 ∷ [])
    ∷ same (of_each destroyed_in (onto undone_events log)) (0 ∷ 0 ∷ 1 ∷ 0 ∷ [])
    ∷ []

-- ---- places

-- a table with one key, identifier 7 at place 1 in a state
keyed : ℕ → List ℕ
keyed state = with_place small_count (blank small_count) 1 (record { serial = 7; state = state; unit = 0; bits = 128; replaced = 0; replacement = 0; total = 0; count = 0; mask = 4; material = replicate 32 0; activation = 0; deactivation = 0; name = no_name })

activating : Event
activating = record { held = 7; asked = asking 0x12 []; answer = answering 0x12 (Done 7) }

rekeying : Outcome → Event
rekeying outcome = record { held = 7; asked = asking 0x04 []; answer = answering 0x04 outcome }

-- of places 0 to 2
of_places : (ℕ → Bool) → List ℕ
of_places test = map (λ i. flag (test i)) (0 ∷ 1 ∷ 2 ∷ [])

place_cases : List Bool
place_cases =
    same (of_places (λ i. is_at i (Some 1))) (0 ∷ 1 ∷ 0 ∷ [])
    ∷ same (of_places (λ i. is_at i None)) (0 ∷ 0 ∷ 0 ∷ [])
    -- the key that the placeholder names
    ∷ same (of_places (names small_count activating (keyed 1))) (0 ∷ 1 ∷ 0 ∷ [])
    -- what issues an identifier takes the lowest free place, and an item that failed or was undone none
    ∷ same (of_places (takes small_count (rekeying (Done 8)) (keyed 1))) (1 ∷ 0 ∷ 0 ∷ [])
    ∷ same (of_places (takes small_count (rekeying (Failed UsageLimitExceeded)) (keyed 1))) (0 ∷ 0 ∷ 0 ∷ [])
    ∷ same (of_places (takes small_count activating (keyed 1))) (0 ∷ 0 ∷ 0 ∷ [])
    ∷ same (of_places (takes small_count (rekeying Undone) (keyed 1))) (0 ∷ 0 ∷ 0 ∷ [])
    -- Activate moves 1 to 2 and not 2 to 1
    ∷ same (of_places (listed_for small_count activating (keyed 1) (keyed 2))) (0 ∷ 1 ∷ 0 ∷ [])
    ∷ same (of_places (listed_for small_count activating (keyed 2) (keyed 1))) (0 ∷ 0 ∷ 0 ∷ [])
    ∷ same (born_state small_count activating (keyed 2) ∷ []) (1 ∷ [])
    -- at clock 5 a replacement begins as its dates make it, copied or moved by an Offset, and everything else Pre-Active
    ∷ same (map (λ c. born_by 5 c (dated_key 4 5 2)) commands) (1 ∷ 1 ∷ 1 ∷ 3 ∷ 1 ∷ 1 ∷ 1 ∷ 1 ∷ 1 ∷ 1 ∷ 1 ∷ [])
    ∷ same (map (λ (o : Option ℕ). born_by 5 (Rekey (Serial 7) o) (dated_key 4 6 2)) (None ∷ Some 0 ∷ Some 1 ∷ [])) (2 ∷ 2 ∷ 1 ∷ [])
    ∷ same (map (λ (o : Option ℕ). born_by 5 (Rekey (Serial 7) o) (dated_key 4 4 3)) (None ∷ Some 0 ∷ Some 1 ∷ [])) (3 ∷ 3 ∷ 1 ∷ [])
    -- a free place may be taken, and one in state 5 or 6
    ∷ same (of_places (may_take small_count (keyed 4))) (1 ∷ 0 ∷ 1 ∷ [])
    ∷ same (of_places (may_take small_count (keyed 5))) (1 ∷ 1 ∷ 1 ∷ [])
    ∷ same (of_places (may_take small_count (keyed 6))) (1 ∷ 1 ∷ 1 ∷ [])
    ∷ []

-- ---- refusals, and the items of a call

-- a call with clock 9 on a table whose latest clock is 7, and a strip of 7s for item 0 and 8s for item 1
call : Call
call = record { request = []; table = hex "00000000 00000040 00000000 00000007"; strip = replicate 32 7 ++ replicate 32 8; clock = 9; output = []; undo = [] }

-- the same with clock 5
before : Call
before = record { request = []; table = call.table; strip = []; clock = 5; output = []; undo = [] }

-- a call with a table of 256 places, of which the lead alone is here, a clock, and a second buffer
large : ℕ → List ℕ → Call
large clock undo = record { request = []; table = hex "00000000 00000100 00000000 00000007"; strip = []; clock = clock; output = []; undo = undo }

-- the conditions of refusals 10 and 11
late : Call → List ℕ
late c = map flag (drop 9 (refusal_conditions c))

-- item 1, with an ID of its own
second : Link
second = link_at call 1 5 [] (record { operation = 0x12; id = 1 ∷ 2 ∷ 3 ∷ []; payload = nil }) (record { outcome = Done 6; table = []; holder = 5 })

-- item 2, which failed
third : Link
third = link_at call 2 5 [] (record { operation = 0x14; id = 4 ∷ []; payload = nil }) (record { outcome = Failed UsageLimitExceeded; table = []; holder = 0 })

-- some that succeeded, and some with one that failed among them
passing : List Link
passing = second ∷ second ∷ []

failing : List Link
failing = second ∷ second ∷ third ∷ []

-- the status of an answer: 0 success, 1 failed, 3 undone
status : Outcome → ℕ
status (Failed reason) = 1
status (Created serial) = 0
status (Done serial) = 0
status (Showed shown) = 0
status (Got k) = 0
status (Located serial) = 0
status Undone = 3

-- the statuses that are answered under an option, and the table that is left: 5 before, 6 behind the items
statuses : List Link → ℕ → List ℕ
statuses links option = map (λ (a : Answer). status a.outcome) (answers_for option links)

tables : List Link → ℕ → List ℕ
tables links option = settled option (5 ∷ []) links (6 ∷ [])

-- the options Continue, Stop and Undo
options : List ℕ
options = 1 ∷ 2 ∷ 3 ∷ []

call_cases : List Bool
call_cases =
    same (lowest 1 [] ∷ lowest 1 (false ∷ false ∷ []) ∷ lowest 1 (false ∷ true ∷ true ∷ []) ∷ lowest 5 (true ∷ []) ∷ []) (0 ∷ 0 ∷ 2 ∷ 5 ∷ [])
    ∷ same (flag (of_frame (λ f. true) None) ∷ []) (0 ∷ [])
    -- eleven refusals
    ∷ same (refusals ∷ []) (11 ∷ [])
    -- the longest response
    ∷ same (longest ∷ []) (6360 ∷ [])
    -- as many places as the lead says
    ∷ same (places_of call ∷ places_of (large 1 []) ∷ []) (64 ∷ 256 ∷ [])
    -- a clock below 1 is refusal 10, a second buffer of another size refusal 11
    ∷ same (late (large 0 [])) (1 ∷ 1 ∷ [])
    ∷ same (late (large 1 (replicate 16 0))) (0 ∷ 0 ∷ [])
    ∷ same (late (large 0x8000000000000000 (replicate 17 0))) (1 ∷ 1 ∷ [])
    -- under Continue (1) a batch goes on behind each outcome, under Stop (2) not behind a failure
    ∷ same (map (λ o. flag (goes_on 1 o)) outcomes) (1 ∷ 1 ∷ 1 ∷ 1 ∷ 1 ∷ 1 ∷ 1 ∷ [])
    ∷ same (map (λ o. flag (goes_on 2 o)) outcomes) (0 ∷ 1 ∷ 1 ∷ 1 ∷ 1 ∷ 1 ∷ 1 ∷ [])
    -- and no more under Undo (3)
    ∷ same (map (λ o. flag (goes_on 3 o)) outcomes) (0 ∷ 1 ∷ 1 ∷ 1 ∷ 1 ∷ 1 ∷ 1 ∷ [])
    -- item 1 takes bytes 32 to 63 of the strip and the placeholder, the clock that counts is the later one, and the answer has its operation and ID
    ∷ same second.env.fresh (replicate 32 8)
    ∷ same (second.holder ∷ counted call ∷ counted before ∷ []) (5 ∷ 9 ∷ 7 ∷ [])
    ∷ same ((answer_for second).operation ∷ (answer_for second).id) (0x12 ∷ 1 ∷ 2 ∷ 3 ∷ [])
    ∷ same (map (λ (a : Answer). a.operation) (answers_for 1 (second ∷ second ∷ []))) (0x12 ∷ 0x12 ∷ [])
    -- one that failed is among some, wherever it stands
    ∷ same (map (λ links. flag (any_fails links)) ([] ∷ passing ∷ failing ∷ (third ∷ second ∷ []) ∷ [])) (0 ∷ 0 ∷ 1 ∷ 1 ∷ [])
    -- what failed is undone under Undo alone, and what passed under no option
    ∷ same (map (λ k. flag (is_undone k failing)) options) (0 ∷ 0 ∷ 1 ∷ [])
    ∷ same (map (λ k. flag (is_undone k passing)) options) (0 ∷ 0 ∷ 0 ∷ [])
    -- then the table is the one before the items, and those that had succeeded carry status 3, the failed one its own
    ∷ same (tables failing 1 ++ (tables failing 2 ++ tables failing 3)) (6 ∷ 6 ∷ 5 ∷ [])
    ∷ same (tables passing 1 ++ (tables passing 2 ++ tables passing 3)) (6 ∷ 6 ∷ 6 ∷ [])
    ∷ same (statuses failing 2) (0 ∷ 0 ∷ 1 ∷ [])
    ∷ same (statuses failing 3) (3 ∷ 3 ∷ 1 ∷ [])
    ∷ same (statuses passing 3) (0 ∷ 0 ∷ [])
    -- operation and ID as given
    ∷ same (map (λ (a : Answer). a.operation) (answers_for 3 failing)) (0x12 ∷ 0x12 ∷ 0x14 ∷ [])
    ∷ same ((undone_for second).id ++ (undone_for third).id) (1 ∷ 2 ∷ 3 ∷ 4 ∷ [])
    -- the second buffer holds the table before the items under Undo, and what it held under the others
    ∷ same (kept_for 1 (5 ∷ []) (9 ∷ []) ++ (kept_for 2 (5 ∷ []) (9 ∷ []) ++ kept_for 3 (5 ∷ []) (9 ∷ []))) (9 ∷ 9 ∷ 5 ∷ [])
    ∷ []

-- ---- the list

pub cases : List Bool
cases = command_cases ++ (state_cases ++ (date_cases ++ (log_cases ++ (place_cases ++ call_cases))))

-- every case holds
pub worked : all (λ b. b) cases ≡ true
unfolding cases large late refusal_conditions places_said is_made any_fails settled undone_for answers_for kept_for undone_events undone_log got_undone third passing failing status statuses tables options born_by found_in heir_activation heir_deactivation dated_state stopped_state started_state date_cases dated_key due_to due_from listed_by before latest_clock key of_none destroyed_in got named names_of called_key name_by heir_from name_in name_born asks_key asks_heir asks_units asks_name carries handed_by destroyed_by was_destroyed handed_dead command_cases state_cases log_cases place_cases call_cases commands held_commands outcomes flag matrix none_of eight ways_to ways_from ways items_read asking items answering answers events log of_each held_in limit_of holding keyed activating rekeying of_places call second goes_on is_failed answer_for named_by is_understood moves_state code_of listed is_at held_after paired or_no_items or_no_answers onto issued_by issued grant_by granted limit_by limit of_frame lowest sought ifb ◌>>=◌ ◌>>◌ is_some be from_be_after from_be all same length_ok text value_ok encode item_ok well_formed ended headed first_of put_value put_group more walk parse starts_with bytes_of body_of number_of optional digits identifier from_digits_after serial_of limit_in limit_first date_first or_unset dated_in last_name_in name_first name_body or_no_name name_of name_ok wanted_of limited_in masked_in attributes_in create_in target_of target_in rekey_in alone_in allocation_in revoke_in locate_in only_name_in or_invalid command line body record_of place_at with_place serial_at state_at name_at name_field stored_name words_of word_bytes filled blank first_from or_else find free_place destroyed_place new_place
worked = refl

-- a run begins with a blank table of its own number of places
pub begun : (n : ℕ) (B : Box) → Run n B [] (blank n)
begun n B = begins
